-- `change::carried_fits` meets its contract.
use Rattle.interval.specs.Answers.{levels_of, line_of}
use Rattle.change.proofs.Both.{first_over, first_within, second_within, no_level, no_bucket}
use Rattle.change.proofs.carried_fits.Goals as goal

pub returns-then-buffers-at : goal.returns-then-buffers-at
unfolding line_of levels_of
returns-then-buffers-at c = first_over _ _ _ _ c.if-buffers-at.true

pub returns-in-Some-Some : goal.returns-in-Some-Some
unfolding line_of levels_of
returns-in-Some-Some c = first_within _ _ _ _ _ c.if-buffers-at.false (rw (c.in-Some-Some.is-0, c.in-Some-Some.is-1) (second_within _ _))

pub returns-in_default : goal.returns-in_default
unfolding line_of levels_of
returns-in_default c = rw (c.in_default.is-0, c.in_default.is-1) (first_within _ _ _ _ _ c.if-buffers-at.false (no_level _))

pub returns-in_default-2 : goal.returns-in_default-2
unfolding line_of levels_of
returns-in_default-2 c = rw c.in_default.is-0 (first_within _ _ _ _ _ c.if-buffers-at.false (no_bucket _))
