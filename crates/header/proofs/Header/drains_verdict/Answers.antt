-- `header::Header::drains_verdict` meets its contract: the first bucket, then the second where there is one.
use mathlib.Core.Path.{refl, ◌∙◌}
use Rattle.base.specs.Refusals.{unless}
use Rattle.format.specs.Limits.{broken}
use Rattle.header.specs.Answers.{policed_of, plain, door_of}
use Rattle.header.proofs.Told.{handed_on}
use Rattle.header.proofs.Drains.{then_more}
use Rattle.header.proofs.Header.drains_verdict.Goals as goal

pub returns-in_err-drains_verdict-in-Opening : goal.returns-in_err-drains_verdict-in-Opening
unfolding plain policed_of door_of unless
returns-in_err-drains_verdict-in-Opening c = handed_on _ _ c.from_residual.ensures (rw c.in-Opening.is (then_more _ _ (c.in_err-drains_verdict-in-Opening.ensures)))

pub returns-in-Archive : goal.returns-in-Archive
unfolding door_of broken
returns-in-Archive c = rw c.in-Archive.is refl

pub returns-in-None : goal.returns-in-None
unfolding plain policed_of door_of
returns-in-None c = rw (c.in-Opening.is, c.in-None.is) (c.in_ok-drains_verdict-in-Opening.ensures)

pub returns-in-Some : goal.returns-in-Some
unfolding plain policed_of door_of unless
returns-in-Some c = rw (c.in-Opening.is, c.in-Some.is) (c.drains_verdict-in-Some.ensures ∙ then_more _ _ (c.in_ok-drains_verdict-in-Opening.ensures))
