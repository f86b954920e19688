-- `change::both_unused` meets its contract: a sum where both are there.
use mathlib.Core.Path.{refl}
use mathlib.Core.List.{zip_with}
use Rattle.model.specs.Replay.{plus_each}
use Rattle.change.proofs.Both.{second_fits}
use Rattle.change.proofs.both_unused.Goals as goal

pub returns-in_err-before : goal.returns-in_err-before
unfolding plus_each zip_with
returns-in_err-before c = rw (c.from_residual.ensures, c.in_err-before.was) refl

pub returns-in_err-rest : goal.returns-in_err-rest
unfolding plus_each zip_with
returns-in_err-rest c = rw (c.from_residual-in_err-rest.ensures, c.in_ok-before.was, c.in_err-rest.was) refl

pub overflow_add-result : goal.overflow_add-result
overflow_add-result c = record { fits = second_fits _ _ c.requires _ _ c.in_ok-before.was c.in_ok-rest.was }

pub returns : goal.returns
unfolding plus_each zip_with
returns c = rw (c.in_ok-before.was, c.in_ok-rest.was) refl
