-- `interval::more_unused` meets its contract: a sum where both are there.
use mathlib.Core.Path.{refl}
use mathlib.Core.List.{zip_with}
use Rattle.interval.proofs.more_unused.Goals as goal

pub returns-in_err-sum : goal.returns-in_err-sum
unfolding zip_with
returns-in_err-sum c = rw (c.from_residual.ensures, c.in_err-sum.was) refl

pub returns-in_err-second : goal.returns-in_err-second
unfolding zip_with
returns-in_err-second c = rw (c.from_residual-in_err-second.ensures, c.in_ok-sum.was, c.in_err-second.was) refl

pub returns : goal.returns
unfolding zip_with
returns c = rw (c.in_ok-sum.was, c.in_ok-second.was) refl
