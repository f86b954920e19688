-- `line::second_place` meets its contract.
use native.Mathlib.Omega.{arith}
use Rattle.line.proofs.Sizes.{both_place, no_bucket, no_level}
use Rattle.line.proofs.second_place.Goals as goal

pub returns-in-Some-Some : goal.returns-in-Some-Some
returns-in-Some-Some c = (both_place _ _ _ _ c.in-Some-Some.is-0 c.in-Some-Some.is-1, omega arith)

pub returns-in_default : goal.returns-in_default
returns-in_default c = (no_level _ _ _ c.in_default.is-0 c.in_default.is-1, omega arith)

pub returns-in_default-2 : goal.returns-in_default-2
returns-in_default-2 c = (no_bucket _ _ c.in_default.is-0, omega arith)
