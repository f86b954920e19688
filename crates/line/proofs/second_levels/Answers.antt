-- `line::second_levels` meets its contract.
use native.Mathlib.Omega.{arith}
use Rattle.line.proofs.Sizes.{two_levels, one_level}
use Rattle.line.proofs.second_levels.Goals as goal

pub returns-in-None : goal.returns-in-None
returns-in-None c = (one_level _ c.in-None.is, omega arith)

pub returns-in-Some : goal.returns-in-Some
returns-in-Some c = (two_levels _ _ c.in-Some.is, omega arith)
