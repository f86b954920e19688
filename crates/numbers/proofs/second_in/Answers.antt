-- `numbers::second_in` meets its contract.
use native.Mathlib.Omega.{arith}
use Rattle.numbers.proofs.Telling.{size_told}
use Rattle.numbers.proofs.second_in.Goals as goal

pub bounds-list-0 : goal.bounds-list-0
bounds-list-0 c = omega (arith, size_told _ c.requires)
