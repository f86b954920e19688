-- `numbers::two_byte` meets its contract: the numbers before the place are of two bytes, whichever turn the loop is at.
use Prim.Native.Nat.{◌≤◌}
use mathlib.Core.Bool.{true}
use mathlib.Core.Path.{◌≡◌}
use Rattle.pinning.specs.Numbers.{two_byte}
use Rattle.numbers.proofs.two_byte.Given as goal

abbrev pub invariant-loop-number : goal.invariant-loop-number
invariant-loop-number l = (l.number-index ≤ 524) × (two_byte l.list 1 l.number-index ≡ true)
