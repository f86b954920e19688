-- `pinset::pins_fit` meets its contract: the bytes before the place fit, whichever turn the loop is at.
use mathlib.Core.Path.{◌≡◌}
use Prim.Native.Nat.{◌≤◌}
use Rattle.header.specs.Answers.{plain}
use Rattle.pinning.specs.Check.{pins_fit}
use mathlib.Core.Bool.{true}
use Rattle.pinset.proofs.pins_fit.Given as goal

abbrev pub invariant-loop-place : goal.invariant-loop-place
invariant-loop-place l = (l.place ≤ 512) × (pins_fit (plain l.header) l.pins l.place ≡ true)
