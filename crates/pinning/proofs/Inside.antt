-- The test for a unit that is not in 1 to N fails exactly for those that are.
use Prim.Native.Nat.{ℕ, ◌≤◌}
use mathlib.Core.Path.{◌≡◌, refl}
use mathlib.Core.Bool.{Bool, true, false}
use native.Mathlib.Omega.{arith}
use lib.Dec.{leb, ltb}
use borrow.Author.Tests.{le-leb, leb-true, ltb-false, le-ltb}
use Rattle.std.specs.Prelude.{if◌then◌else◌}
use Rattle.model.specs.Pins.{outside}

pub inside : (units u : ℕ) → outside units u ≡ false → (1 ≤ u) × (u ≤ units)
unfolding outside
inside units u e = go (leb 1 u) refl e
  where
    go : (t : Bool) → leb 1 u ≡ t → (if t then ltb units u else true) ≡ false → (1 ≤ u) × (u ≤ units)
    go true p q = (leb-true 1 u p, ltb-false units u q)
    go false p q = let z : ◌≡◌ {A = ℕ} 0 1 = cc in absurd (omega arith)

pub within : (units u : ℕ) → (1 ≤ u) × (u ≤ units) → outside units u ≡ false
unfolding outside
within units u h = rw (le-leb 1 u h.0, le-ltb units u h.1)
