-- What a branch decides, and two tests as one.
use Prim.Native.Nat.{ℕ}
use mathlib.Core.Path.{◌≡◌, refl}
use mathlib.Core.Bool.{Bool, true, false}
use native.Mathlib.Omega.{arith}
use Rattle.std.specs.Prelude.{if◌then◌else◌}

pub branch : {A : Type 0} (P : A → Type 0) (t : Bool) {a b : A} → (t ≡ true → P a) → (t ≡ false → P b) → P (if t then a else b)
branch P true f g = f refl
branch P false f g = g refl

-- a test that is true exactly where two tests are
pub both_true : (s t : Bool) → (if s then t else false) ≡ true → (s ≡ true) × (t ≡ true)
both_true true t e = (refl, e)
both_true false t e = let z : ◌≡◌ {A = ℕ} 0 1 = cc in absurd (omega arith)

pub true_both : (s t : Bool) → s ≡ true → t ≡ true → (if s then t else false) ≡ true
true_both s t p q = rw (p, q)
