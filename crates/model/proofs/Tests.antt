-- What the definitions' tests decide: a difference of natural numbers, the first bucket over its size, a pin.
use Prim.Native.Nat.{ℕ, zero, suc, ◌-◌, ◌<◌, ◌≤◌}
use mathlib.Core.Path.{◌≡◌, refl, ap}
use mathlib.Core.Bool.{true, false}
use mathlib.Core.Option.{Option, none, some, map}
use mathlib.Core.List.{List, [], ◌∷◌}
use native.Mathlib.Omega.{arith}
use borrow.Author.Tests.{ltb-true, ltb-false, lt-ltb, le-ltb, eqb-true, eq-eqb}
use lib.Dec.{ltb}
use lib.ListN.{length}
use lib.IntN.{pos, negsuc, ◌-ℤ◌}
use Rattle.base.proofs.Tests.{branch}
use Rattle.model.specs.Job.{Bucket}
use Rattle.model.specs.Pins.{PinHeld, free, kept}
use Rattle.model.specs.Admissible.{Within, AllWithin}
use Rattle.model.specs.Step.{overfull, same_choice, pin_held}

-- a signed difference is the natural one where that is not cut off, and negative otherwise
pub difference : (a r : ℕ) → r ≤ a → pos a -ℤ pos r ≡ pos (a - r)
difference a zero h = ap pos (omega arith)
difference a (suc r) h = rw (le-ltb a (suc r) h)

pub shortfall : (a r : ℕ) → a < r → pos a -ℤ pos r ≡ negsuc (r - suc a)
shortfall a zero h = absurd (omega arith)
shortfall a (suc r) h = rw (lt-ltb a (suc r) h)

-- the first bucket over its size, or none
pub data FirstOver (ks : List Bucket) (ls : List ℕ) : Option ℕ → Type 0 where
  no_one : AllWithin ks ls → FirstOver ks ls none
  this : {i : ℕ} → i < length ks → ((k : ℕ) → k < i → Within ks ls k) → (Within ks ls i → ⊥) → FirstOver ks ls (some i)

module _ (k : Bucket) (l : ℕ) (ks : List Bucket) (ls : List ℕ) (h : l ≤ k.size) where
  within_cons : (n : ℕ) → ((i : ℕ) → i < n → Within ks ls i) → (i : ℕ) → i < suc n → Within (k ∷ ks) (l ∷ ls) i
  within_cons n f zero b = h
  within_cons n f (suc i) b = f i (omega arith)

  over_later : (o : Option ℕ) → FirstOver ks ls o → FirstOver (k ∷ ks) (l ∷ ls) (map suc o)
  over_later o (no_one f) = no_one (within_cons (length ks) f)
  over_later o (this {i} b f g) = this {i = suc i} (omega arith) (within_cons i f) g

pub overfull_finds : (ks : List Bucket) (ls : List ℕ) → FirstOver ks ls (overfull ks ls)
unfolding overfull
overfull_finds [] ls = no_one (λ i h. absurd (omega arith))
overfull_finds (k ∷ ks) [] = no_one (λ i h. omega arith)
overfull_finds (k ∷ ks) (l ∷ ls) =
    branch (FirstOver (k ∷ ks) (l ∷ ls)) (ltb k.size l)
    (λ e. this {i = 0} (omega arith) (λ i h. absurd (omega arith)) (λ h. omega (arith, ltb-true)))
    (λ e. over_later k l ks ls (ltb-false k.size l e) (overfull ks ls) (overfull_finds ks ls))

pub held_true : (x c : Option ℕ) → pin_held x c ≡ true → PinHeld x c
unfolding pin_held same_choice
held_true none c e = free
held_true (some x) none e = let z : ◌≡◌ {A = ℕ} 0 1 = cc in absurd (omega arith)
held_true (some x) (some y) e = rw (eqb-true y x e) kept

pub held_false : {x c : Option ℕ} → pin_held x c ≡ false → PinHeld x c → ⊥
unfolding pin_held same_choice
held_false e free = let z : ◌≡◌ {A = ℕ} 0 1 = cc in omega arith
held_false e (kept {x}) = let z : ◌≡◌ {A = ℕ} 0 1 = cc (eq-eqb x x refl) in omega arith
