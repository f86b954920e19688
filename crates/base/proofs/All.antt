-- A test of every number below n: what it says of each, and after one more.
use Prim.Native.Nat.{ℕ, zero, suc, ◌+◌, ◌<◌}
use mathlib.Core.Path.{◌≡◌, refl, sym, ◌∙◌}
use mathlib.Core.Bool.{Bool, true, false}
use native.Mathlib.Decide.{dec_lt}
use native.Mathlib.Numerals.{add-one}
use native.Mathlib.Omega.{arith}
use Rattle.base.specs.All.{all_below}
use Rattle.base.proofs.Tests.{both_true, true_both}

module _ (test : ℕ → Bool) where
  pub all_each : (n : ℕ) → all_below test n ≡ true → (i : ℕ) → i < n → test i ≡ true
  unfolding all_below
  all_each zero e i l = absurd (omega arith)
  all_each (suc n) e i l =
      let p = both_true (all_below test n) (test n) e in
      go (λ k. all_each n p.0 i k) p.1 (dec_lt i n)
    where
      go : (i < n → test i ≡ true) → test n ≡ true → Dec (i < n) → test i ≡ true
      go ih last (yes k) = ih k
      go ih last (no k) = let q : i ≡ n = omega arith in rw q last

  pub each_all : (n : ℕ) → ((i : ℕ) → i < n → test i ≡ true) → all_below test n ≡ true
  unfolding all_below
  each_all zero f = refl
  each_all (suc n) f = true_both (all_below test n) (test n) (each_all n (λ i k. f i (omega arith))) (f n (omega arith))

  -- as a loop goes: at its start, after a number that passes, and at one that fails
  pub all_none : all_below test 0 ≡ true
  unfolding all_below
  all_none = refl

  pub all_more : (i : ℕ) → all_below test i ≡ true → test i ≡ true → all_below test (i + 1) ≡ true
  unfolding all_below
  all_more i p q = rw add-one (true_both (all_below test i) (test i) p q)

  pub all_stop : (i n : ℕ) → i < n → test i ≡ false → false ≡ all_below test n
  all_stop i n l e = go (all_below test n) refl
    where
      go : (t : Bool) → all_below test n ≡ t → false ≡ t
      go true q = sym e ∙ all_each n q i l
      go false q = refl
