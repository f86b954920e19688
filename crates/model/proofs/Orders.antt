-- The best plans in two orders are as good as each other: `Orders`.
use Prim.Native.Nat.{ℕ}
use mathlib.Core.Path.{◌≡◌}
use mathlib.Core.Logic.{inl, inr}
use mathlib.Core.List.{List}
use native.Mathlib.Omega.{arith}
use Rattle.model.specs.Job.{Job, Entry}
use Rattle.model.specs.Best.{Aim, total, even}
use Rattle.model.specs.Claims.{NoWorse, OrderClaim, Orders}

-- neither is worse than the other
alike : (j : Job) (s : ℕ) (a : Aim) (p q : List Entry) → NoWorse a j s p q → NoWorse a j s q p → OrderClaim j s a p q
alike j s total p q h k = record { same_total = omega arith; same_greatest = λ e. absurd (not_even e) }
  where
    not_even : total ≡ even → ⊥
    not_even e = let z : ◌≡◌ {A = ℕ} 0 1 = cc in omega arith
alike j s even p q (inl h) (inl k) = absurd (omega arith)
alike j s even p q (inl h) (inr k) = absurd (omega (arith, k.0))
alike j s even p q (inr h) (inl k) = absurd (omega (arith, h.0))
alike j s even p q (inr h) (inr k) = record { same_total = omega (arith, h.1, k.1); same_greatest = λ e. h.0 }

pub orders : (Among : List Entry → Type 0) → Orders Among
orders Among j s a o r p q best other = alike j s a p q (best.least_of_all q other.among) (other.least_of_all p best.among)
