-- A bound of the value function, however costs combine: sums stay within a budget that each move leaves enough of.
use Prim.Native.Nat.{ℕ, suc, ◌+◌, ◌≤◌, ◌<◌}
use mathlib.Core.Path.{◌≡◌}
use mathlib.Core.Option.{some}
use mathlib.Core.List.{List, [], ◌∷◌, Memᴰ}
use native.Mathlib.Omega.{arith}
use Rattle.trellis.specs.Trellis.{Trellis, Combines, Walk, stop, move, total, least, best}
use Rattle.trellis.specs.Table.{Small}
use Rattle.trellis.proofs.Optimality.{best_walk, best_total}

-- what costs come to is at most their sum
total_most : {S A : Type 0} (τ : Trellis S A) (◌⊕◌ : ℕ → ℕ → ℕ) → Combines ◌⊕◌ → (t : ℕ) (p : List A) → total τ ◌⊕◌ t p ≤ total τ ◌+◌ t p
unfolding total
total_most τ ◌⊕◌ c t [] = omega arith
total_most τ ◌⊕◌ c t (a ∷ p) =
    let ih = total_most τ ◌⊕◌ c (suc t) p in
    omega (arith, c.at_most_sum (τ.cost (suc t) a) (total τ ◌⊕◌ (suc t) p))

module _ {S A : Type 0} (τ : Trellis S A) (N : ℕ) (B : ℕ → ℕ) where
  -- B t is what the stages from t to N may spend: a move leaves enough for the rest
  abbrev pub Budget : Type 0
  Budget = (t : ℕ) (a : A) → t < N → Memᴰ a (τ.moves (suc t)) → τ.cost (suc t) a + B (suc t) ≤ B t

  module _ (spends : Budget) where
    pub sum_within : {n t : ℕ} {s : S} {p : List A} → Walk τ n t s p → t + n ≡ N → total τ ◌+◌ t p ≤ B t
    unfolding total
    sum_within stop e = omega arith
    sum_within (move {n} {t} {s} {s'} {a} {p} m h w) e =
        let ih = sum_within w (omega arith) in
        omega (arith, spends t a (omega arith) m)

    pub least_within : (◌⊕◌ : ℕ → ℕ → ℕ) → Combines ◌⊕◌ → (n t : ℕ) (s : S) (v : ℕ) → t + n ≡ N → least τ ◌⊕◌ n t s ≡ some v → v ≤ B t
    least_within ◌⊕◌ c n t s v h e =
        omega (arith, best_total τ ◌⊕◌ n t s v e, total_most τ ◌⊕◌ c t (best τ ◌⊕◌ n t s), sum_within (best_walk τ ◌⊕◌ n t s v e) h)

module _ {S A : Type 0} (τ : Trellis S A) (C : ℕ) where
  abbrev pub Costs : Type 0
  Costs = (t : ℕ) (a : A) → Memᴰ a (τ.moves t) → τ.cost t a ≤ C

  -- N stages that spend a budget stay clear of the mark
  pub small_within : (◌⊕◌ : ℕ → ℕ → ℕ) → Combines ◌⊕◌ → (mark bound N : ℕ) (Ok : ℕ → S → Type 0) (B : ℕ → ℕ) → Costs → Budget τ N B → ((t : ℕ) → B t ≤ bound) → bound + C < mark → Small τ ◌⊕◌ mark bound N Ok
  small_within ◌⊕◌ c mark bound N Ok B costs spends h k = record {
    apart = omega arith;
    fits = λ t a w m q. omega (arith, costs t a m, c.at_most_sum (τ.cost t a) w);
    values = λ n t s v e o q. omega (arith, h t, least_within τ N B spends ◌⊕◌ c n t s v e q);
  }
