-- The value function is the least total of a walk, and `best` is a walk that has it.
use Prim.Native.Nat.{ℕ, zero, suc, ◌+◌, ◌≤◌, max}
use mathlib.Core.Path.{◌≡◌, refl, sym, ◌∙◌, ap}
use mathlib.Core.Logic.{◌↔◌}
use mathlib.Core.Option.{Option, none, some, some-injective, none-ne-some}
use mathlib.Core.List.{List, ◌∷◌}
use native.Mathlib.Omega.{arith}
use Rattle.trellis.specs.Minimum.{AtMost, at_most, first, Sorted}
use Rattle.trellis.specs.Trellis.{Trellis, Monotone, Combines, Cancels, Walk, stop, move, raise, via, chosen, lead, after, total, offer, stage, least, best, Optimal}
use Rattle.trellis.proofs.Minimum.{at_most_value, at_most_le, minimum_le, minimum_member, First, first_of, sorted_anyhow}

pub sum_monotone : Monotone ◌+◌
sum_monotone c a b h = omega arith

pub sum_cancels : Cancels ◌+◌
sum_cancels c a b h = omega arith

pub sum_combines : Combines ◌+◌
sum_combines = record {
  monotone = sum_monotone;
  at_most_sum = λ a b. omega arith;
  left_zero = λ a. omega arith;
  right_zero = λ a. omega arith;
  associates = λ a b c. omega arith;
}

pub greatest_combines : Combines max
greatest_combines = record {
  monotone = λ c a b h. omega arith;
  at_most_sum = λ a b. omega arith;
  left_zero = λ a. omega arith;
  right_zero = λ a. omega arith;
  associates = λ a b c. omega arith;
}

module _ (◌⊕◌ : ℕ → ℕ → ℕ) where
  infixl 65 ◌⊕◌
  -- a value v by way of a move: where it ends, and the rest of the value
  pub record Via {S : Type 0} (c : ℕ) (o : Option S) (W : S → Option ℕ) (v : ℕ) : Type 0 where
    pub to : S
    pub rest : ℕ
    pub lands : o ≡ some to
    pub holds : W to ≡ some rest
    pub adds : c ⊕ rest ≡ v

  pub via_some : {S : Type 0} (c : ℕ) (o : Option S) (W : S → Option ℕ) (v : ℕ) → via ◌⊕◌ c o W ≡ some v → Via c o W v
  unfolding via raise
  via_some c none W v e = absurd (none-ne-some v e)
  via_some c (some s) W v e = go (W s) refl e
    where
      go : (x : Option ℕ) → W s ≡ x → raise ◌⊕◌ c x ≡ some v → Via c (some s) W v
      go none q r = absurd (none-ne-some v r)
      go (some w) q r = record { to = s; rest = w; lands = refl; holds = q; adds = some-injective (c ⊕ w) v r }

  raise_at_most : {x : Option ℕ} {w : ℕ} → Monotone ◌⊕◌ → (c : ℕ) → AtMost x w → AtMost (raise ◌⊕◌ c x) (c ⊕ w)
  unfolding raise
  raise_at_most mono c (at_most {v = v} {w = w} h) = at_most (mono c v w h)

module _ {S A : Type 0} (τ : Trellis S A) (◌⊕◌ : ℕ → ℕ → ℕ) where
  infixl 65 ◌⊕◌
  -- the best walk goes on with a move that attains the value first, and then is the best walk from where that move ends
  pub best_step : (n t : ℕ) (s s' : S) (v : ℕ) (a : A) → least τ ◌⊕◌ (suc n) t s ≡ some v → first (offer τ ◌⊕◌ t (λ u. least τ ◌⊕◌ n (suc t) u) s) v (τ.moves (suc t)) ≡ some a → τ.step (suc t) s a ≡ some s' → best τ ◌⊕◌ (suc n) t s ≡ a ∷ best τ ◌⊕◌ n (suc t) s'
  unfolding best chosen lead after
  best_step n t s s' v a e f h = rw (e, f, h)

  pub record Opens (◌≺◌ : A → A → Type 0) (n t : ℕ) (s : S) (v : ℕ) : Type 0 where
    pub pick : A
    pub first : First ◌≺◌ (offer τ ◌⊕◌ t (λ u. least τ ◌⊕◌ n (suc t) u) s) v (τ.moves (suc t)) pick
    pub by : Via ◌⊕◌ (τ.cost (suc t) pick) (τ.step (suc t) s pick) (λ u. least τ ◌⊕◌ n (suc t) u) v
    pub path : best τ ◌⊕◌ (suc n) t s ≡ pick ∷ best τ ◌⊕◌ n (suc t) by.to

  pub best_opens : {◌≺◌ : A → A → Type 0} (n t : ℕ) (s : S) (v : ℕ) → Sorted ◌≺◌ (τ.moves (suc t)) → least τ ◌⊕◌ (suc n) t s ≡ some v → Opens ◌≺◌ n t s v
  unfolding least stage offer
  best_opens {◌≺◌} n t s v o e =
      let f = offer τ ◌⊕◌ t (λ u. least τ ◌⊕◌ n (suc t) u) s in
      let l = τ.moves (suc t) in
      let m = minimum_member f l v e in
      let r = first_of ◌≺◌ f v l o m.0 m.1 m.2 in
      let b = via_some ◌⊕◌ (τ.cost (suc t) r.0) (τ.step (suc t) s r.0) (λ u. least τ ◌⊕◌ n (suc t) u) v r.1.offers in
      record { pick = r.0; first = r.1; by = b; path = best_step n t s b.to v r.0 e r.1.found b.lands }

  pub best_walk : (n t : ℕ) (s : S) (v : ℕ) → least τ ◌⊕◌ n t s ≡ some v → Walk τ n t s (best τ ◌⊕◌ n t s)
  unfolding best
  best_walk zero t s v e = stop
  best_walk (suc n) t s v e =
      let o = best_opens n t s v (sorted_anyhow (τ.moves (suc t))) e in
      rw o.path (move o.first.listed o.by.lands (best_walk n (suc t) o.by.to o.by.rest o.by.holds))

  pub best_total : (n t : ℕ) (s : S) (v : ℕ) → least τ ◌⊕◌ n t s ≡ some v → total τ ◌⊕◌ t (best τ ◌⊕◌ n t s) ≡ v
  unfolding best least total
  best_total zero t s v e = some-injective 0 v e
  best_total (suc n) t s v e =
      let o = best_opens n t s v (sorted_anyhow (τ.moves (suc t))) e in
      let ih = best_total n (suc t) o.by.to o.by.rest o.by.holds in
      rw (o.path, ih) o.by.adds

  module _ (mono : Monotone ◌⊕◌) where
    -- a walk's total is at least the value, so there is one
    pub walk_value : {n t : ℕ} {s : S} {p : List A} → Walk τ n t s p → AtMost (least τ ◌⊕◌ n t s) (total τ ◌⊕◌ t p)
    unfolding least stage total offer via
    walk_value stop = at_most {v = 0} {w = 0} (omega arith)
    walk_value (move {n} {t} {s} {s'} {a} {p} m e w) =
        minimum_le (offer τ ◌⊕◌ t (λ u. least τ ◌⊕◌ n (suc t) u) s) m (rw e (raise_at_most ◌⊕◌ mono (τ.cost (suc t) a) (walk_value w)))

    -- there is no value where, and only where, there is no walk
    pub none_iff : (n t : ℕ) (s : S) → (least τ ◌⊕◌ n t s ≡ none) ↔ ((p : List A) → Walk τ n t s p → ⊥)
    none_iff n t s = (no_walk, λ h. no_value h (least τ ◌⊕◌ n t s) refl)
      where
        no_walk : least τ ◌⊕◌ n t s ≡ none → (p : List A) → Walk τ n t s p → ⊥
        no_walk e p w = let r = at_most_value (walk_value w) in none-ne-some r.0 (sym e ∙ r.1)

        no_value : ((p : List A) → Walk τ n t s p → ⊥) → (x : Option ℕ) → least τ ◌⊕◌ n t s ≡ x → least τ ◌⊕◌ n t s ≡ none
        no_value h none e = e
        no_value h (some v) e = absurd (h (best τ ◌⊕◌ n t s) (best_walk n t s v e))

    -- the value is the least total of a walk, and the best walk has it
    pub best_optimal : (n t : ℕ) (s : S) (v : ℕ) → least τ ◌⊕◌ n t s ≡ some v → Optimal τ ◌⊕◌ n t s v (best τ ◌⊕◌ n t s)
    best_optimal n t s v e =
        record {
          walk = best_walk n t s v e;
          reaches = best_total n t s v e;
          least_of_all = λ q w. at_most_le (walk_value w) e;
        }

    -- and nothing else is
    pub optimal_value : (n t : ℕ) (s : S) (v : ℕ) (p : List A) → Optimal τ ◌⊕◌ n t s v p → least τ ◌⊕◌ n t s ≡ some v
    optimal_value n t s v p o = let r = at_most_value (walk_value o.walk) in go r.0 r.1 r.2
      where
        go : (w : ℕ) → least τ ◌⊕◌ n t s ≡ some w → w ≤ total τ ◌⊕◌ t p → least τ ◌⊕◌ n t s ≡ some v
        go w e h =
            let q = o.reaches in
            let k = o.least_of_all (best τ ◌⊕◌ n t s) (best_walk n t s w e) in
            let b = best_total n t s w e in
            e ∙ ap some (omega arith)
