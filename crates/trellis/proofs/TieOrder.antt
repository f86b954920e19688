-- The best walk is the first in tie order of the walks with the least total, and the only one that is.
use Prim.Native.Nat.{ℕ, suc, ◌≤◌}
use mathlib.Core.Path.{◌≡◌, refl, sym, ◌∙◌, ap, ap₂}
use mathlib.Core.Logic.{◌⊎◌, inl, inr}
use mathlib.Core.Option.{some, some-injective}
use mathlib.Core.List.{List, ◌∷◌, Memᴰ}
use native.Mathlib.Omega.{arith}
use native.Mathlib.Nat.{le_refl}
use Rattle.trellis.specs.Minimum.{Sorted}
use Rattle.trellis.specs.Trellis.{Trellis, Monotone, Cancels, NoLater, end, same, ahead, Walk, stop, move, raise, via, total, offer, stage, least, best, Foremost}
use Rattle.trellis.specs.Claims.{Strict}
use Rattle.trellis.proofs.Minimum.{at_most_some, at_most_value, at_most_le, minimum_le}
use Rattle.trellis.proofs.Optimality.{best_opens, walk_value, best_optimal, optimal_value}

-- two lists of moves, neither of which is later than the other, are the same
pub no_later_antisym : {A : Type 0} {◌≺◌ : A → A → Type 0} → Strict ◌≺◌ → {p q : List A} → NoLater ◌≺◌ p q → NoLater ◌≺◌ q p → p ≡ q
no_later_antisym strict end end = refl
no_later_antisym strict (same e h) (same e' k) = ap₂ ◌∷◌ e (no_later_antisym strict h k)
no_later_antisym strict (same {a} {b} e h) (ahead d) = absurd (strict.irreflexive b a d (sym e))
no_later_antisym strict (ahead {a} {b} d) (same e k) = absurd (strict.irreflexive a b d (sym e))
no_later_antisym strict (ahead {a} {b} d) (ahead d') = absurd (strict.asymmetric a b d d')

module _ {S A : Type 0} (τ : Trellis S A) (◌⊕◌ : ℕ → ℕ → ℕ) (mono : Monotone ◌⊕◌) (cancels : Cancels ◌⊕◌) where
  infixl 65 ◌⊕◌
  -- a walk with the least total attains the value at each stage
  pub tail_attains : (n t : ℕ) (s s' : S) (v : ℕ) (a : A) (p : List A) → least τ ◌⊕◌ (suc n) t s ≡ some v → Memᴰ a (τ.moves (suc t)) → τ.step (suc t) s a ≡ some s' → Walk τ n (suc t) s' p → total τ ◌⊕◌ t (a ∷ p) ≡ v → (least τ ◌⊕◌ n (suc t) s' ≡ some (total τ ◌⊕◌ (suc t) p)) × (offer τ ◌⊕◌ t (λ u. least τ ◌⊕◌ n (suc t) u) s a ≡ some v)
  unfolding total offer via raise least stage
  tail_attains n t s s' v a p e m h w k = let r = at_most_value (walk_value τ ◌⊕◌ mono w) in go r.0 r.1 r.2
    where
      c : ℕ
      c = τ.cost (suc t) a

      go : (x : ℕ) → least τ ◌⊕◌ n (suc t) s' ≡ some x → x ≤ total τ ◌⊕◌ (suc t) p → (least τ ◌⊕◌ n (suc t) s' ≡ some (total τ ◌⊕◌ (suc t) p)) × (offer τ ◌⊕◌ t (λ u. least τ ◌⊕◌ n (suc t) u) s a ≡ some v)
      go x q le =
          let f : offer τ ◌⊕◌ t (λ u. least τ ◌⊕◌ n (suc t) u) s a ≡ some (c ⊕ x) = rw (h, q) in
          let lo : v ≤ c ⊕ x = at_most_le (minimum_le (offer τ ◌⊕◌ t (λ u. least τ ◌⊕◌ n (suc t) u) s) m (at_most_some f (le_refl (c ⊕ x)))) e in
          let hi : c ⊕ x ≤ c ⊕ total τ ◌⊕◌ (suc t) p = mono c x (total τ ◌⊕◌ (suc t) p) le in
          let back : total τ ◌⊕◌ (suc t) p ≤ x = cancels c (total τ ◌⊕◌ (suc t) p) x (omega arith) in
          (q ∙ ap some (omega arith), f ∙ ap some (omega arith))

  module _ (◌≺◌ : A → A → Type 0) (sorted : (u : ℕ) → Sorted ◌≺◌ (τ.moves u)) where
    pub best_first : {n t : ℕ} {s : S} {p : List A} (v : ℕ) → least τ ◌⊕◌ n t s ≡ some v → Walk τ n t s p → total τ ◌⊕◌ t p ≡ v → NoLater ◌≺◌ (best τ ◌⊕◌ n t s) p
    unfolding best
    best_first v e stop k = end
    best_first v e (move {n} {t} {s} {s'} {a = b} {p = q} m h w) k =
        let o = best_opens τ ◌⊕◌ {◌≺◌ = ◌≺◌} n t s v (sorted (suc t)) e in
        let r = tail_attains n t s s' v b q e m h w k in
        rw o.path (go o.by.to o.by.lands (best_first (total τ ◌⊕◌ (suc t) q) r.0 w refl) (o.first.before b m r.1))
      where
        go : {a : A} (u : S) → τ.step (suc t) s a ≡ some u → NoLater ◌≺◌ (best τ ◌⊕◌ n (suc t) s') q → (a ≡ b) ⊎ (◌≺◌ a b) → NoLater ◌≺◌ (a ∷ best τ ◌⊕◌ n (suc t) u) (b ∷ q)
        go u g ih (inr d) = ahead d
        go {a} u g ih (inl d) =
            let z : s' ≡ u = some-injective s' u (sym h ∙ ap (τ.step (suc t) s) (sym d) ∙ g) in
            same d (rw z at ih)

    pub best_foremost : (n t : ℕ) (s : S) (v : ℕ) → least τ ◌⊕◌ n t s ≡ some v → Foremost τ ◌⊕◌ ◌≺◌ n t s v (best τ ◌⊕◌ n t s)
    best_foremost n t s v e = record { optimal = best_optimal τ ◌⊕◌ mono n t s v e; no_later = λ q w k. best_first v e w k }

    pub foremost_best : Strict ◌≺◌ → (n t : ℕ) (s : S) (v : ℕ) (p : List A) → Foremost τ ◌⊕◌ ◌≺◌ n t s v p → p ≡ best τ ◌⊕◌ n t s
    foremost_best strict n t s v p f =
        let e = optimal_value τ ◌⊕◌ mono n t s v p f.optimal in
        let b = best_optimal τ ◌⊕◌ mono n t s v e in
        no_later_antisym strict (f.no_later (best τ ◌⊕◌ n t s) b.walk b.reaches) (best_first v e f.optimal.walk f.optimal.reaches)
