-- What is claimed of every trellis: each claim is a type, which a theorem of proofs/Theorems inhabits.
use Rattle.std.specs.Prelude.{ℕ, ◌+◌, max, ◌≡◌, ◌↔◌, List}
use Rattle.std.proofs.Math.Option.{Option, none, some}
use Rattle.trellis.specs.Minimum.{AtMost, Sorted}
use Rattle.trellis.specs.Trellis.{Trellis, Monotone, Cancels, Walk, total, least, best, Optimal, Foremost, Simulates}
use Rattle.trellis.specs.Limit.{UpTo, limited}
use Rattle.trellis.specs.Table.{Closed, encode, Marked, Small}

-- a relation under which no two moves are each before the other, and none is before itself
pub record Strict {A : Type 0} (◌≺◌ : A → A → Type 0) : Type 0 where
  pub asymmetric : (a b : A) → ◌≺◌ a b → ◌≺◌ b a → ⊥
  pub irreflexive : (a b : A) → ◌≺◌ a b → a ≡ b → ⊥

module _ {S A : Type 0} (τ : Trellis S A) (◌⊕◌ : ℕ → ℕ → ℕ) where
  -- there is no value exactly where there is no walk; else `best` is a walk with that total and no walk has less, and only the value is such a total
  pub record ValueClaim (n t : ℕ) (s : S) : Type 0 where
    pub none_iff : (least τ ◌⊕◌ n t s ≡ none) ↔ ((p : List A) → Walk τ n t s p → ⊥)
    pub best_is : (v : ℕ) → least τ ◌⊕◌ n t s ≡ some v → Optimal τ ◌⊕◌ n t s v (best τ ◌⊕◌ n t s)
    pub only : (v : ℕ) (p : List A) → Optimal τ ◌⊕◌ n t s v p → least τ ◌⊕◌ n t s ≡ some v

  -- no walk with the least total is before `best`, and under a strict order no other walk is so
  pub record TieClaim (◌≺◌ : A → A → Type 0) (n t : ℕ) (s : S) (v : ℕ) : Type 0 where
    pub best_is : Foremost τ ◌⊕◌ ◌≺◌ n t s v (best τ ◌⊕◌ n t s)
    pub only : Strict ◌≺◌ → (p : List A) → Foremost τ ◌⊕◌ ◌≺◌ n t s v p → p ≡ best τ ◌⊕◌ n t s

-- The claims.

abbrev pub Value : Type 1
Value = (S A : Type 0) (τ : Trellis S A) (◌⊕◌ : ℕ → ℕ → ℕ) → Monotone ◌⊕◌ → (n t : ℕ) (s : S) → ValueClaim τ ◌⊕◌ n t s

-- where the moves of every interval are listed in the order
abbrev pub Ties : Type 1
Ties = (S A : Type 0) (τ : Trellis S A) (◌⊕◌ : ℕ → ℕ → ℕ) → Monotone ◌⊕◌ → Cancels ◌⊕◌ → (◌≺◌ : A → A → Type 0) → ((u : ℕ) → Sorted ◌≺◌ (τ.moves u)) → (n t : ℕ) (s : S) (v : ℕ) → least τ ◌⊕◌ n t s ≡ some v → TieClaim τ ◌⊕◌ ◌≺◌ n t s v

-- a table that follows the one-stage rule holds the value of every state
abbrev pub TableLaw : Type 1
TableLaw = (S A : Type 0) (τ : Trellis S A) (◌⊕◌ : ℕ → ℕ → ℕ) (mark bound N : ℕ) (Ok : ℕ → S → Type 0) (T : ℕ → S → ℕ) → Closed τ N Ok → Small τ ◌⊕◌ mark bound N Ok → Marked τ ◌⊕◌ mark bound N Ok T → (n t : ℕ) (s : S) → t + n ≡ N → Ok t s → T t s ≡ encode mark (least τ ◌⊕◌ n t s)

-- a trellis that allows all that another allows has its walks, and no greater value
pub record SimulationClaim {S S₂ A : Type 0} (τ : Trellis S A) (σ : Trellis S₂ A) (n t : ℕ) (s : S) (s₂ : S₂) : Type 0 where
  pub walks : (p : List A) → Walk τ n t s p → Walk σ n t s₂ p
  pub value : (◌⊕◌ : ℕ → ℕ → ℕ) → Monotone ◌⊕◌ → (v : ℕ) → least τ ◌⊕◌ n t s ≡ some v → AtMost (least σ ◌⊕◌ n t s₂) v

abbrev pub Simulation : Type 1
Simulation = (S S₂ A : Type 0) (τ : Trellis S A) (σ : Trellis S₂ A) (R : ℕ → S → S₂ → Type 0) → Simulates τ σ R → (n t : ℕ) (s : S) (s₂ : S₂) → R t s s₂ → SimulationClaim τ σ n t s s₂

-- the walks under a limit are the walks whose greatest cost is at most the limit
abbrev pub Limits : Type 1
Limits = (S A : Type 0) (τ : Trellis S A) (θ : Option ℕ) (n t : ℕ) (s : S) (p : List A) → Walk (limited θ τ) n t s p ↔ (Walk τ n t s p × UpTo θ (total τ max t p))
