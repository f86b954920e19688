-- A trellis: stages, a state at each, and moves from a stage to the next. Interval t + 1 lies between stage t and stage t + 1.
use Rattle.std.specs.Prelude.{ℕ, zero, suc, ◌+◌, ◌≤◌, ◌≡◌}
use Rattle.std.proofs.Math.Option.{Option, none, some}
use mathlib.Core.List.{List, [], ◌∷◌, Memᴰ}
use Rattle.trellis.specs.Minimum.{lesser, holds, pick, minimum, first}

pub record Trellis (S A : Type 0) : Type 0 where
  -- the moves that may be made in an interval, in tie order
  pub moves : ℕ → List A
  -- the state at the interval's end, or none where the move violates a limit
  pub step : ℕ → S → A → Option S
  pub cost : ℕ → A → ℕ

-- a way to combine costs that keeps the order of what comes after
abbrev pub Monotone : (ℕ → ℕ → ℕ) → Type 0
Monotone ◌⊕◌ = (c a b : ℕ) → a ≤ b → ◌⊕◌ c a ≤ ◌⊕◌ c b

-- a way to combine the costs of a walk, as by their sum or by the greatest of them: what comes after keeps its order, and it comes to no more than the sum; 0 changes nothing, and it is one from which end they are combined
pub record Combines (◌⊕◌ : ℕ → ℕ → ℕ) : Type 0 where
  pub monotone : Monotone ◌⊕◌
  pub at_most_sum : (a b : ℕ) → ◌⊕◌ a b ≤ a + b
  pub left_zero : (a : ℕ) → ◌⊕◌ 0 a ≡ a
  pub right_zero : (a : ℕ) → ◌⊕◌ a 0 ≡ a
  pub associates : (a b c : ℕ) → ◌⊕◌ (◌⊕◌ a b) c ≡ ◌⊕◌ a (◌⊕◌ b c)

-- one that shows it as well
abbrev pub Cancels : (ℕ → ℕ → ℕ) → Type 0
Cancels ◌⊕◌ = (c a b : ℕ) → ◌⊕◌ c a ≤ ◌⊕◌ c b → a ≤ b

-- a list of moves is no later than another in tie order: it is the same, or its move is before the other's where the two first differ
module _ {A : Type 0} (◌≺◌ : A → A → Type 0) where
  pub data NoLater : List A → List A → Type 0 where
    end : NoLater [] []
    same : {a b : A} {p q : List A} → a ≡ b → NoLater p q → NoLater (a ∷ p) (b ∷ q)
    ahead : {a b : A} {p q : List A} → ◌≺◌ a b → NoLater (a ∷ p) (b ∷ q)

module _ {S A : Type 0} (τ : Trellis S A) where
  -- p is n moves from the state s at stage t: each is one of its interval's moves, and violates no limit
  pub data Walk : ℕ → ℕ → S → List A → Type 0 where
    stop : {t : ℕ} {s : S} → Walk zero t s []
    move : {n t : ℕ} {s s' : S} {a : A} {p : List A} → Memᴰ a (τ.moves (suc t)) → τ.step (suc t) s a ≡ some s' → Walk n (suc t) s' p → Walk (suc n) t s (a ∷ p)

-- a number carried over a move that costs c
unfoldable pub raise : (ℕ → ℕ → ℕ) → ℕ → Option ℕ → Option ℕ
raise ◌⊕◌ c none = none
raise ◌⊕◌ c (some v) = some (◌⊕◌ c v)

-- the value by way of a move that costs c and ends in a state, or violates a limit
unfoldable pub via : {S : Type 0} → (ℕ → ℕ → ℕ) → ℕ → Option S → (S → Option ℕ) → Option ℕ
via ◌⊕◌ c none W = none
via ◌⊕◌ c (some s) W = raise ◌⊕◌ c (W s)

unfoldable pub chosen : {A : Type 0} → Option ℕ → (A → Option ℕ) → List A → Option A
chosen none f l = none
chosen (some v) f l = first f v l

unfoldable pub lead : {A : Type 0} → Option A → (A → List A) → List A
lead none k = []
lead (some a) k = a ∷ k a

unfoldable pub after : {S A : Type 0} → Option S → (S → List A) → List A
after none k = []
after (some s) k = k s

module _ {S A : Type 0} (τ : Trellis S A) (◌⊕◌ : ℕ → ℕ → ℕ) where
  infixl 65 ◌⊕◌
  -- the combined cost of the moves p from stage t
  unfoldable pub total : ℕ → List A → ℕ
  total t [] = 0
  total t (a ∷ p) = τ.cost (suc t) a ⊕ total (suc t) p

  -- what the move a offers at stage t, from the values W at stage t + 1
  unfoldable pub offer : ℕ → (S → Option ℕ) → S → A → Option ℕ
  offer t W s a = via ◌⊕◌ (τ.cost (suc t) a) (τ.step (suc t) s a) W

  -- the one-stage rule: the value at stage t, from the values W at stage t + 1
  unfoldable pub stage : ℕ → (S → Option ℕ) → S → Option ℕ
  stage t W s = minimum (offer t W s) (τ.moves (suc t))

  -- the value function: the least combined cost of n moves from the state s at stage t
  unfoldable pub least : ℕ → ℕ → S → Option ℕ
  least zero t s = some 0
  least (suc n) t s = stage t (λ s'. least n (suc t) s') s

  -- the walk that takes, at each stage, the first move that attains the value
  unfoldable pub best : ℕ → ℕ → S → List A
  best zero t s = []
  best (suc n) t s =
      lead (chosen (least (suc n) t s) (offer t (λ s'. least n (suc t) s') s) (τ.moves (suc t)))
      (λ a. after (τ.step (suc t) s a) (λ s'. best n (suc t) s'))

  -- p is a walk with the total v, and no walk has a lesser total
  pub record Optimal (n t : ℕ) (s : S) (v : ℕ) (p : List A) : Type 0 where
    pub walk : Walk τ n t s p
    pub reaches : total t p ≡ v
    pub least_of_all : (q : List A) → Walk τ n t s q → v ≤ total t q

  -- and no walk with that total is before it in tie order
  pub record Foremost (◌≺◌ : A → A → Type 0) (n t : ℕ) (s : S) (v : ℕ) (p : List A) : Type 0 where
    pub optimal : Optimal n t s v p
    pub no_later : (q : List A) → Walk τ n t s q → total t q ≡ v → NoLater ◌≺◌ p q

-- R relates the states of a trellis to those of another, stage by stage; the other has the moves and the costs, and allows what the first allows
pub record Simulates {S S₂ A : Type 0} (τ : Trellis S A) (σ : Trellis S₂ A) (R : ℕ → S → S₂ → Type 0) : Type 0 where
  pub listed : (t : ℕ) (a : A) → Memᴰ a (τ.moves t) → Memᴰ a (σ.moves t)
  pub charged : (t : ℕ) (a : A) → τ.cost t a ≡ σ.cost t a
  pub follows : (t : ℕ) (s : S) (s₂ : S₂) (a : A) (u : S) → R t s s₂ → Memᴰ a (τ.moves (suc t)) → τ.step (suc t) s a ≡ some u → (u₂ : S₂) × (σ.step (suc t) s₂ a ≡ some u₂) × R (suc t) u u₂

-- to unfold this is to unfold all that the value and the best walk compute through: for a worked example
unfoldable pub computes : Unit {0}
unfolding lesser holds pick minimum first raise via chosen lead after total offer stage least best
computes = tt
