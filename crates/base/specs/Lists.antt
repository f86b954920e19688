-- Numbers one after another, as a loop goes through them: their list, their sum and the greatest of them.
use Rattle.std.specs.Prelude.{ℕ, zero, suc, ◌+◌, max, List, [], ◌∷◌, ◌++◌}

-- the numbers f 0 to f (n - 1)
unfoldable pub build : ℕ → (ℕ → ℕ) → List ℕ
build zero f = []
build (suc n) f = build n f ++ (f n ∷ [])

-- f(1) to f(n), combined
unfoldable pub gathered : (ℕ → ℕ → ℕ) → (ℕ → ℕ) → ℕ → ℕ
gathered ◌⊕◌ f zero = 0
gathered ◌⊕◌ f (suc n) = ◌⊕◌ (gathered ◌⊕◌ f n) (f (suc n))

-- f(1) + ... + f(n)
abbrev pub sum : (ℕ → ℕ) → ℕ → ℕ
sum f n = gathered ◌+◌ f n

-- the greatest of f(1) to f(n)
abbrev pub greatest : (ℕ → ℕ) → ℕ → ℕ
greatest f n = gathered max f n
