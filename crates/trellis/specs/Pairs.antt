-- The pairs of two indices, in rows: the first index is that of the row, and the second rises.
-- The lists grow at their ends, as two nested loops go through them.
use Rattle.std.specs.Prelude.{ℕ, zero, suc, List, [], ◌∷◌, ◌++◌}

pub record Pair : Type 0 where
  pub outer : ℕ
  pub inner : ℕ

abbrev pub pair : ℕ → ℕ → Pair
pair i j = record { outer = i; inner = j }

-- the pairs with the first index i
unfoldable pub row : ℕ → ℕ → List Pair
row i zero = []
row i (suc k) = row i k ++ (pair i k ∷ [])

-- n rows, of the first indices f 0 to f (n - 1)
unfoldable pub rows : (ℕ → ℕ) → ℕ → ℕ → List Pair
rows f zero k = []
rows f (suc n) k = rows f n k ++ row (f n) k
