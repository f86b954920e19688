-- Words of a layer while the two passes make them, a block at a time.
use Rattle.std.specs.Prelude.{ℕ, ◌+◌, ◌<◌, ◌≤◌, min, ◌≡◌, List, length, get_or}
use Rattle.model.specs.Table.{mark}
use Rattle.planning.specs.Passes.{least_below}

-- n words, from this place on, are lessened to other numbers where those are smaller
pub record Lessened (from n : ℕ) (f : ℕ → ℕ) (old new : List ℕ) : Type 0 where
  pub size : length new ≡ length old
  pub here : (i : ℕ) → i < n → get_or new (from + i) 0 ≡ min (f i) (get_or old (from + i) 0)
  pub before : (i : ℕ) → i < from → get_or new i 0 ≡ get_or old i 0
  pub after : (i : ℕ) → from + n ≤ i → get_or new i 0 ≡ get_or old i 0

-- each of the first n words is lessened to what is offered to its place
pub record Lowered (n : ℕ) (f : ℕ → ℕ) (old new : List ℕ) : Type 0 where
  pub size : length new ≡ length old
  pub each : (i : ℕ) → i < n → get_or old i 0 ≤ mark → get_or new i 0 ≡ min (get_or old i 0) (f i)

-- a block, of which each of the first n words is the least of what m offer to its place
pub record LeastOf (n m : ℕ) (f : ℕ → ℕ → ℕ) (block : List ℕ) : Type 0 where
  pub size : length block ≡ 256
  pub each : (i : ℕ) → i < n → get_or block i 0 ≡ least_below m (f i)

-- the words from one place to another are made anew, the others kept
pub record Made (low high : ℕ) (f : ℕ → ℕ) (old new : List ℕ) : Type 0 where
  pub size : length new ≡ length old
  pub here : (i : ℕ) → low ≤ i → i < high → get_or new i 0 ≡ f i
  pub before : (i : ℕ) → i < low → get_or new i 0 ≡ get_or old i 0
  pub after : (i : ℕ) → high ≤ i → get_or new i 0 ≡ get_or old i 0
