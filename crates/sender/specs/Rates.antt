-- Words of a layer while the second pass makes them, a block at a time, and what a rate offers to them.
use Rattle.std.specs.Prelude.{ℕ, ◌+◌, ◌-◌, ◌*◌, ◌<◌, ◌≤◌, ◌≡◌, List, ltb, length, get_or, if◌then◌else◌}
use Rattle.model.specs.Table.{mark}
use Rattle.sender.specs.declared.Bucket.{Bucket}

-- of `count` blocks of `width` words, which start at a place, those from `low` on are made anew, and all else is kept
pub record BlocksMade (start low count width : ℕ) (f : ℕ → ℕ → ℕ) (old new : List ℕ) : Type 0 where
  pub size : length new ≡ length old
  pub here : (k j : ℕ) → low ≤ k → k < count → j < width → get_or new (start + (k * width + j)) 0 ≡ f k j
  pub before : (i : ℕ) → i < start + low * width → get_or new i 0 ≡ get_or old i 0
  pub after : (i : ℕ) → start + count * width ≤ i → get_or new i 0 ≡ get_or old i 0

-- what sending c offers to the level i of a bucket, from the words of the levels that it leads to
unfoldable pub level_read : ℕ → List ℕ → ℕ → ℕ → ℕ
level_read drain words i c = if ltb ((i + c) - drain) (length words) then get_or words ((i + c) - drain) 0 else mark

-- what sending c offers to the levels k and i of two buckets, where the words between stand from this decoder level on, so many decoder levels
unfoldable pub rate_read : Bucket → Bucket → ℕ → List ℕ → ℕ → ℕ → ℕ → ℕ
rate_read outer inner rows rest k i c =
    if ltb c rows then
    (if ltb ((k + c) - outer.drain) (outer.size + 1) then
    (if ltb ((i + c) - inner.drain) (inner.size + 1) then
    get_or rest ((c * (outer.size + 1) + ((k + c) - outer.drain)) * (inner.size + 1) + ((i + c) - inner.drain)) 0
    else mark)
    else mark)
    else mark

-- what sending c offers to the decoder level i where both buckets are of size 0: they drain c at once or not at all
unfoldable pub column_read : ℕ → List ℕ → ℕ → ℕ → ℕ
column_read drain words i c = if ltb drain c then mark else level_read 0 words i c
