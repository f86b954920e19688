-- The numbers of the first pass: "cannot be completed" is a number there that a distortion can be added to, so that a word is not looked at before the sum. And the list of the sizes that it goes through.
use Rattle.std.specs.Prelude.{ℕ, ◌*◌, ◌<◌, ◌≤◌, min, ◌≡◌, List, leb, ltb, length, get_or, take, if◌then◌else◌}
use Rattle.model.specs.Table.{mark, bound}
use Rattle.planning.specs.Passes.{least_below}

-- more than two distortions come to
abbrev pub far : ℕ
far = 1600000000

-- a word of the next layer as such a number, and the word that such a number stands for
unfoldable pub near : ℕ → ℕ
near word = if leb word bound then word else far

unfoldable pub closed : ℕ → ℕ
closed number = if ltb number far then number else mark

-- the first n numbers are at most this
pub record Upto (n top : ℕ) (numbers : List ℕ) : Type 0 where
  pub each : (i : ℕ) → i < n → get_or numbers i 0 ≤ top

-- a block of which the first n numbers are in use
pub record Numbers (n : ℕ) (block : List ℕ) : Type 0 where
  pub size : length block ≡ 256
  pub few : n ≤ 256
  pub low : Upto n far block

-- words that are read as distortions, and far
pub record NearWords (words : List ℕ) : Type 0 where
  pub each : (i : ℕ) → i < length words → bound < get_or words i 0 → get_or words i 0 ≡ far

-- the first n numbers are lessened, so that what each stands for is lessened to what is offered to its place
pub record Neared (n : ℕ) (f : ℕ → ℕ) (old new : List ℕ) : Type 0 where
  pub size : length new ≡ length old
  pub low : (i : ℕ) → i < n → get_or new i 0 ≤ get_or old i 0
  pub each : (i : ℕ) → i < n → closed (get_or new i 0) ≡ min (closed (get_or old i 0)) (f i)

-- a block of such numbers, each of the first n of which stands for the least of what m offer to its place
pub record NearestOf (n m : ℕ) (f : ℕ → ℕ → ℕ) (block : List ℕ) : Type 0 where
  pub numbers : Numbers n block
  pub each : (i : ℕ) → i < n → closed (get_or block i 0) ≡ least_below m (f i)

-- every size from n on takes at least the rows that stand before the place
pub record SizesWithin (end width n : ℕ) : Type 0 where
  pub few : n ≤ 256
  pub larger : (size : ℕ) → n ≤ size → size < 256 → end ≤ size * width

-- sizes that have a price
pub record Priced (prices sizes : List ℕ) : Type 0 where
  pub below : (j : ℕ) → j < length sizes → get_or sizes j 0 < 256
  pub price : (j : ℕ) → j < length sizes → get_or prices (get_or sizes j 0) 0 ≤ bound

-- and all of those below m: of what the sizes offer, the least is theirs
pub record Offered (prices : List ℕ) (m : ℕ) (sizes : List ℕ) : Type 0 where
  pub listed : Priced prices sizes
  pub least : (f : ℕ → ℕ) → ((x : ℕ) → x < m → bound < get_or prices x 0 → f x ≡ mark) → least_below (length sizes) (λ j. f (get_or sizes j 0)) ≡ least_below m f

-- the first n places of an array hold this list
pub record Listed (prices : List ℕ) (m n : ℕ) (array : List ℕ) : Type 0 where
  pub size : length array ≡ 256
  pub few : n ≤ m
  pub offered : Offered prices m (take n array)

-- what the first pass is made from
pub record Decodes (prices sizes : List ℕ) (width : ℕ) (words : List ℕ) : Type 0 where
  pub size : length prices ≡ 256
  pub listed : Priced prices sizes
  pub narrow : width ≤ 65536
  pub near : NearWords words
