-- The buckets of a line in each other's place, and the words of a layer in the order that goes with it.
use Rattle.std.specs.Prelude.{ℕ, ◌+◌, ◌*◌, ◌<◌, ◌≤◌, ◌≡◌, List, length, get_or}
use Rattle.sender.specs.declared.Line.{Line}

unfoldable pub swapped : Line → Line
swapped l = record { decoder = l.decoder; outer = l.inner; inner = l.outer; count = l.count; rates = l.rates }

-- in each of the first decoder levels, what stood in place j of block k stands in place k of block j; all behind them is kept
pub record LevelsSwapped (rows p q : ℕ) (old new : List ℕ) : Type 0 where
  pub size : length new ≡ length old
  pub here : (b k j : ℕ) → b < rows → k < p → j < q → get_or new (b * (p * q) + (j * p + k)) 0 ≡ get_or old (b * (p * q) + (k * q + j)) 0
  pub after : (i : ℕ) → rows * (p * q) ≤ i → get_or new i 0 ≡ get_or old i 0
