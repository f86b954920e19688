-- What is asked of the entries that remain, and what is told of them in the terms of `changing`.
use Rattle.std.specs.Prelude.{ℕ, ◌+◌, ◌*◌, ◌≤◌, ◌≡◌, true, false, List, length, get_or, Option, Some, None}
use Rattle.model.specs.Job as model
use Rattle.model.specs.Pins.{PinMap}
use Rattle.model.specs.Replay.{totals}
use Rattle.format.specs.JobBytes as format
use Rattle.interval.specs.declared.Totals.{Totals}
use Rattle.interval.specs.Answers.{levels_of, totals_of}
use Rattle.course.specs.Answers.{Shaped}
use Rattle.changing.specs.Calls.{remaining, front, carried, is_clean}
use Rattle.front.specs.declared.Front.{Front}

-- a plan in shape, the pins of a set, and at most as many entries as it has
pub record Remains (b : List ℕ) (h : format.Header) (pins entries : List ℕ) (count : ℕ) : Type 0 where
  pub plan : Shaped b h entries
  pub pins_size : length pins ≡ 512
  pub few : count ≤ h.units + h.delay

-- totals of so many intervals, which are small
pub record SmallTotals (count : ℕ) (t : Totals) : Type 0 where
  pub distortion : t.distortion ≤ count * 1000000
  pub source : t.source ≤ count * 4095
  pub channel : t.channel ≤ count * 4095
  pub unused : (k : ℕ) → get_or (totals_of t).unused k 0 ≤ count * 4095

-- the levels and the totals of the first `count` entries, where none has a violation
pub data FrontOf (j : model.Job) (m : PinMap) (count : ℕ) (entries : List ℕ) : Option Front → Type 0 where
  leads : {x : Front} → is_clean (front j m count entries).result ≡ true → levels_of x.at ≡ carried j m count entries → length (levels_of x.at).buckets ≡ length j.line.buckets → totals_of x.sum ≡ totals j 0 j.start (remaining j m count entries) → SmallTotals count x.sum → FrontOf j m count entries (Some x)
  breaks : is_clean (front j m count entries).result ≡ false → FrontOf j m count entries None
