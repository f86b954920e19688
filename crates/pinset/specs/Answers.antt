-- What a set and the sums over its pins mean in the terms of the crate `pinning`, and what the functions over them ask and say.
use Rattle.std.specs.Prelude.{ℕ, ◌+◌, ◌<◌, ◌≤◌, ◌≡◌, List}
use Rattle.model.specs.Pins.{PinTotals, with_line}
use Rattle.format.specs.JobBytes as format
use Rattle.format.specs.Choices.{choice_of}
use Rattle.header.specs.declared.Coding.{Coding}
use Rattle.header.specs.Answers.{plain}
use Rattle.pinning.specs.PinSet.{PinSet}
use Rattle.pinning.specs.Check.{codings_in}
use Rattle.pinset.specs.declared.PinSet as code_set
use Rattle.pinset.specs.declared.Tally.{Tally}

unfoldable pub set_of : code_set.PinSet → PinSet
set_of s = record {
  header = plain s.header;
  pins = s.pins;
  totals = record { count = s.count; size = s.size; distortion = s.distortion };
}

-- a pin more does not overflow the totals
pub record Room (s : code_set.PinSet) (place : ℕ) (c : Coding) : Type 0 where
  pub place_below : place < 512
  pub count : s.count ≤ 512
  pub size : s.size + c.size < 4294967296
  pub distortion : s.distortion + c.distortion < 4294967296

-- the totals have the pin
pub record Pinned (s : code_set.PinSet) (place : ℕ) (c : Coding) : Type 0 where
  pub place_below : place < 512
  pub count : 1 ≤ s.count
  pub size : c.size ≤ s.size
  pub distortion : c.distortion ≤ s.distortion

-- What the private functions say.

unfoldable pub tallied : Tally → PinTotals
tallied t = record { count = t.count; size = t.size; distortion = t.distortion }

-- r is the sum with one line more, and not much more
pub record Added (b : List ℕ) (h : format.Header) (place pin : ℕ) (sum r : Tally) : Type 0 where
  pub is : tallied r ≡ with_line (codings_in b h place) (choice_of pin) (tallied sum)
  pub count : r.count ≤ sum.count + 1
  pub size : r.size ≤ sum.size + 65535
  pub distortion : r.distortion ≤ sum.distortion + 4294967295
