-- What a set of pins holds (document 01, "Pins", where it is called the desk).
use Rattle.std.specs.Prelude.{ℕ, List, map, take, replicate}
use Rattle.model.specs.Pins.{PinMap, PinTotals, no_totals}
use Rattle.format.specs.Choices.{no_choice, choice_of}
use Rattle.format.specs.JobBytes.{Header}

-- the header, 512 pins and three totals: pins, pinned sizes, pinned distortions
pub record PinSet : Type 0 where
  pub header : Header
  pub pins : List ℕ
  pub totals : PinTotals

-- the lines of the first n units
unfoldable pub lines : ℕ → List ℕ → PinMap
lines n bytes = map choice_of (take n bytes)

unfoldable pub unpinned : List ℕ
unpinned = replicate 512 no_choice

-- the set without a pin
unfoldable pub fresh : Header → PinSet
fresh h = record { header = h; pins = unpinned; totals = no_totals }
