-- `pins::outside` meets its contract: below 1 or above the count.
use Rattle.pins.proofs.Calls.{outside_low, outside_high}
use Rattle.pins.proofs.outside.Goals as goal

pub returns-then-unit-lt1 : goal.returns-then-unit-lt1
returns-then-unit-lt1 c = outside_low _ _ c.if-unit-lt1.true

pub returns : goal.returns
returns c = outside_high _ _ c.if-unit-lt1.false
