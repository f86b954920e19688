-- `numbers::put_pins` meets its contract: the pins before the place are copied, whichever turn the loop is at.
use native.Mathlib.Omega.{arith}
use Rattle.numbers.proofs.Copies.{copied_more, copied_all}
use Rattle.numbers.proofs.put_pins.Goals as goal

pub loop-place-preserved : goal.loop-place-preserved
loop-place-preserved c =
    (omega arith, copied_more _ 13 _ c.loop-place.place _ _ (omega (arith, c.requires)) (omega (arith, c.requires)) c.from.ensures c.loop-place.invariant.1)

pub returns : goal.returns
returns c =
    copied_all _ 13 _ c.loop-place.place _ (omega (arith, c.requires)) c.loop-place.invariant.1
