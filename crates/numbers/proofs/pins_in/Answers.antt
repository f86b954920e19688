-- `numbers::pins_in` meets its contract: the pins before the place are read, whichever turn the loop is at.
use mathlib.Core.Path.{◌∙◌, sym}
use native.Mathlib.Omega.{arith}
use lib.Seq.{get_or-drop}
use lib.ListN.{length-drop}
use Rattle.numbers.proofs.Telling.{size_told}
use Rattle.numbers.proofs.Copies.{begun_more}
use Rattle.numbers.proofs.pins_in.Goals as goal

pub loop-place-preserved : goal.loop-place-preserved
loop-place-preserved c =
    let n = size_told _ c.requires in
    (omega arith, begun_more _ 512 c.loop-place.place _ c.loop-place.pin-items (omega arith) (omega (arith, n, length-drop 13 c.args.list.now)) (c.field.ensures ∙ sym (get_or-drop 13 c.args.list.now c.loop-place.place 0)) c.loop-place.invariant.1)
