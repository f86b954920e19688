-- `sender::send_swapped` meets its contract.
use native.Mathlib.Omega.{arith}
use Rattle.sender.proofs.Swaps.{other_fits, other_row, other_layer, swapped_sent}
use Rattle.sender.proofs.send_swapped.Goals as goal

pub send_rows-requires : goal.send_rows-requires
send_rows-requires c =
    let l = c.args.line in
    let o = c.swapped_line-other.result in
    (other_fits l o c.swapped_line-other.ensures c.requires.0, omega (arith, other_layer l o c.swapped_line-other.ensures, c.requires.2, c.swap_rows.auto.part))

pub swap_rows-requires-2 : goal.swap_rows-requires-2
swap_rows-requires-2 c =
    let l = c.args.line in
    let o = c.swapped_line-other.result in
    (c.swap_rows.ensures.0, other_fits l o c.swapped_line-other.ensures c.requires.0, omega (arith, other_row l o c.swapped_line-other.ensures, c.requires.1), omega (arith, other_layer l o c.swapped_line-other.ensures, c.requires.2, c.swap_rows.auto.part, c.send_rows.auto.part))

pub returns : goal.returns
returns c =
    swapped_sent c.args.line c.swapped_line-other.result c.swapped_line-other.ensures c.requires.0 c.args.part.now c.swap_rows.new.part c.send_rows.new.part c.swap_rows-2.new.part c.swap_rows.ensures.1 c.send_rows.ensures c.swap_rows-2.ensures.1
