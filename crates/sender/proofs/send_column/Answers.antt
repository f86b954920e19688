-- `sender::send_column` meets its contract.
use Prim.Native.Nat.{◌+◌}
use mathlib.Core.Path.{refl, sym}
use native.Mathlib.Omega.{arith}
use lib.Seq.{length-take-le}
use Rattle.sender.proofs.Column.{column_height, column_sent}
use Rattle.sender.proofs.send_column.Goals as goal

pub slice_bounds-sent_column-end : goal.slice_bounds-sent_column-end
slice_bounds-sent_column-end c = omega (arith, c.requires.2, column_height c.args.line c.requires.1)

pub slice_bounds-sent_column-end-2 : goal.slice_bounds-sent_column-end-2
slice_bounds-sent_column-end-2 c =
    sym (length-take-le (c.args.line.decoder + 1) c.args.part.now (omega (arith, c.requires.2, column_height c.args.line c.requires.1)))

pub sent_column-requires : goal.sent_column-requires
sent_column-requires c =
    let long = length-take-le (c.args.line.decoder + 1) c.args.part.now (omega (arith, c.requires.2, column_height c.args.line c.requires.1)) in
    (refl, c.requires.0, omega arith, omega (arith, c.requires.0.decoder))

pub put_words-requires : goal.put_words-requires
put_words-requires c =
    (c.sent_column.ensures.size, omega (arith, c.requires.0.decoder), omega (arith, c.requires.2, column_height c.args.line c.requires.1))

pub returns : goal.returns
returns c =
    column_sent c.args.line c.requires.1 c.requires.0 c.args.part.now c.put_words.new.part c.sent_column.new.block _ refl (omega (arith, c.requires.2, column_height c.args.line c.requires.1)) c.sent_column.ensures c.put_words.ensures
