-- `sender::send_row` meets its contract.
use lib.Seq.{take_all}
use lib.ListN.{length-drop}
use Rattle.sender.proofs.Rows.{block_end, block_sent}
use mathlib.Core.Path.{◌≡◌, ◌∙◌}
use lib.ListN.{length, get_or, take, drop}
use Prim.Native.Nat.{◌≤◌, ◌-◌, ◌+◌, ◌*◌}
use native.Mathlib.Omega.{arith}
use Rattle.sender.proofs.send_row.Goals as goal

pub put_words-requires : goal.put_words-requires
put_words-requires c =
    -- the block stands in the part
    let room : c.args.start + (c.loop-level.level - 1) * (c.args.line.inner.size + 1) + (c.args.line.inner.size + 1) ≤ length c.loop-level.part = block_end c.args.rows (c.args.line.outer.size + 1) (c.args.line.inner.size + 1) (c.loop-level.level - 1) c.args.start (length c.loop-level.part) c.requires.2 (omega arith) (omega (arith, c.requires.3, c.loop-level.invariant.1)) in
    (c.sent_block.ensures.size, omega (arith, c.requires.1.inner), room)

pub loop-level-preserved : goal.loop-level-preserved
loop-level-preserved c =
    let e : take (length c.loop-level.part - c.args.start) (drop c.args.start c.loop-level.part) ≡ drop c.args.start c.loop-level.part = take_all (length c.loop-level.part - c.args.start) (drop c.args.start c.loop-level.part) (omega (arith, length-drop c.args.start c.loop-level.part)) in
    (c.sent_block.ensures.size, c.put_words.auto.part ∙ c.loop-level.invariant.1, block_sent c.args.line.outer c.args.line.inner c.args.rows c.args.start (c.loop-level.level - 1) c.loop-level.level c.args.line.count (λ y. get_or c.args.line.rates y 0) c.args.part.now c.loop-level.part c.put_words.new.part c.sent_block.new.block (omega (arith, c.loop-level-test.true)) (omega arith) c.loop-level.invariant.2 (rw e at c.sent_block.ensures) c.put_words.ensures)
