-- `sender::swap_row` meets its contract.
use Prim.Native.Nat.{◌-◌}
use mathlib.Core.Path.{◌∙◌}
use native.Mathlib.Omega.{arith}
use Rattle.sender.proofs.Swaps.{column_swapped}
use Rattle.sender.proofs.swap_row.Goals as goal

pub loop-level-preserved : goal.loop-level-preserved
loop-level-preserved c =
    (c.put_column.auto.part ∙ c.loop-level.invariant.0, column_swapped c.args.start c.args.levels c.args.width (c.loop-level.level - 1) c.loop-level.level c.args.part.now _ c.keep_words.new.kept c.loop-level.part c.put_column.new.part c.requires.2 (omega (arith, c.loop-level-test.true)) (omega arith) c.keep_words.ensures c.loop-level.invariant.1 c.put_column.ensures)
