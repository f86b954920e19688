-- `sender::swap_rows` meets its contract.
use Prim.Native.Nat.{◌+◌, ◌*◌, ◌≤◌}
use mathlib.Core.Path.{refl, ◌∙◌}
use native.Mathlib.Nat.{mul_comm}
use native.Mathlib.Omega.{arith}
use Rattle.model.specs.Table.{layer_words}
use Rattle.sender.specs.Answers.{line_is}
use Rattle.sender.proofs.Sizes.{row_size}
use Rattle.sender.proofs.Swaps.{levels_more, row_end}
use Rattle.sender.proofs.swap_rows.Goals as goal

pub swap_row-requires : goal.swap_row-requires
swap_row-requires c =
    -- the words of this decoder level stand in the layer
    let ends : c.loop-level.level * ((c.args.line.outer.size + 1) * (c.args.line.inner.size + 1)) + (c.args.line.outer.size + 1) * (c.args.line.inner.size + 1) ≤ layer_words (line_is c.args.line) = row_end c.args.line c.loop-level.level (omega (arith, c.loop-level-test.true)) in
    let either = mul_comm (c.args.line.outer.size + 1) (c.args.line.inner.size + 1) in
    (c.loop-level.invariant.1, omega (arith, c.requires.2, row_size c.args.line, either), omega (arith, ends, c.requires.3, c.loop-level.invariant.2, either))

pub loop-level-preserved : goal.loop-level-preserved
loop-level-preserved c =
    (omega (arith, c.loop-level-test.true), c.swap_row.ensures.0, c.swap_row.auto.part ∙ c.loop-level.invariant.2, levels_more c.loop-level.level _ _ _ _ c.loop-level.part c.swap_row.new.part refl c.loop-level.invariant.3 c.swap_row.ensures.1)
