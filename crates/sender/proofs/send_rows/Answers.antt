-- `sender::send_rows` meets its contract.
use Rattle.sender.proofs.Rows.{row_sent}
use Rattle.sender.proofs.Sizes.{rows_end, layer_size, layer_small}
use Rattle.sender.specs.Answers.{line_is}
use Rattle.model.specs.Table.{layer_words}
use mathlib.Core.Path.{◌≡◌, refl, ◌∙◌}
use Prim.Native.Nat.{◌-◌, ◌+◌, ◌*◌}
use native.Mathlib.Omega.{arith}
use Rattle.sender.proofs.send_rows.Goals as goal

pub overflow_mul-start : goal.overflow_mul-start
overflow_mul-start c =
    -- the rows from this level on end with the layer, which stands in the part
    let ends : c.loop-level.level * c.row_words-width.result + (c.args.line.decoder + 1 - c.loop-level.level) * ((c.args.line.outer.size + 1) * (c.args.line.inner.size + 1)) ≡ layer_words (line_is c.args.line) = rows_end c.args.line c.row_words-width.result c.loop-level.level c.row_words-width.ensures (omega (arith, c.loop-level-test.true)) in
    record { fits = omega (arith, ends, layer_small c.args.line c.requires.0) }

pub send_row-requires : goal.send_row-requires
send_row-requires c =
    -- the rows from this level on end with the layer, which stands in the part
    let ends : c.loop-level.level * c.row_words-width.result + (c.args.line.decoder + 1 - c.loop-level.level) * ((c.args.line.outer.size + 1) * (c.args.line.inner.size + 1)) ≡ layer_words (line_is c.args.line) = rows_end c.args.line c.row_words-width.result c.loop-level.level c.row_words-width.ensures (omega (arith, c.loop-level-test.true)) in
    (c.loop-level.invariant.1, c.requires.0, omega (arith, c.loop-level-test.true), omega (arith, ends, c.requires.1, c.loop-level.invariant.2))

pub loop-level-preserved : goal.loop-level-preserved
loop-level-preserved c =
    (omega (arith, c.loop-level-test.true), c.send_row.ensures.0, c.send_row.auto.part ∙ c.loop-level.invariant.2, row_sent c.args.line c.requires.0 c.args.part.now c.loop-level.part c.send_row.new.part c.loop-level.level _ c.row_words-width.result _ (omega (arith, c.loop-level-test.true)) c.row_words-width.ensures refl refl c.loop-level.invariant.3 c.send_row.ensures.1)

pub returns : goal.returns
returns c =
    let h : c.loop-level.level ≡ c.args.line.decoder + 1 = omega (arith, c.loop-level-test.false, c.loop-level.invariant.0) in
    let e : c.loop-level.level * c.row_words-width.result ≡ layer_words (line_is c.args.line) = rw (h, c.row_words-width.ensures) (layer_size c.args.line) in
    rw e at c.loop-level.invariant.3
