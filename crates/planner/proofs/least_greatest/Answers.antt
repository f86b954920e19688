-- `planner::least_greatest` meets its contract.
use Rattle.planner.proofs.Answering.{start_asked, no_limit, limit_is}
use Rattle.trellis.proofs.Optimality.{greatest_combines}
use Rattle.decoder.specs.Answers.{combine}
use Rattle.table.specs.Answers.{limit_of}
use Rattle.pinning.specs.PinSet.{lines}
use Rattle.header.specs.Answers.{plain}
use Rattle.model.specs.Best.{unlimited}
use mathlib.Core.Path.{sym, ◌∙◌}
use Prim.Native.Nat.{max}
use Rattle.planner.proofs.least_greatest.Goals as goal

pub fill_table-requires : goal.fill_table-requires
unfolding plain
fill_table-requires c = (c.requires.from.starts, c.requires.from.few, c.requires.room)

pub word_at-word-requires : goal.word_at-word-requires
unfolding plain combine
word_at-word-requires c =
    rw c.fill_table.ensures (start_asked _ _ _ _ _ _ c.requires.from _ c.requires.room max greatest_combines (unlimited (lines c.args.header.units c.args.pins.now)))

pub returns-then-word : goal.returns-then-word
unfolding plain combine
returns-then-word c =
    no_limit _ _ _ _ _ _ c.requires.from _ c.requires.room (lines c.args.header.units c.args.pins.now) _ c.fill_table.ensures (sym c.word_at-word.ensures ∙ c.if-word.true)

pub returns : goal.returns
unfolding plain combine
returns c =
    limit_is _ _ _ _ _ _ c.requires.from _ c.requires.room (lines c.args.header.units c.args.pins.now) _ c.word_at-word.result c.fill_table.ensures c.word_at-word.ensures c.if-word.false
