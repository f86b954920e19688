-- `planner::search` meets its contract.
use Rattle.planner.proofs.Answering.{mid_room, asked, tabled, standing, search_13, search_best}
use Rattle.planner.specs.Answers.{answered, planned}
use Rattle.decoder.specs.Answers.{combine}
use Rattle.pinning.specs.PinSet.{lines}
use Rattle.header.specs.Answers.{plain}
use Rattle.planner.proofs.search.Goals as goal

pub fill_table-requires : goal.fill_table-requires
unfolding plain
fill_table-requires c =
    (c.requires.limits.from.starts, c.requires.limits.from.few, mid_room _ _ _ _ _ _ c.requires.limits.from _ c.requires.limits.room (lines c.args.header.units c.args.pins.now) _ _ _ c.limit_for-limit.ensures)

pub word_at-requires : goal.word_at-requires
unfolding plain combine
word_at-requires c =
    asked _ _ _ _ _ _ c.requires.limits.from _ c.requires.limits.room (lines c.args.header.units c.args.pins.now) _ _ _ c.limit_for-limit.ensures _ c.fill_table.ensures

pub returns-then-word_at : goal.returns-then-word_at
unfolding planned plain combine
returns-then-word_at c =
    search_13 _ _ _ _ _ _ c.requires.limits.from _ c.requires.limits.room (lines c.args.header.units c.args.pins.now) _ _ _ c.limit_for-limit.ensures _ c.fill_table.ensures _ _ c.word_at.result c.word_at.ensures c.if-word_at.true

pub read_off-requires : goal.read_off-requires
unfolding plain combine
read_off-requires c =
    let m = lines c.args.header.units c.args.pins.now in
    record {
      starts = c.requires.limits.from.starts;
      few = c.requires.limits.from.few;
      table_is = tabled _ _ _ _ _ _ c.requires.limits.from _ c.requires.limits.room m _ _ _ c.limit_for-limit.ensures _ c.fill_table.ensures;
      stands = standing _ _ _ _ _ _ c.requires.limits.from _ c.requires.limits.room m _ _ _ c.limit_for-limit.ensures _ c.fill_table.ensures c.word_at.result c.word_at.ensures c.if-word_at.false;
      room = c.requires.space;
    }

pub returns : goal.returns
unfolding planned plain combine
returns c =
    search_best _ _ _ _ _ _ c.requires.limits.from _ c.requires.limits.room (lines c.args.header.units c.args.pins.now) _ _ _ c.limit_for-limit.ensures _ c.fill_table.ensures _ _ c.word_at.result c.word_at.ensures c.if-word_at.false _ _ c.read_off.ensures
