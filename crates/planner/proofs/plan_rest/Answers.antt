-- `planner::plan_rest` meets its contract.
use Rattle.pinning.specs.PinSet.{lines}
use Rattle.model.specs.Best.{late, total}
use mathlib.Core.List.{[]}
use Rattle.planner.proofs.Answering.{over_fits, from_11, from_12, searches, from_searched}
use Rattle.planner.specs.Answers.{answered, planned}
use Rattle.header.specs.Answers.{plain}
use mathlib.Core.Path.{◌∙◌}
use native.Mathlib.Omega.{arith}
use Rattle.planner.proofs.plan_rest.Goals as goal

pub words_over-requires : goal.words_over-requires
unfolding plain
words_over-requires c = over_fits _ _ _ _ _ _ [] [] (lines 0 []) total late c.requires

pub returns-then-table-words_over : goal.returns-then-table-words_over
unfolding planned
returns-then-table-words_over c = from_11 _ _ _ _ _ _ _ _ _ _ _ c.requires (omega (arith, c.words_over.ensures, c.if-table-words_over.true))

pub overflow_sub-intervals : goal.overflow_sub-intervals
unfolding plain
overflow_sub-intervals c = omega (arith, c.intervals.ensures, c.requires.few)

pub returns-then-entries-intervals : goal.returns-then-entries-intervals
unfolding plain planned
returns-then-entries-intervals c = from_12 _ _ _ _ _ _ _ _ _ _ _ c.requires (omega (arith, c.words_over.ensures, c.if-table-words_over.false)) (omega (arith, c.intervals.ensures, c.if-entries-intervals.true))

pub search-requires : goal.search-requires
unfolding plain
search-requires c = searches _ _ _ _ _ _ _ _ (lines 0 []) total late c.requires (omega (arith, c.words_over.ensures, c.if-table-words_over.false)) (omega (arith, c.intervals.ensures, c.if-entries-intervals.false))

pub returns : goal.returns
unfolding plain
returns c =
    c.search.ensures ∙ from_searched _ _ _ _ _ _ _ _ _ _ _ c.requires (omega (arith, c.words_over.ensures, c.if-table-words_over.false)) (omega (arith, c.intervals.ensures, c.if-entries-intervals.false))
