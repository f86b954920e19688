-- `planner::plan_with` meets its contract.
use Rattle.planner.proofs.Answering.{with_20, with_levels, levels_inside}
use Rattle.planner.specs.Answers.{answered, planned, levels_of_buckets}
use Rattle.interval.specs.Answers.{levels_of}
use Rattle.header.specs.Answers.{plain}
use mathlib.Core.Path.{◌∙◌}
use Rattle.planner.proofs.plan_with.Goals as goal

pub returns-then-not-levels_fit : goal.returns-then-not-levels_fit
unfolding planned
returns-then-not-levels_fit c =
    with_20 _ _ _ c.requires _ c.levels_fit.result c.levels_fit.ensures _ _ _ _ c.if-not-levels_fit.true

pub plan_checked-requires : goal.plan_checked-requires
unfolding plain levels_of_buckets levels_of
plan_checked-requires c =
    let r = c.requires in
    (r, levels_inside _ _ _ r _ c.levels_fit.result c.levels_fit.ensures c.if-not-levels_fit.false)

pub returns : goal.returns
unfolding plain levels_of_buckets levels_of
returns c =
    c.plan_checked.ensures ∙ with_levels _ _ _ c.requires _ c.levels_fit.result c.levels_fit.ensures _ _ _ _ c.if-not-levels_fit.false
