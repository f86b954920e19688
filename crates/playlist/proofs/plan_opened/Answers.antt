-- `playlist::plan_opened` meets its contract: a refusal keeps the entries, and a plan stands behind those before it.
use Rattle.header.proofs.Told.{handed}
use mathlib.Core.Path.{refl, ◌∙◌}
use native.Mathlib.Omega.{arith}
use Rattle.header.specs.Answers.{plain}
use Rattle.best.specs.Answers.{order_is}
use Rattle.planner.specs.Answers.{aim_is}
use Rattle.playlist.proofs.Turning.{end_in, found_is, leads, places, turn_best, turn_refused}
use borrow.Author.Rules.{rules}
use Rattle.playlist.proofs.plan_opened.Goals as goal

pub slice_bounds-plan_from-count : goal.slice_bounds-plan_from-count
slice_bounds-plan_from-count c =
    -- the part that planning is lent
    let part_of = end_in c.args.standing c.args.table.now c.args.entries.now c.args.totals.now c.requires.1.used c.end_for-end.result c.end_for-end.ensures in
    search (rules, part_of.0)

pub slice_bounds-plan_from-start : goal.slice_bounds-plan_from-start
slice_bounds-plan_from-start c =
    let part_of = end_in c.args.standing c.args.table.now c.args.entries.now c.args.totals.now c.requires.1.used c.end_for-end.result c.end_for-end.ensures in
    search (rules, part_of.0)

pub slice_bounds-plan_from-end : goal.slice_bounds-plan_from-end
slice_bounds-plan_from-end c =
    let part_of = end_in c.args.standing c.args.table.now c.args.entries.now c.args.totals.now c.requires.1.used c.end_for-end.result c.end_for-end.ensures in
    search (rules, part_of.1)

pub returns-in_err-sum : goal.returns-in_err-sum
unfolding aim_is order_is
returns-in_err-sum c =
    turn_refused _ _ _ c.requires.0 _ _ _ c.requires.1.used _ c.end_for-end.ensures _ _ _ (c.in_err-sum.ensures ∙ found_is _ _ _ c.requires.0 _ _ _ c.requires.1.used _ c.end_for-end.ensures _ _ c.fresh-set.ensures c.levels_for-from.ensures) _ _ (handed _ _ c.from_residual.ensures) refl

pub put_totals-requires : goal.put_totals-requires
unfolding aim_is order_is
put_totals-requires c =
    places _ _ _ c.requires.0 _ _ _ c.requires.1.used _ c.end_for-end.ensures _ c.levels_for-from.ensures _ _ _ (c.in_ok-sum.ensures ∙ found_is _ _ _ c.requires.0 _ _ _ c.requires.1.used _ c.end_for-end.ensures _ _ c.fresh-set.ensures c.levels_for-from.ensures)

pub levels_after-requires : goal.levels_after-requires
unfolding aim_is order_is
levels_after-requires c =
    leads _ _ _ c.requires.0 _ _ _ c.requires.1.used _ c.end_for-end.ensures _ c.levels_for-from.ensures _ _ _ (c.in_ok-sum.ensures ∙ found_is _ _ _ c.requires.0 _ _ _ c.requires.1.used _ c.end_for-end.ensures _ _ c.fresh-set.ensures c.levels_for-from.ensures)

pub returns : goal.returns
unfolding plain aim_is order_is
returns c =
    turn_best _ _ _ c.requires.0 _ _ _ c.requires.1.used _ c.end_for-end.ensures _ c.levels_for-from.ensures _ _ _ (c.in_ok-sum.ensures ∙ found_is _ _ _ c.requires.0 _ _ _ c.requires.1.used _ c.end_for-end.ensures _ _ c.fresh-set.ensures c.levels_for-from.ensures) _ _ c.levels_after.result _ _ (omega arith) (omega (arith, c.intervals.ensures)) c.levels_after.ensures refl c.put_totals.ensures
