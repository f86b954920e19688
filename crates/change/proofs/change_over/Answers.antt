-- `change::change_over` meets its contract: the entries that remain lead to levels within the new buckets.
use Rattle.change.proofs.Both.{no}
use Rattle.change.proofs.Testing.{Led, led, broke, Passed, passed}
use Rattle.change.proofs.Over.{continues, over_in}
use Rattle.format.specs.JobBytes.{job_in}
use Rattle.format.proofs.Opened.{units_are}
use Rattle.pinning.specs.PinSet.{lines}
use Rattle.pinset.specs.Answers.{set_of}
use Rattle.header.specs.Answers.{plain}
use lib.ListN.{length}
use mathlib.Core.Path.{sym, ◌∙◌}
use native.Mathlib.Omega.{arith}
use Rattle.change.proofs.change_over.Goals as goal

pub follow-requires : goal.follow-requires
unfolding plain set_of
follow-requires c =
    -- nothing refuses the rest
    let goes : Passed c.args.job.now (plain c.args.header) c.args.line (lines c.args.header.units c.args.set.pins) c.args.old.now c.args.first (length c.args.table.now) (length c.args.entries.now) = passed _ _ _ c.requires.0.plan.opens _ _ _ _ _ (rw (units_are _ _ c.requires.0.plan.opens) at c.requires.1) in
    record { plan = c.requires.0.plan; pins_size = c.requires.0.ready.size; few = omega (arith, goes.less) }

pub plan_rest-requires : goal.plan_rest-requires
unfolding plain set_of
plan_rest-requires c =
    -- nothing refuses the rest
    let goes : Passed c.args.job.now (plain c.args.header) c.args.line (lines c.args.header.units c.args.set.pins) c.args.old.now c.args.first (length c.args.table.now) (length c.args.entries.now) = passed _ _ _ c.requires.0.plan.opens _ _ _ _ _ (rw (units_are _ _ c.requires.0.plan.opens) at c.requires.1) in
    let leads-on : let a = c.args in Led (job_in a.job.now) (lines a.header.units a.set.pins) a.first a.old.now c.in-Some.field-0.at c.in-Some.field-0.sum = led _ c.follow.ensures c.in-Some.is in
    continues _ _ _ _ _ _ _ _ _ _ _ c.requires.0 goes leads-on

pub returns-in_default : goal.returns-in_default
unfolding plain set_of
returns-in_default c =
    -- nothing refuses the rest
    let goes : Passed c.args.job.now (plain c.args.header) c.args.line (lines c.args.header.units c.args.set.pins) c.args.old.now c.args.first (length c.args.table.now) (length c.args.entries.now) = passed _ _ _ c.requires.0.plan.opens _ _ _ _ _ (rw (units_are _ _ c.requires.0.plan.opens) at c.requires.1) in
    no (sym (broke c.follow.ensures c.in_default.is) ∙ goes.clean)

pub returns : goal.returns
unfolding plain set_of
returns c =
    let leads-on : let a = c.args in Led (job_in a.job.now) (lines a.header.units a.set.pins) a.first a.old.now c.in-Some.field-0.at c.in-Some.field-0.sum = led _ c.follow.ensures c.in-Some.is in
    c.plan_rest.ensures ∙ over_in _ _ _ _ _ _ _ _ _ _ leads-on
