-- `change::rest_verdict` meets its contract: the interval, the entries that remain, the levels they lead to, the lists.
use Rattle.change.proofs.Testing.{Led, led, broke, is_18, is_19, is_20, is_11, is_12, is_none}
use Rattle.format.specs.JobBytes.{job_in}
use Rattle.format.proofs.Opened.{few_intervals}
use Rattle.pinning.specs.PinSet.{lines}
use Rattle.pinset.specs.Answers.{set_of}
use Rattle.header.specs.Answers.{plain}
use Rattle.model.specs.Job.{Levels}
use Rattle.interval.specs.Answers.{line_of}
use Rattle.line.specs.Answers.{line_is}
use Rattle.line.proofs.Sizes.{each_small}
use Rattle.changing.specs.Calls.{none_over}
use Rattle.model.specs.Step.{overfull}
use mathlib.Core.Path.{sym, ap, ◌∙◌}
use native.Mathlib.Omega.{arith}
use Rattle.change.proofs.rest_verdict.Goals as goal

pub returns-then-first-lt1 : goal.returns-then-first-lt1
unfolding plain set_of
returns-then-first-lt1 c = is_18 _ _ _ c.requires.plan.opens _ _ _ _ _ (λ r. omega (arith, c.if-first-lt1.true, r.0))

pub returns-then-total-first : goal.returns-then-total-first
unfolding plain set_of
returns-then-total-first c = is_18 _ _ _ c.requires.plan.opens _ _ _ _ _ (λ r. omega (arith, c.if-total-first.true, c.intervals-total.ensures, r.1))

pub follow-requires : goal.follow-requires
unfolding plain set_of
follow-requires c = record { plan = c.requires.plan; pins_size = c.requires.ready.size; few = omega (arith, c.if-total-first.false, c.intervals-total.ensures) }

pub returns-then-not-carried_fits : goal.returns-then-not-carried_fits
unfolding plain set_of line_is line_of
returns-then-not-carried_fits c =
    -- the first entries have no violation
    let leads-on : let a = c.args in Led (job_in a.job.now) (lines a.header.units a.set.pins) a.first a.old.now c.in-Some.field-0.at c.in-Some.field-0.sum = led _ c.follow.ensures c.in-Some.is in
    let w = leads-on in
    is_20 c.args.job.now (plain c.args.header) c.args.line c.requires.plan.opens (lines c.args.header.units c.args.set.pins) c.args.old.now c.args.first c.args.table c.args.entries (omega (arith, c.if-first-lt1.false)) (omega (arith, c.if-total-first.false, c.intervals-total.ensures)) w.clean (ap (λ (x : Levels). none_over (overfull (line_is c.args.line).buckets x.buckets)) (sym w.levels) ∙ sym c.carried_fits.ensures ∙ c.if-not-carried_fits.true)

pub words_over-requires : goal.words_over-requires
unfolding plain
words_over-requires c = (few_intervals _ _ c.requires.plan.opens, each_small _ c.requires.line.buffers)

pub returns-then-table-words_over : goal.returns-then-table-words_over
unfolding plain set_of line_is line_of
returns-then-table-words_over c =
    -- the first entries have no violation
    let leads-on : let a = c.args in Led (job_in a.job.now) (lines a.header.units a.set.pins) a.first a.old.now c.in-Some.field-0.at c.in-Some.field-0.sum = led _ c.follow.ensures c.in-Some.is in
    let w = leads-on in
    is_11 c.args.job.now (plain c.args.header) c.args.line c.requires.plan.opens (lines c.args.header.units c.args.set.pins) c.args.old.now c.args.first c.args.table c.args.entries (omega (arith, c.if-first-lt1.false)) (omega (arith, c.if-total-first.false, c.intervals-total.ensures)) w.clean (ap (λ (x : Levels). none_over (overfull (line_is c.args.line).buckets x.buckets)) (sym w.levels) ∙ sym c.carried_fits.ensures ∙ c.if-not-carried_fits.false) (omega (arith, c.if-table-words_over.true, c.words_over.ensures))

pub returns-then-entries-total : goal.returns-then-entries-total
unfolding plain set_of line_is line_of
returns-then-entries-total c =
    -- the first entries have no violation
    let leads-on : let a = c.args in Led (job_in a.job.now) (lines a.header.units a.set.pins) a.first a.old.now c.in-Some.field-0.at c.in-Some.field-0.sum = led _ c.follow.ensures c.in-Some.is in
    let w = leads-on in
    is_12 c.args.job.now (plain c.args.header) c.args.line c.requires.plan.opens (lines c.args.header.units c.args.set.pins) c.args.old.now c.args.first c.args.table c.args.entries (omega (arith, c.if-first-lt1.false)) (omega (arith, c.if-total-first.false, c.intervals-total.ensures)) w.clean (ap (λ (x : Levels). none_over (overfull (line_is c.args.line).buckets x.buckets)) (sym w.levels) ∙ sym c.carried_fits.ensures ∙ c.if-not-carried_fits.false) (omega (arith, c.if-table-words_over.false, c.words_over.ensures)) (omega (arith, c.if-entries-total.true, c.intervals-total.ensures))

pub returns-in_default : goal.returns-in_default
unfolding plain set_of
returns-in_default c = is_19 _ _ _ c.requires.plan.opens _ _ _ _ _ (omega (arith, c.if-first-lt1.false)) (omega (arith, c.if-total-first.false, c.intervals-total.ensures)) (broke c.follow.ensures c.in_default.is)

pub returns : goal.returns
unfolding plain set_of line_is line_of
returns c =
    -- the first entries have no violation
    let leads-on : let a = c.args in Led (job_in a.job.now) (lines a.header.units a.set.pins) a.first a.old.now c.in-Some.field-0.at c.in-Some.field-0.sum = led _ c.follow.ensures c.in-Some.is in
    let w = leads-on in
    is_none c.args.job.now (plain c.args.header) c.args.line c.requires.plan.opens (lines c.args.header.units c.args.set.pins) c.args.old.now c.args.first c.args.table c.args.entries (omega (arith, c.if-first-lt1.false)) (omega (arith, c.if-total-first.false, c.intervals-total.ensures)) w.clean (ap (λ (x : Levels). none_over (overfull (line_is c.args.line).buckets x.buckets)) (sym w.levels) ∙ sym c.carried_fits.ensures ∙ c.if-not-carried_fits.false) (omega (arith, c.if-table-words_over.false, c.words_over.ensures)) (omega (arith, c.if-entries-total.false, c.intervals-total.ensures))
