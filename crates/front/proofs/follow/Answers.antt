-- `front::follow` meets its contract: each interval goes on or ends it.
use Rattle.front.proofs.Following.{going_start, going_on, going_stop, going_end}
use Rattle.replay.proofs.Replaying.{buckets_of_job, outcome_told}
use Rattle.format.proofs.Opened.{job_limits, few_intervals, intervals_are, start_is}
use Rattle.interval.specs.Answers.{outcome_is, start_of}
use Rattle.header.specs.Answers.{plain}
use mathlib.Core.Path.{sym, ◌∙◌}
use Prim.Native.Nat.{◌<◌}
use native.Mathlib.Omega.{arith}
use borrow.Author.Rules.{rules}
use Rattle.front.proofs.follow.Goals as goal

pub loop-place-init : goal.loop-place-init
unfolding start_of
loop-place-init c =
    let o = c.requires.plan.opens in
    (search rules, going_start _ _ _ _ (omega (arith, c.requires.few, intervals_are _ _ o)) (job_limits _ _ o).buckets.2 _ (c.start-at.ensures ∙ sym (start_is _ _ o)) _ _ (buckets_of_job _ _ o _ c.of-buffers.ensures) c.none-sum.ensures)

pub interval_at-x-requires : goal.interval_at-x-requires
unfolding plain
interval_at-x-requires c =
    (c.requires.plan, omega (arith, c.requires.few), c.requires.pins_size)

pub returns-in_default : goal.returns-in_default
unfolding outcome_is
returns-in_default c =
    let o = outcome_told _ _ c.requires.plan.opens _ c.of-buffers.ensures _ _ _ _ c.loop-place.at c.interval_at-x.ensures _ _ c.step.ensures c.in_default.is in
    going_stop _ _ _ _ c.loop-place.place c.loop-place.at c.loop-place.sum c.loop-place.invariant.1 (omega arith) _ o

pub with_interval-sum-requires : goal.with_interval-sum-requires
with_interval-sum-requires c =
    let b : c.loop-place.place < 576 = omega (arith, c.requires.few, few_intervals _ _ c.requires.plan.opens) in
    let s = c.loop-place.invariant.1.sums in
    let g = s.small in
    let m = c.interval_at-x.ensures.does.limits in
    record { distortion = omega arith; source = omega arith; channel = omega arith; unused = λ k. omega (arith, s.unused_small k) }

pub loop-place-preserved : goal.loop-place-preserved
unfolding outcome_is
loop-place-preserved c =
    let o = outcome_told _ _ c.requires.plan.opens _ c.of-buffers.ensures _ _ _ _ c.loop-place.at c.interval_at-x.ensures _ _ c.step.ensures c.in-Ok.is in
    (omega arith, going_on _ _ _ _ c.loop-place.place c.loop-place.at c.loop-place.sum c.loop-place.invariant.1 (omega arith) _ o _ _ _ (buckets_of_job _ _ c.requires.plan.opens _ c.of-buffers.ensures) c.interval_at-x.ensures c.with_interval-sum.ensures (job_limits _ _ c.requires.plan.opens).drains)

pub returns : goal.returns
returns c =
    going_end _ _ _ _ c.loop-place.place c.loop-place.at c.loop-place.sum c.loop-place.invariant.1 (omega arith)
