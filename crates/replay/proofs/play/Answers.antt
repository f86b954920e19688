-- `replay::play` meets its contract: what is done and what is left come to the whole replay, and each interval goes on or ends it.
use Rattle.replay.proofs.Replaying.{buckets_of_job, outcome_told, going_start, next_count, going_on, going_stop, going_end}
use Rattle.replay.proofs.Levels.{bucket_count, room_for_one}
use Rattle.format.proofs.Opened.{job_limits, few_intervals, intervals_are, start_is}
use Rattle.replay.specs.Answers.{replayed, ended}
use Rattle.interval.specs.Answers.{outcome_is, start_of}
use Rattle.header.specs.Answers.{plain}
use mathlib.Core.Path.{sym, ◌∙◌, ap}
use Prim.Native.Nat.{suc, ◌<◌}
use native.Mathlib.Numerals.{add-one}
use native.Mathlib.Omega.{arith}
use borrow.Author.Rules.{rules}
use Rattle.replay.proofs.play.Goals as goal

pub loop-place-init : goal.loop-place-init
unfolding plain start_of
loop-place-init c = let o = c.requires.plan.opens in
    (search rules, going_start _ _ _ _ (job_limits _ _ o).buckets.2 _ (c.levels_each-each.ensures ∙ ap suc (sym (bucket_count _ _ o))) _ (c.start-at.ensures ∙ sym (start_is _ _ o)) _ _ (buckets_of_job _ _ o _ c.of-buffers.ensures) c.none-sum.ensures)

pub overflow_cast-interval : goal.overflow_cast-interval
unfolding plain
overflow_cast-interval c =
    record { fits = omega (arith, c.intervals-total.ensures, few_intervals _ _ c.requires.plan.opens) }

pub returns-in-Err : goal.returns-in-Err
unfolding plain ended replayed outcome_is
returns-in-Err c =
    let o = outcome_told _ _ c.requires.plan.opens _ c.of-buffers.ensures _ _ _ _ c.loop-place.at c.interval_at-x.ensures _ _ c.step.ensures c.in-Err.is in
    going_stop _ _ _ _ _ c.loop-place.place c.loop-place.at c.loop-place.sum _ c.loop-place.invariant.1 (omega (arith, c.intervals-total.ensures, intervals_are _ _ c.requires.plan.opens)) _ (add-one c.loop-place.place) _ o

pub put_levels-requires : goal.put_levels-requires
unfolding plain outcome_is
put_levels-requires c =
    let o = outcome_told _ _ c.requires.plan.opens _ c.of-buffers.ensures _ _ _ _ c.loop-place.at c.interval_at-x.ensures _ _ c.step.ensures c.in-Ok.is in
    let g = c.loop-place.invariant.1 in
    (next_count _ _ _ _ _ c.loop-place.place c.loop-place.at c.loop-place.sum _ g (omega (arith, c.intervals-total.ensures, intervals_are _ _ c.requires.plan.opens)) _ o, omega (arith, g.size, room_for_one _ _ _ _ _ c.levels_each-each.ensures c.intervals-total.ensures c.loop-place.place (omega arith) c.requires.room))

pub with_interval-sum-requires : goal.with_interval-sum-requires
unfolding plain
with_interval-sum-requires c =
    let b : c.loop-place.place < 576 = omega (arith, c.intervals-total.ensures, few_intervals _ _ c.requires.plan.opens) in
    let s = c.loop-place.invariant.1.sums in
    let g = s.small in
    let m = c.interval_at-x.ensures.does.limits in
    record { distortion = omega arith; source = omega arith; channel = omega arith; unused = λ k. omega (arith, s.unused_small k) }

pub loop-place-preserved : goal.loop-place-preserved
unfolding plain outcome_is
loop-place-preserved c =
    let o = outcome_told _ _ c.requires.plan.opens _ c.of-buffers.ensures _ _ _ _ c.loop-place.at c.interval_at-x.ensures _ _ c.step.ensures c.in-Ok.is in (
      omega arith,
      rw c.put_levels.ensures
          (going_on _ _ _ _ _ c.loop-place.place c.loop-place.at c.loop-place.sum _ c.loop-place.invariant.1 (omega (arith, c.intervals-total.ensures, intervals_are _ _ c.requires.plan.opens)) _ o _ _ _ (buckets_of_job _ _ c.requires.plan.opens _ c.of-buffers.ensures) c.interval_at-x.ensures c.with_interval-sum.ensures (job_limits _ _ c.requires.plan.opens).drains (room_for_one _ _ _ _ _ c.levels_each-each.ensures c.intervals-total.ensures c.loop-place.place (omega arith) c.requires.room)),
    )

pub returns : goal.returns
unfolding plain ended replayed
returns c =
    going_end _ _ _ _ _ c.loop-place.place c.loop-place.at c.loop-place.sum _ c.loop-place.invariant.1 (omega (arith, c.intervals-total.ensures, intervals_are _ _ c.requires.plan.opens))
