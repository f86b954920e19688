-- `best::read_off` meets its contract.
use Rattle.best.proofs.Plans.{read_start, read_on, read_end}
use Rattle.best.proofs.Plans.{line_buckets, drains_most}
use Rattle.line.specs.Answers.{line_is}
use Rattle.format.specs.JobBytes.{job_in}
use Rattle.format.proofs.Opened.{few_intervals, intervals_are}
use Rattle.model.proofs.Lines.{intervals_on}
use Rattle.header.specs.Answers.{plain}
use Rattle.interval.specs.Answers.{line_of, no_totals}
use mathlib.Core.Path.{refl, ◌∙◌, ap}
use Rattle.model.specs.Job.{on_line}
use Prim.Native.Nat.{◌-◌, ◌<◌}
use native.Mathlib.Omega.{arith}
use Rattle.best.proofs.read_off.Goals as goal

pub loop-place-init : goal.loop-place-init
unfolding plain
loop-place-init c =
    (omega arith, omega (arith, c.intervals-total.ensures, c.requires.few), read_start _ _ _ _ _ _ _ _ refl (c.none-sum.ensures ∙ ap no_totals (line_buckets c.args.job.now c.args.line)) c.requires.stands)

pub best_move-taken-requires : goal.best_move-taken-requires
unfolding plain
best_move-taken-requires c =
    record {
      starts = c.requires.starts;
      before = omega (arith, c.intervals-total.ensures, c.loop-place-test.true);
      table_is = record { enough = c.requires.table_is.enough; layers = λ t h k. c.requires.table_is.layers t (omega (arith, c.loop-place.invariant.0)) k };
      stands = c.loop-place.invariant.2.stands;
    }

pub put_entry-requires : goal.put_entry-requires
unfolding plain
put_entry-requires c =
    omega (arith, c.intervals-total.ensures, c.requires.room, c.loop-place.invariant.0, c.loop-place.invariant.2.size)

pub with_interval-sum-requires : goal.with_interval-sum-requires
unfolding plain
with_interval-sum-requires c =
    let b : c.loop-place.place < 576 = omega (arith, c.intervals-total.ensures, few_intervals _ _ c.requires.starts.opens) in
    let g = c.loop-place.invariant.2.sums.small in
    let m = c.best_move-taken.ensures.does.limits in
    record { distortion = omega arith; source = omega arith; channel = omega arith; unused = λ k. omega (arith, c.loop-place.invariant.2.sums.unused_small k) }

pub loop-place-preserved : goal.loop-place-preserved
unfolding plain on_line line_is line_of
loop-place-preserved c =
    (omega (arith, c.loop-place.invariant.0), omega arith, rw c.put_entry.ensures (read_on _ _ _ _ _ _ c.loop-place.place c.loop-place.at c.loop-place.sum _ _ _ c.loop-place.invariant.2 c.best_move-taken.ensures c.with_interval-sum.ensures (drains_most c.args.line.buffers c.requires.starts.line.buffers) (omega (arith, c.intervals-total.ensures, c.requires.room, c.loop-place.invariant.0))))

pub returns : goal.returns
unfolding plain
returns c =
    read_end _ _ _ _ _ _ c.loop-place.place c.loop-place.at c.loop-place.sum _ c.loop-place.invariant.2 (omega (arith, c.intervals-total.ensures, intervals_are _ _ c.requires.starts.opens, intervals_on (job_in c.args.job.now) (line_is c.args.line)))
