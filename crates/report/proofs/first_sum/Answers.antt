-- `report::first_sum` meets its contract: the sum is that of the places before, and small, whichever turn the loop is at.
use Rattle.report.proofs.Sums.{sent_most, window_most, window_more}
use Rattle.format.proofs.Opened.{job_limits, delay_is, few_intervals}
use Rattle.replaying.specs.Entries.{plan_of}
use Rattle.header.specs.Answers.{plain}
use Rattle.format.specs.JobBytes.{job_in}
use Rattle.model.specs.Levels.{sent_after, effective_buffer}
use Rattle.base.specs.Lists.{gathered}
use mathlib.Core.Path.{◌≡◌, sym, ap, ◌∙◌}
use Prim.Native.Nat.{◌+◌}
use native.Mathlib.Omega.{arith}
use borrow.Author.Rules.{rules}
use Rattle.report.proofs.first_sum.Goals as goal

pub loop-place-init : goal.loop-place-init
unfolding gathered sent_after
loop-place-init c = search rules

pub overflow_add-sum : goal.overflow_add-sum
unfolding plain
overflow_add-sum c =
    let k = job_limits _ _ c.requires.opens in
    let p = plan_of (job_in c.args.job.now) c.args.entries.now in
    omega (arith, few_intervals _ _ c.requires.opens, window_most _ k p 0 c.loop-place.place, sent_most _ k p (c.loop-place.place + 1), c.sent_at-sum.ensures, c.loop-place.invariant.1)

pub loop-place-preserved : goal.loop-place-preserved
loop-place-preserved c = (omega arith, rw (c.loop-place.invariant.1, c.sent_at-sum.ensures) (window_more _ _ _))

pub returns : goal.returns
unfolding plain effective_buffer
returns c =
    let k : c.loop-place.place ≡ c.args.header.delay = omega arith in
    c.loop-place.invariant.1 ∙ ap (sent_after _ _ 0) (k ∙ sym (delay_is _ _ c.requires.opens))
