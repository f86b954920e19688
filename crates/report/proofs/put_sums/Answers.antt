-- `report::put_sums` meets its contract: the sums of the places before are written, and the next one is at hand, whichever turn the loop is at.
use Rattle.report.proofs.Sums.{sum_small, leaves_less, next_sum, sums_end}
use Rattle.format.proofs.Opened.{job_limits, units_are, delay_is}
use Rattle.base.proofs.Builds.{build_more}
use Rattle.header.specs.Answers.{plain}
use Rattle.base.specs.Lists.{build}
use lib.ListN.{length-set}
use mathlib.Core.Path.{◌≡◌, refl, ◌∙◌}
use Prim.Native.Nat.{◌+◌}
use native.Mathlib.Omega.{arith}
use borrow.Author.Rules.{rules}
use Rattle.report.proofs.put_sums.Goals as goal

pub loop-i-init : goal.loop-i-init
unfolding build
loop-i-init c = (search rules, c.first_sum-sum.ensures, refl, refl)

pub bounds-sums-i : goal.bounds-sums-i
unfolding plain
bounds-sums-i c =
    omega (arith, c.requires.room, c.loop-i.invariant.3)

pub overflow_add-sum : goal.overflow_add-sum
unfolding plain
overflow_add-sum c =
    let o = c.requires.plan.opens in
    omega (arith, sum_small _ _ c.loop-i.i _ _ _ c.loop-i.invariant.1 c.sent_at-arrives.ensures (job_limits _ _ o))

pub overflow_sub-sum : goal.overflow_sub-sum
unfolding plain
overflow_sub-sum c =
    omega (arith, leaves_less _ _ c.loop-i.i _ _ _ _ (delay_is _ _ c.requires.plan.opens) c.loop-i.invariant.1 c.sent_at-arrives.ensures c.sent_at-leaves.ensures)

pub loop-i-preserved : goal.loop-i-preserved
unfolding plain
loop-i-preserved c = (
  omega arith,
  next_sum _ _ c.loop-i.i _ _ _ _ (delay_is _ _ c.requires.plan.opens) c.loop-i.invariant.1 c.sent_at-arrives.ensures c.sent_at-leaves.ensures,
  rw c.loop-i.invariant.2 (build_more _ c.args.sums.now c.loop-i.i _ (omega (arith, c.requires.room)) c.loop-i.invariant.1),
  simp length-set c.loop-i.invariant.3,
)

pub bounds-sums-units : goal.bounds-sums-units
unfolding plain
bounds-sums-units c =
    omega (arith, c.requires.room, c.loop-i.invariant.3)

pub returns : goal.returns
unfolding plain
returns c =
    let k : c.args.header.units ≡ c.loop-i.i = omega arith in
    rw (k, c.loop-i.invariant.2) (build_more _ c.args.sums.now c.loop-i.i _ (omega (arith, c.requires.room)) c.loop-i.invariant.1 ∙ sums_end _ _ _ (c.loop-i.i + 1) (omega (arith, units_are _ _ c.requires.plan.opens)))
