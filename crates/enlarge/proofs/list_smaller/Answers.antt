-- `enlarge::list_smaller` meets its contract: the totals of the sizes before are written, and the last of them is at hand, whichever turn the loop is at.
use Rattle.enlarge.proofs.Listing.{places, going_none, going_limits, going_between, going_more, going_all}
use native.Mathlib.Omega.{arith}
use Rattle.enlarge.proofs.list_smaller.Goals as goal

pub loop-i-init : goal.loop-i-init
loop-i-init c = (omega arith, going_none _ _ _ _ _ _ _ c.requires.0 _)

pub total_between-before-requires : goal.total_between-before-requires
total_between-before-requires c = (
  going_limits _ _ _ _ _ _ _ c.requires.0 _ _ _ _ _ c.loop-i.invariant.1 c.loop-i-test.true _ c.line_with-here.ensures,
  going_between _ _ _ _ _ _ _ c.requires.0 _ _ _ _ _ c.loop-i.invariant.1 c.loop-i-test.true _ c.line_with-here.ensures _ c.requires.1,
)

pub bounds-totals-place : goal.bounds-totals-place
bounds-totals-place c =
    omega (arith, places _ _ _ _ _ _ _ c.requires.0, c.loop-i.invariant.1.long)

pub loop-i-preserved : goal.loop-i-preserved
loop-i-preserved c = (
  omega arith,
  going_more _ _ _ _ _ _ _ c.requires.0 _ _ _ _ _ c.loop-i.invariant.1 c.loop-i-test.true _ c.line_with-here.ensures _ _ c.total_between-before.ensures,
)

pub returns : goal.returns
returns c =
    going_all _ _ _ _ _ _ _ c.requires.0 _ c.loop-i.i _ _ _ c.loop-i.invariant.1 (omega arith)
