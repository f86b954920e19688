-- `enlarge::list_totals` meets its contract.
use Rattle.enlarge.proofs.Listing.{own_most, places, limits, lists_on, last_is, again_limits, totals_long, all_listed}
use Rattle.pinning.specs.PinSet.{lines}
use mathlib.Core.Path.{refl}
use native.Mathlib.Omega.{arith}
use Rattle.enlarge.proofs.list_totals.Goals as goal

pub least_total-last-requires : goal.least_total-last-requires
least_total-last-requires c =
    limits _ _ _ _ _ _ _ c.requires (lines c.args.header.units c.args.pins.now) _ _ c.line_with-widest.ensures (omega (arith, own_most _ _ _ _ _ _ _ c.requires)) (omega arith) _ refl

pub list_smaller-requires : goal.list_smaller-requires
list_smaller-requires c = (
  lists_on _ _ _ _ _ _ _ c.requires (lines c.args.header.units c.args.pins.now) _ c.line_with-widest.ensures _ _ c.least_total-last.ensures,
  last_is _ _ _ _ _ _ _ c.requires (lines c.args.header.units c.args.pins.now) _ c.line_with-widest.ensures _ _ c.least_total-last.ensures,
)

pub least_total-requires : goal.least_total-requires
least_total-requires c =
    again_limits _ _ _ _ _ _ _ c.requires (lines c.args.header.units c.args.pins.now) _ c.line_with-widest.ensures _ _ c.least_total-last.ensures _ _ c.list_smaller.ensures

pub bounds-totals-place : goal.bounds-totals-place
bounds-totals-place c =
    omega (arith, own_most _ _ _ _ _ _ _ c.requires, places _ _ _ _ _ _ _ c.requires, totals_long _ _ _ _ _ _ _ c.requires (lines c.args.header.units c.args.pins.now) _ c.line_with-widest.ensures _ _ c.least_total-last.ensures _ _ c.list_smaller.ensures)

pub returns : goal.returns
returns c =
    all_listed _ _ _ _ _ _ _ c.requires (lines c.args.header.units c.args.pins.now) _ c.line_with-widest.ensures _ _ c.least_total-last.ensures _ _ c.list_smaller.ensures _ _ c.least_total.ensures
