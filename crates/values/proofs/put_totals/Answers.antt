-- `values::put_totals` meets its contract: four values, or five.
use mathlib.Core.List.{[], ◌∷◌}
use native.Mathlib.Omega.{arith}
use lib.ListN.{length-set}
use Rattle.base.proofs.Lent.{stored}
use Rattle.interval.specs.Answers.{totals_of}
use Rattle.values.specs.Lists.{totals_list, totals_values}
use Rattle.values.proofs.Rooms.{four_room, five_room}
use Rattle.values.proofs.put_totals.Goals as goal

pub bounds-values-0 : goal.bounds-values-0
bounds-values-0 c = omega (arith, four_room _ c.requires)

pub bounds-values-1 : goal.bounds-values-1
bounds-values-1 c = simp length-set (omega (arith, four_room _ c.requires))

pub bounds-values-2 : goal.bounds-values-2
bounds-values-2 c = simp length-set (omega (arith, four_room _ c.requires))

pub bounds-values-3 : goal.bounds-values-3
bounds-values-3 c = simp length-set (omega (arith, four_room _ c.requires))

pub bounds-values-4 : goal.bounds-values-4
bounds-values-4 c = simp length-set (omega (arith, five_room c.args.totals _ c.in-Some.is c.requires))

pub returns-in-Some : goal.returns-in-Some
unfolding totals_values totals_list totals_of
returns-in-Some c = rw c.in-Some.is (stored (_ ∷ _ ∷ _ ∷ _ ∷ _ ∷ []) _ (five_room c.args.totals _ c.in-Some.is c.requires))

pub returns-in_default : goal.returns-in_default
unfolding totals_values totals_list totals_of
returns-in_default c = rw c.in_default.is (stored (_ ∷ _ ∷ _ ∷ _ ∷ []) _ (four_room c.args.totals c.requires))
