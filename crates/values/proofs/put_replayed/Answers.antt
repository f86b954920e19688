-- `values::put_replayed` meets its contract: six values, or seven.
use mathlib.Core.List.{[], ◌∷◌}
use native.Mathlib.Omega.{arith}
use lib.ListN.{length-set}
use Rattle.base.proofs.Lent.{stored}
use Rattle.interval.specs.Answers.{totals_of}
use Rattle.values.specs.Lists.{totals_list, totals_values}
use Rattle.values.proofs.Rooms.{four_room_behind, five_room_behind}
use Rattle.values.proofs.put_replayed.Goals as goal

pub bounds-values-2 : goal.bounds-values-2
bounds-values-2 c = simp length-set (omega (arith, four_room_behind _ c.requires))

pub bounds-values-3 : goal.bounds-values-3
bounds-values-3 c = simp length-set (omega (arith, four_room_behind _ c.requires))

pub bounds-values-4 : goal.bounds-values-4
bounds-values-4 c = simp length-set (omega (arith, four_room_behind _ c.requires))

pub bounds-values-5 : goal.bounds-values-5
bounds-values-5 c = simp length-set (omega (arith, four_room_behind _ c.requires))

pub bounds-values-6 : goal.bounds-values-6
bounds-values-6 c = simp length-set (omega (arith, five_room_behind c.args.totals _ c.in-Some.is c.requires))

pub returns-in-Some : goal.returns-in-Some
unfolding totals_values totals_list totals_of
returns-in-Some c = rw c.in-Some.is (stored (_ ∷ _ ∷ _ ∷ _ ∷ _ ∷ _ ∷ _ ∷ []) _ (five_room_behind c.args.totals _ c.in-Some.is c.requires))

pub returns-in_default : goal.returns-in_default
unfolding totals_values totals_list totals_of
returns-in_default c = rw c.in_default.is (stored (_ ∷ _ ∷ _ ∷ _ ∷ _ ∷ _ ∷ []) _ (four_room_behind c.args.totals c.requires))
