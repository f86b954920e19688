-- `reader::put_fields` meets its contract: nine fields, or twelve.
use mathlib.Core.List.{[], ◌∷◌}
use native.Mathlib.Omega.{arith}
use lib.ListN.{length-set}
use Rattle.base.proofs.Lent.{stored}
use Rattle.format.specs.JobBytes.{bucket_values, nine_values, header_values}
use Rattle.header.specs.Answers.{policed_of, plain}
use Rattle.reader.proofs.Fields.{nine_room, twelve_room}
use Rattle.reader.proofs.put_fields.Goals as goal

pub bounds-fields-0 : goal.bounds-fields-0
bounds-fields-0 c = omega (arith, nine_room c.args.header _ c.requires)

pub bounds-fields-1 : goal.bounds-fields-1
bounds-fields-1 c = simp length-set (omega (arith, nine_room c.args.header _ c.requires))

pub bounds-fields-2 : goal.bounds-fields-2
bounds-fields-2 c = simp length-set (omega (arith, nine_room c.args.header _ c.requires))

pub bounds-fields-3 : goal.bounds-fields-3
bounds-fields-3 c = simp length-set (omega (arith, nine_room c.args.header _ c.requires))

pub bounds-fields-4 : goal.bounds-fields-4
bounds-fields-4 c = simp length-set (omega (arith, nine_room c.args.header _ c.requires))

pub bounds-fields-5 : goal.bounds-fields-5
bounds-fields-5 c = simp length-set (omega (arith, nine_room c.args.header _ c.requires))

pub bounds-fields-6 : goal.bounds-fields-6
bounds-fields-6 c = simp length-set (omega (arith, nine_room c.args.header _ c.requires))

pub bounds-fields-7 : goal.bounds-fields-7
bounds-fields-7 c = simp length-set (omega (arith, nine_room c.args.header _ c.requires))

pub bounds-fields-8 : goal.bounds-fields-8
bounds-fields-8 c = simp length-set (omega (arith, nine_room c.args.header _ c.requires))

pub bounds-fields-9 : goal.bounds-fields-9
bounds-fields-9 c = simp length-set (omega (arith, twelve_room c.args.header _ _ c.in-Some.is c.requires))

pub bounds-fields-10 : goal.bounds-fields-10
bounds-fields-10 c = simp length-set (omega (arith, twelve_room c.args.header _ _ c.in-Some.is c.requires))

pub bounds-fields-11 : goal.bounds-fields-11
bounds-fields-11 c = simp length-set (omega (arith, twelve_room c.args.header _ _ c.in-Some.is c.requires))

pub returns-in-Some : goal.returns-in-Some
unfolding plain policed_of header_values nine_values bucket_values
returns-in-Some c = rw c.in-Some.is (stored (_ ∷ _ ∷ _ ∷ _ ∷ _ ∷ _ ∷ _ ∷ _ ∷ _ ∷ _ ∷ _ ∷ _ ∷ []) _ (twelve_room c.args.header _ _ c.in-Some.is c.requires))

pub returns-in_default : goal.returns-in_default
unfolding plain policed_of header_values nine_values bucket_values
returns-in_default c = rw c.in_default.is (stored (_ ∷ _ ∷ _ ∷ _ ∷ _ ∷ _ ∷ _ ∷ _ ∷ _ ∷ []) _ (nine_room c.args.header _ c.requires))
