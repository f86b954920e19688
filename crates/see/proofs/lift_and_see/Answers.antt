-- `see::lift_and_see` meets its contract.
use mathlib.Core.Path.{refl}
use Rattle.planning.specs.See.{unit_of}
use Rattle.see.proofs.lift_and_see.Goals as goal

pub see-requires : goal.see-requires
unfolding unit_of
see-requires c = record { made = _; unit = refl; is = c.lift-made.ensures }

pub returns : goal.returns
unfolding unit_of
returns c = c.see.ensures _ refl c.lift-made.ensures
