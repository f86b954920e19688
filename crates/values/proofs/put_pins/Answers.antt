-- `values::put_pins` meets its contract.
use Rattle.base.proofs.Lent.{stored}
use mathlib.Core.List.{[], ◌∷◌}
use Rattle.values.proofs.put_pins.Goals as goal

pub returns : goal.returns
returns c = stored (_ ∷ _ ∷ _ ∷ []) _ c.requires
