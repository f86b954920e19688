-- `reader::put_values` meets its contract.
use mathlib.Core.List.{[], ◌∷◌}
use Rattle.base.proofs.Lent.{stored}
use Rattle.reader.proofs.put_values.Goals as goal

pub returns : goal.returns
returns c = rw c.field_count.ensures (stored (_ ∷ _ ∷ []) _ c.requires)
