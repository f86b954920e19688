-- `viewer::put_word` meets its contract.
use Rattle.base.proofs.Lent.{stored}
use mathlib.Core.List.{[], ◌∷◌}
use Rattle.viewer.proofs.put_word.Goals as goal

pub returns : goal.returns
returns c = stored (_ ∷ []) _ c.requires
