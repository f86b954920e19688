-- `values::put_opened` meets its contract.
use Rattle.base.proofs.Lent.{stored}
use Rattle.values.specs.Lists.{opened_values}
use Rattle.header.specs.Answers.{plain}
use mathlib.Core.List.{[], ◌∷◌}
use Rattle.values.proofs.put_opened.Goals as goal

pub returns : goal.returns
unfolding opened_values plain
returns c = rw (c.intervals.ensures, c.table_words.ensures) (stored (_ ∷ _ ∷ _ ∷ _ ∷ []) _ c.requires)
