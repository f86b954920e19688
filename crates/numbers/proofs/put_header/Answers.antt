-- `numbers::put_header` meets its contract: thirteen stores, one behind another.
use mathlib.Core.List.{[], ◌∷◌}
use Rattle.base.proofs.Lent.{stored}
use Rattle.header.specs.Answers.{policed_of}
use Rattle.numbers.proofs.Laying.{header_laid}
use Rattle.numbers.proofs.put_header.Goals as goal

pub returns : goal.returns
unfolding policed_of
returns c =
    rw (← header_laid c.args.header _ _ c.kind_of.ensures c.second_of-second.ensures) (stored (_ ∷ _ ∷ _ ∷ _ ∷ _ ∷ _ ∷ _ ∷ _ ∷ _ ∷ _ ∷ _ ∷ _ ∷ _ ∷ []) _ c.requires)
