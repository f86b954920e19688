-- `numbers::put_totals` meets its contract.
use mathlib.Core.List.{[], ◌∷◌}
use Rattle.base.proofs.Lent.{stored_at}
use Rattle.pinning.specs.Numbers.{total_numbers}
use Rattle.pinset.specs.Answers.{set_of}
use Rattle.numbers.proofs.put_totals.Goals as goal

pub returns : goal.returns
unfolding set_of total_numbers
returns c = stored_at (_ ∷ _ ∷ _ ∷ []) _ 525 c.requires
