-- `pinset::PinSet::fresh` meets its contract: the fields are those of the definition.
use Rattle.pinset.specs.Answers.{set_of}
use Rattle.pinning.specs.PinSet.{unpinned, fresh}
use mathlib.Core.Path.{refl}
use Rattle.pinset.proofs.PinSet.fresh.Goals as goal

pub returns : goal.returns
unfolding set_of fresh unpinned
returns c = refl
