-- `pinset::PinSet::with_pin` meets its contract: the pin is set and the totals grow by the coding.
use Rattle.pinset.specs.Answers.{set_of}
use Rattle.pinning.specs.Calls.{with_pin}
use Rattle.header.specs.Answers.{coding_of}
use mathlib.Core.Path.{refl}
use Rattle.pinset.proofs.PinSet.with_pin.Goals as goal

pub returns : goal.returns
unfolding set_of with_pin coding_of
returns c = refl
