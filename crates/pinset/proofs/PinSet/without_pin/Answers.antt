-- `pinset::PinSet::without_pin` meets its contract: the pin is taken out and the totals shrink by the coding.
use Rattle.pinset.specs.Answers.{set_of}
use Rattle.pinning.specs.Calls.{without_pin}
use Rattle.header.specs.Answers.{coding_of}
use mathlib.Core.Path.{refl}
use Rattle.pinset.proofs.PinSet.without_pin.Goals as goal

pub returns : goal.returns
unfolding set_of without_pin coding_of
returns c = refl
