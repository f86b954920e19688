-- `pins::refused` meets its contract: the set is handed back as it came.
use Rattle.pins.specs.Answers.{handed}
use Rattle.pinning.specs.Calls.{refuse}
use mathlib.Core.Path.{refl}
use Rattle.pins.proofs.refused.Goals as goal

pub returns : goal.returns
unfolding handed refuse
returns c = refl
