-- `sender::swapped_line` meets its contract.
use mathlib.Core.Path.{refl}
use Rattle.sender.specs.Swaps.{swapped}
use Rattle.sender.proofs.swapped_line.Goals as goal

pub returns : goal.returns
unfolding swapped
returns c = refl
