-- `listed::number_of` meets its contract.
use mathlib.Core.Path.{refl}
use Rattle.exporting.specs.Playlists.{told}
use Rattle.listed.proofs.number_of.Goals as goal

pub returns-in-Ok : goal.returns-in-Ok
unfolding told
returns-in-Ok c = rw c.in-Ok.is refl

pub returns-in-Err : goal.returns-in-Err
returns-in-Err c = rw c.in-Err.is c.stopped_number.ensures
