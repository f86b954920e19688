-- `listed::stopped_number` meets its contract.
use mathlib.Core.Path.{refl}
use Rattle.exporting.specs.Playlists.{told}
use Rattle.listed.proofs.stopped_number.Goals as goal

pub returns-in-List : goal.returns-in-List
unfolding told
returns-in-List c = rw c.in-List.is c.from.ensures

pub returns-in-Programme : goal.returns-in-Programme
unfolding told
returns-in-Programme c = rw (c.in-Programme.is, ← c.from-in-Programme.ensures) refl
