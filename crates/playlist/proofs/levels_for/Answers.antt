-- `playlist::levels_for` meets its contract.
use mathlib.Core.Path.{refl}
use Rattle.playlist.specs.Answers.{starts_at}
use Rattle.playlist.proofs.levels_for.Goals as goal

pub returns-in-Some : goal.returns-in-Some
unfolding starts_at
returns-in-Some c = rw c.in-Some.is refl

pub returns-in-None : goal.returns-in-None
unfolding starts_at
returns-in-None c = rw c.in-None.is c.start.ensures
