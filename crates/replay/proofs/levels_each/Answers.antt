-- `replay::levels_each` meets its contract: with two buckets 3, with one 2.
use mathlib.Core.Path.{refl}
use Rattle.header.specs.Answers.{plain}
use Rattle.replay.proofs.levels_each.Goals as goal

pub returns-in-None : goal.returns-in-None
unfolding plain
returns-in-None c = rw c.in-None.is refl

pub returns-in-Some : goal.returns-in-Some
unfolding plain
returns-in-Some c = rw c.in-Some.is refl
