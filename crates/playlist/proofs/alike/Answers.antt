-- `playlist::alike` meets its contract: as many levels as buckets, one or two.
use mathlib.Core.Path.{sym}
use Rattle.playlist.proofs.Parts.{same_count}
use Rattle.header.specs.Answers.{plain}
use Rattle.planner.specs.Answers.{levels_of_buckets}
use Rattle.playlist.proofs.alike.Goals as goal

pub returns-in-Some : goal.returns-in-Some
unfolding plain levels_of_buckets
returns-in-Some c =
    let k = c.in-Some.levels in
    rw (c.in-Some.is, c.is_some.ensures, c.is_some-in-Some.ensures) (sym (same_count k.bucket k.bucket2 c.args.header.first c.args.header.second))
