-- `draft::block_fits` meets its contract: the codings that are left decide, where those before them fit.
use Rattle.std.specs.Prelude.{if◌then◌else◌}
use mathlib.Core.Path.{◌≡◌}
use mathlib.Core.Option.{some}
use lib.ListN.{drop}
use Rattle.format.specs.Limits.{broken}
use Rattle.format.specs.JobBytes.{coding_limits}
use Rattle.format.proofs.Left.{codings_left}
use Rattle.writing.specs.Lists.{codings_from}
use Rattle.draft.proofs.block_fits.Given as goal

abbrev pub invariant-loop-x : goal.invariant-loop-x
invariant-loop-x l = broken (coding_limits (drop l.from (codings_from l.sizes l.distortions))) ≡ (if l.fit then codings_left (codings_from l.sizes l.distortions) l.x else some 5)
