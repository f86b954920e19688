-- `draft::codings_verdict` meets its contract: the codings that are left to check decide, whichever block the loop is at.
use Rattle.format.specs.Limits.{broken}
use Rattle.format.specs.JobBytes.{coding_limits}
use Rattle.writing.specs.Lists.{codings_from}
use Prim.Native.Nat.{◌-◌, ◌≤◌}
use mathlib.Core.Path.{◌≡◌}
use lib.ListN.{length, drop}
use Rattle.draft.proofs.codings_verdict.Given as goal

abbrev pub invariant-loop-at : goal.invariant-loop-at
invariant-loop-at l = (l.at ≤ length l.sizes) × (broken (coding_limits (codings_from l.sizes l.distortions)) ≡ broken (coding_limits (drop l.at (codings_from l.sizes l.distortions))))

abbrev pub decreases-loop-at : goal.decreases-loop-at
decreases-loop-at l = length l.sizes - l.at
