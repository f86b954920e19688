-- `reader::put_codings` meets its contract: the codings before are written, whichever turn the loop is at.
use Prim.Native.Nat.{◌≤◌, ◌<◌}
use mathlib.Core.Path.{◌≡◌}
use lib.ListN.{length}
use Rattle.format.specs.JobBytes.{job_in}
use Rattle.writing.specs.Lists.{sizes_in, distortions_in}
use Rattle.numbers.proofs.Copies.{Copied}
use Rattle.reader.specs.Answers.{index}
use Rattle.reader.proofs.put_codings.Given as goal

abbrev pub invariant-loop-i : goal.invariant-loop-i
invariant-loop-i l = (l.i ≤ l.count) × (1 ≤ l.place.unit) × (l.place.choice < l.choices) × (index l.choices l.place ≡ l.i) × (length l.sizes ≡ length l.initial.sizes) × (length l.distortions ≡ length l.initial.distortions) × Copied l.initial.sizes 0 (sizes_in (job_in l.job)) l.i l.sizes × Copied l.initial.distortions 0 (distortions_in (job_in l.job)) l.i l.distortions
