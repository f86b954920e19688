-- `report::first_sum` meets its contract: the sum is that of the places before, and small, whichever turn the loop is at.
use Rattle.replaying.specs.Entries.{plan_of}
use Rattle.format.specs.JobBytes.{job_in}
use Rattle.model.specs.Levels.{sent_after}
use mathlib.Core.Path.{◌≡◌}
use Prim.Native.Nat.{◌≤◌}
use Rattle.report.proofs.first_sum.Given as goal

abbrev pub invariant-loop-place : goal.invariant-loop-place
invariant-loop-place l = (l.place ≤ l.delay) × (l.sum ≡ sent_after (job_in l.job) (plan_of (job_in l.job) l.entries) 0 l.place)
