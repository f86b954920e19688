-- `report::put_sums` meets its contract: the sums of the places before are written, and the next one is at hand, whichever turn the loop is at.
use Rattle.replaying.specs.Entries.{plan_of}
use Rattle.format.specs.JobBytes.{job_in}
use Rattle.model.specs.Levels.{effective_buffer}
use Rattle.base.specs.Lists.{build}
use lib.ListN.{length, drop}
use mathlib.Core.List.{◌++◌}
use mathlib.Core.Path.{◌≡◌}
use Prim.Native.Nat.{◌≤◌}
use Rattle.report.proofs.put_sums.Given as goal

abbrev pub invariant-loop-i : goal.invariant-loop-i
invariant-loop-i l = (l.i ≤ l.units) × (l.sum ≡ effective_buffer (job_in l.job) (plan_of (job_in l.job) l.entries) l.i) × (l.sums ≡ build l.i (effective_buffer (job_in l.job) (plan_of (job_in l.job) l.entries)) ++ drop l.i l.initial.sums) × (length l.sums ≡ length l.initial.sums)
