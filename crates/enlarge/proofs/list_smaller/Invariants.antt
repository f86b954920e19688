-- `enlarge::list_smaller` meets its contract: the totals of the sizes before are written, and the last of them is at hand, whichever turn the loop is at.
use Rattle.enlarge.proofs.Listing.{Going}
use Rattle.pinning.specs.PinSet.{lines}
use Rattle.format.specs.JobBytes.{job_in}
use Prim.Native.Nat.{◌≤◌}
use Rattle.enlarge.proofs.list_smaller.Given as goal

abbrev pub invariant-loop-i : goal.invariant-loop-i
invariant-loop-i l = (l.i ≤ l.count) × Going (job_in l.job) (lines l.header.units l.pins) l.initial.table l.initial.totals l.i l.table l.totals l.before
