-- `front::follow` meets its contract: each interval goes on or ends it.
use Rattle.front.proofs.Following.{Going}
use Rattle.pinning.specs.PinSet.{lines}
use Rattle.format.specs.JobBytes.{job_in}
use Prim.Native.Nat.{◌≤◌}
use Rattle.front.proofs.follow.Given as goal

abbrev pub invariant-loop-place : goal.invariant-loop-place
invariant-loop-place l = (l.place ≤ l.count) × Going (job_in l.job) (lines l.header.units l.pins) l.count l.entries l.place l.at l.sum
