-- `replay::play` meets its contract: what is done and what is left come to the whole replay, and each interval goes on or ends it.
use Rattle.replay.proofs.Replaying.{Going}
use Rattle.pinning.specs.PinSet.{lines}
use Rattle.format.specs.JobBytes.{job_in}
use Prim.Native.Nat.{◌≤◌}
use Rattle.replay.proofs.play.Given as goal

abbrev pub invariant-loop-place : goal.invariant-loop-place
invariant-loop-place l = (l.place ≤ l.total) × Going (job_in l.job) (lines l.header.units l.pins) l.entries l.initial.levels l.each l.place l.at l.sum l.levels
