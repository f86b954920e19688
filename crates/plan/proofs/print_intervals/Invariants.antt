-- Every part that an interval takes is there.
use Rattle.std.proofs.Common.{◌≤◌}
use Rattle.plan.proofs.print_intervals.Given as goal

abbrev pub invariant-loop-place : goal.invariant-loop-place
invariant-loop-place l = record { few : l.each ≤ 3; most : l.total ≤ 576 }
