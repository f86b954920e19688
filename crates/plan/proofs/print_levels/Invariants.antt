-- Every level that is printed is there.
use Rattle.std.proofs.Common.{◌≤◌, length}
use Rattle.plan.proofs.print_levels.Given as goal

abbrev pub invariant-loop-place : goal.invariant-loop-place
invariant-loop-place l = l.end ≤ length l.levels
