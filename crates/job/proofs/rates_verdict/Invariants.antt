-- `job::rates_verdict` meets its contract: the rates that are left to check decide, whichever turn the loop is at.
use Prim.Native.Nat.{◌-◌, ◌≤◌}
use mathlib.Core.Path.{◌≡◌}
use lib.ListN.{replicate}
use Rattle.format.specs.Fields.{fields}
use Rattle.format.specs.Limits.{broken}
use Rattle.format.specs.JobBytes.{rate_limits}
use Rattle.format.proofs.Left.{rates_left}
use Rattle.job.proofs.rates_verdict.Given as goal

abbrev pub invariant-loop-i : goal.invariant-loop-i
invariant-loop-i l = (l.i ≤ l.rates) × (l.low ≤ 4096) × (broken (rate_limits 0 (fields (replicate l.rates 2) l.body)) ≡ rates_left (fields (replicate l.rates 2) l.body) l.low l.i)
