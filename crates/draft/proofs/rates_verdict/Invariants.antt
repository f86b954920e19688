-- `draft::rates_verdict` meets its contract: the rates that are left to check decide, whichever turn the loop is at.
use Rattle.format.specs.Limits.{broken}
use Rattle.format.specs.JobBytes.{rate_limits}
use Rattle.format.proofs.Left.{rates_left}
use Prim.Native.Nat.{◌≤◌}
use mathlib.Core.Path.{◌≡◌}
use lib.ListN.{length}
use Rattle.draft.proofs.rates_verdict.Given as goal

abbrev pub invariant-loop-rate : goal.invariant-loop-rate
invariant-loop-rate l = (l.rate-index ≤ length l.rates) × (l.low ≤ 4096) × (broken (rate_limits 0 l.rates) ≡ rates_left l.rates l.low l.rate-index)
