-- `reader::put_rates` meets its contract: the rates before are written, whichever turn the loop is at.
use Prim.Native.Nat.{◌≤◌}
use mathlib.Core.Path.{◌≡◌}
use lib.ListN.{length}
use Rattle.format.specs.JobBytes.{job_in}
use Rattle.numbers.proofs.Copies.{Copied}
use Rattle.reader.proofs.put_rates.Given as goal

abbrev pub invariant-loop-rate : goal.invariant-loop-rate
invariant-loop-rate l = Copied l.initial.rates 0 (job_in l.job).line.rates l.rate l.rates × (l.rate ≤ l.count) × (length l.rates ≡ length l.initial.rates)
