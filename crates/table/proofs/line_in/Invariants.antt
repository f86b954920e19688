-- `table::line_in` meets its contract.
use Rattle.table.proofs.Arrays.{Filled}
use Rattle.header.specs.Answers.{plain}
use Rattle.format.specs.Places.{rate_at}
use Prim.Native.Nat.{◌≤◌, ◌-◌}
use Rattle.table.proofs.line_in.Given as goal

abbrev pub invariant-loop-rate : goal.invariant-loop-rate
invariant-loop-rate l = (l.rate ≤ l.count) × (l.count ≤ 16) × Filled 0 (rate_at l.job (plain l.header)) 16 l.rate l.rates
