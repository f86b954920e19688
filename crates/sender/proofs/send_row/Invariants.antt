-- `sender::send_row` meets its contract.
use Rattle.sender.specs.Rates.{BlocksMade, rate_read}
use Rattle.planning.specs.Passes.{least_below}
use mathlib.Core.Path.{◌≡◌}
use lib.ListN.{length, get_or, drop}
use Prim.Native.Nat.{◌+◌}
use Rattle.sender.proofs.send_row.Given as goal

abbrev pub invariant-loop-level : goal.invariant-loop-level
invariant-loop-level l = (length l.block ≡ 256) × (length l.part ≡ length l.initial.part) × BlocksMade l.start l.level (l.line.outer.size + 1) (l.line.inner.size + 1) (λ k j. least_below l.line.count (λ y. rate_read l.line.outer l.line.inner l.rows (drop l.start l.initial.part) k j (get_or l.line.rates y 0))) l.initial.part l.part
