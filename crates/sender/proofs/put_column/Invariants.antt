-- `sender::put_column` meets its contract.
use Prim.Native.Nat.{◌+◌, ◌-◌, ◌*◌, ◌≤◌}
use lib.ListN.{get_or}
use Rattle.block.specs.Blocks.{Made}
use Rattle.sender.proofs.put_column.Given as goal

abbrev pub invariant-loop-i : goal.invariant-loop-i
invariant-loop-i l = (l.i ≤ l.count) × Made l.start (l.start + l.i) (λ k. get_or l.kept (l.first + (k - l.start) * l.step) 0) l.initial.part l.part
