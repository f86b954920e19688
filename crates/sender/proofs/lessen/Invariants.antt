-- `sender::lessen` meets its contract.
use Rattle.block.specs.Blocks.{Lessened}
use lib.ListN.{get_or}
use Prim.Native.Nat.{◌≤◌}
use Rattle.sender.proofs.lessen.Given as goal

abbrev pub invariant-loop-i : goal.invariant-loop-i
invariant-loop-i l = (l.i ≤ l.count) × Lessened l.from l.i (λ k. get_or l.words k 0) l.initial.block l.block
