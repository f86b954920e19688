-- `decoder::lessen_combined` meets its contract.
use Prim.Native.Nat.{◌≤◌}
use lib.ListN.{get_or}
use Rattle.decoder.specs.Answers.{combine}
use Rattle.block.specs.Blocks.{Lessened}
use Rattle.decoder.proofs.lessen_combined.Given as goal

abbrev pub invariant-loop-i : goal.invariant-loop-i
invariant-loop-i l = (l.i ≤ l.count) × Lessened l.from l.i (λ k. combine l.measure l.distortion (get_or l.words k 0)) l.initial.block l.block
