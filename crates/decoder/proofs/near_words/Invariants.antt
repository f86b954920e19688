-- `decoder::near_words` meets its contract.
use Prim.Native.Nat.{◌+◌, ◌≤◌}
use lib.ListN.{get_or}
use Rattle.block.specs.Blocks.{Made}
use Rattle.decoder.specs.Near.{near}
use Rattle.decoder.proofs.near_words.Given as goal

abbrev pub invariant-loop-i : goal.invariant-loop-i
invariant-loop-i l = (l.i ≤ l.size) × Made 0 l.i (λ k. near (get_or l.initial.part (l.size + k) 0)) l.initial.part l.part
