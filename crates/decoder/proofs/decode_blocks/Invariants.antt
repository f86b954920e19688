-- `decoder::decode_blocks` meets its contract.
use Prim.Native.Nat.{◌≤◌}
use mathlib.Core.Path.{◌≡◌}
use lib.ListN.{length, get_or, take}
use Rattle.planning.specs.Passes.{least_below, row_offer}
use Rattle.decoder.specs.Answers.{combine, priced}
use Rattle.block.specs.Blocks.{Made}
use Rattle.decoder.proofs.decode_blocks.Given as goal

abbrev pub invariant-loop-left : goal.invariant-loop-left
invariant-loop-left l = (l.left ≤ l.size) × (length l.block ≡ 256) × (length l.part ≡ length l.initial.part) × Made l.left l.size (λ i. least_below (length l.sizes) (λ j. row_offer (combine l.measure) l.width (take l.size l.initial.part) i (priced l.prices (get_or l.sizes j 0)))) l.initial.part l.part

abbrev pub decreases-loop-left : goal.decreases-loop-left
decreases-loop-left l = l.left
