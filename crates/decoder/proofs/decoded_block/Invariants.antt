-- `decoder::decoded_block` meets its contract.
use Prim.Native.Nat.{◌+◌}
use lib.ListN.{get_or}
use Rattle.planning.specs.Passes.{row_offer}
use Rattle.decoder.specs.Answers.{combine, priced}
use Rattle.decoder.specs.Near.{NearestOf}
use Rattle.decoder.proofs.decoded_block.Given as goal

abbrev pub invariant-loop-offer : goal.invariant-loop-offer
invariant-loop-offer l = NearestOf l.count l.offer-index (λ k j. row_offer (combine l.measure) l.width l.words (l.start + k) (priced l.prices (get_or l.sizes j 0))) l.block
