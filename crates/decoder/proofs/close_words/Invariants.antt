-- `decoder::close_words` meets its contract.
use lib.ListN.{get_or}
use Rattle.block.specs.Blocks.{Made}
use Rattle.decoder.specs.Near.{closed}
use Rattle.decoder.proofs.close_words.Given as goal

abbrev pub invariant-loop-number : goal.invariant-loop-number
invariant-loop-number l = Made 0 l.number-index (λ k. closed (get_or l.initial.number-items k 0)) l.initial.number-items l.number-items
