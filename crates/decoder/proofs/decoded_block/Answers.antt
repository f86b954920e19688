-- `decoder::decoded_block` meets its contract.
use Rattle.decoder.specs.Answers.{priced}
use Rattle.decoder.proofs.Near.{nearest_none, nearest_more}
use Rattle.decoder.proofs.decoded_block.Goals as goal

pub loop-offer-init : goal.loop-offer-init
loop-offer-init c = nearest_none _ _ _ _ c.requires.0 c.requires.2 c.clear_words.ensures

pub loop-offer-preserved : goal.loop-offer-preserved
unfolding priced
loop-offer-preserved c =
    nearest_more _ c.loop-offer.offer-index _ c.loop-offer.block _ c.loop-offer.invariant c.with_size.ensures
