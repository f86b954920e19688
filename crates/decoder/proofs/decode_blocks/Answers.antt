-- `decoder::decode_blocks` meets its contract.
use mathlib.Core.Path.{◌∙◌}
use native.Mathlib.Omega.{arith}
use Rattle.decoder.proofs.Decoding.{block_decoded}
use Rattle.decoder.proofs.decode_blocks.Goals as goal

pub loop-left-preserved : goal.loop-left-preserved
loop-left-preserved c =
    (omega arith, c.decoded_block.ensures.size, c.put_words.auto.part ∙ c.loop-left.invariant.2, block_decoded _ _ _ _ _ c.args.part.now _ c.min-count.result c.loop-left.left c.loop-left.part c.put_words.new.part c.decoded_block.new.block (omega (arith, c.min-count.ensures)) c.loop-left.invariant.0 c.requires.0 c.loop-left.invariant.3 c.decoded_block.ensures c.put_words.ensures)
