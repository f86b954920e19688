-- `decoder::decode_layer` meets its contract.
use native.Mathlib.Omega.{arith}
use Rattle.decoder.proofs.Decoding.{near_copied, layer_decoded}
use Rattle.decoder.proofs.decode_layer.Goals as goal

pub decode_blocks-requires : goal.decode_blocks-requires
decode_blocks-requires c =
    (omega (arith, c.requires.3, c.near_words.auto.part), record { size = c.requires.0; listed = c.list_sizes-count.ensures.offered.listed; narrow = c.requires.2; near = near_copied _ _ _ c.requires.3 c.near_words.ensures })

pub returns : goal.returns
returns c =
    layer_decoded _ c.args.part.now _ c.requires.3 c.near_words.ensures _ _ _ _ _ _ c.sizes_within-limit.ensures c.list_sizes-count.ensures.offered c.decode_blocks.ensures
