-- `layer::fill_layer` meets its contract.
use native.Mathlib.Omega.{arith}
use Rattle.decoder.specs.Answers.{combine, priced}
use Rattle.sender.specs.Answers.{line_is}
use Rattle.sender.proofs.Sizes.{row_small}
use Rattle.layer.proofs.Passes.{passes_make}
use Rattle.model.specs.Table.{sizes}
use Rattle.model.proofs.Places.{span_positive}
use Rattle.layer.proofs.fill_layer.Goals as goal

pub decode_layer-requires : goal.decode_layer-requires
decode_layer-requires c =
    (c.requires.1, rw c.row_words.ensures (span_positive (sizes (line_is c.args.line))), rw c.row_words.ensures (row_small c.args.line c.requires.0), rw c.layer_words.ensures c.requires.2)

pub returns : goal.returns
returns c =
    passes_make (combine c.args.measure) (line_is c.args.line) 256 (priced c.args.prices.now) c.args.part.now c.decode_layer.new.part c.send_layer.new.part c.row_words.result c.layer_words.result c.row_words.ensures c.layer_words.ensures (omega (arith, c.requires.2)) c.decode_layer.ensures c.send_layer.ensures
