-- `table::fill_layer` meets its contract.
use Rattle.table.proofs.Lines.{same_words, layer_made}
use Rattle.table.proofs.fill_layer.Goals as goal

pub fill_layer-requires : goal.fill_layer-requires
fill_layer-requires c = (c.layer_line.ensures.fits, c.prices_of-prices.ensures.size, rw (same_words c.args.line c.layer_line.result c.layer_line.ensures) c.requires.2)

pub returns : goal.returns
returns c = layer_made c.args.line c.layer_line.result c.layer_line.ensures c.args.measure c.requires.0 _ _ c.args.choices c.requires.1 c.args.part.now c.fill_layer.new.part c.prices_of-prices.result c.prices_of-prices.ensures c.fill_layer.ensures
