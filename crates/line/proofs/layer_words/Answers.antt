-- `line::layer_words` meets its contract.
use mathlib.Core.Path.{◌∙◌}
use Rattle.line.proofs.Sizes.{layer_size}
use Rattle.line.proofs.layer_words.Goals as goal

pub returns : goal.returns
returns c = c.words_each.ensures ∙ layer_size c.args.line
