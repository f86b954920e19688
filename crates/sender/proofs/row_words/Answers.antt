-- `sender::row_words` meets its contract.
use Rattle.sender.proofs.Sizes.{row_size}
use Rattle.sender.proofs.row_words.Goals as goal

pub returns : goal.returns
returns c = row_size c.args.line
