-- `decoder::list_sizes` meets its contract.
use Rattle.decoder.proofs.Offers.{listed_none}
use borrow.Author.Rules.{rules}
use Rattle.decoder.proofs.list_sizes.Goals as goal

pub loop-size-init : goal.loop-size-init
loop-size-init c = (search rules, listed_none _ _ c.requires.0)
