-- `decoder::list_size` meets its contract.
use Rattle.decoder.proofs.Offers.{listed_skip, listed_more}
use Rattle.decoder.proofs.list_size.Goals as goal

pub returns-then-prices-size-gt-LARGEST : goal.returns-then-prices-size-gt-LARGEST
returns-then-prices-size-gt-LARGEST c =
    listed_skip _ _ _ _ c.if-prices-size-gt-LARGEST.true c.requires.2

pub returns : goal.returns
returns c =
    listed_more _ _ _ _ c.requires.1 c.if-prices-size-gt-LARGEST.false c.requires.2
