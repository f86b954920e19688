-- `enlarge::least_total` meets its contract.
use Rattle.enlarge.proofs.Listing.{asked, found}
use Rattle.decoder.specs.Answers.{combine}
use Rattle.pinning.specs.PinSet.{lines}
use Rattle.header.specs.Answers.{plain}
use Rattle.enlarge.proofs.least_total.Goals as goal

pub returns : goal.returns
unfolding plain combine
returns c =
    found _ _ _ _ _ _ c.requires (lines c.args.header.units c.args.pins.now) _ c.fill_table.ensures c.word_at.result c.word_at.ensures

pub word_at-requires : goal.word_at-requires
unfolding plain combine
word_at-requires c =
    asked _ _ _ _ _ _ c.requires (lines c.args.header.units c.args.pins.now) _ c.fill_table.ensures
