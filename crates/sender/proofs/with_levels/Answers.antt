-- `sender::with_levels` meets its contract.
use Rattle.sender.proofs.Rates.{levels_made}
use Rattle.sender.proofs.with_levels.Goals as goal

pub returns : goal.returns
returns c =
    levels_made c.args.drain c.args.words.now c.args.sent c.requires.1 _ _ _ _ _ _ _ _ c.saturating_sub-low.ensures c.saturating_sub-high.ensures c.min.ensures c.min-from.ensures c.saturating_sub.ensures c.lessen_first.ensures c.lessen.ensures
