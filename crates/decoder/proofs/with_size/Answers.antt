-- `decoder::with_size` meets its contract.
use Rattle.decoder.proofs.Choices.{size_made}
use Rattle.decoder.proofs.with_size.Goals as goal

pub returns : goal.returns
returns c =
    size_made c.args.measure _ c.args.width c.args.start c.args.words.now c.args.size c.args.distortion c.requires.2 c.requires.5 c.requires.1 _ _ _ _ _ c.saturating_sub-skip.ensures c.saturating_sub-from.ensures c.saturating_sub.ensures c.lessen_combined.ensures
