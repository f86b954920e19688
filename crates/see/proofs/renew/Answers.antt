-- `see::renew` meets its contract.
use mathlib.Core.Path.{refl}
use Rattle.header.specs.Answers.{plain}
use Rattle.pinset.specs.Answers.{set_of}
use Rattle.decoder.specs.Answers.{combine}
use Rattle.see.proofs.Renewing.{fills, word_asked, is_renewed}
use Rattle.see.proofs.renew.Goals as goal

pub fill_layers-requires : goal.fill_layers-requires
unfolding plain set_of
fill_layers-requires c =
    fills _ _ _ _ _ c.requires _ c.line_in-line.ensures _ refl _ c.requires.ready.size

pub word_at-requires : goal.word_at-requires
unfolding plain set_of combine
word_at-requires c =
    word_asked _ _ _ _ _ c.requires _ c.line_in-line.ensures _ refl _ c.fill_layers.ensures _ c.start-start.ensures

pub returns : goal.returns
unfolding plain set_of combine
returns c =
    is_renewed _ _ _ _ _ c.requires _ c.line_in-line.ensures _ refl _ c.fill_layers.ensures _ c.start-start.ensures _ c.word_at.ensures
