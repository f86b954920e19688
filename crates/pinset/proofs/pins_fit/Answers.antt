-- `pinset::pins_fit` meets its contract: the bytes before the place fit, whichever turn the loop is at.
use mathlib.Core.Path.{sym, ◌∙◌}
use Rattle.base.proofs.All.{all_none, all_more, all_stop}
use borrow.Author.Rules.{rules}
use Rattle.pinning.specs.Check.{pins_fit}
use Rattle.pinset.proofs.pins_fit.Goals as goal

pub loop-place-init : goal.loop-place-init
unfolding pins_fit
loop-place-init c = (search rules, all_none _)

pub returns-then-not-pin_fits : goal.returns-then-not-pin_fits
unfolding pins_fit
returns-then-not-pin_fits c = all_stop _ c.loop-place.place 512 (search rules) (sym c.pin_fits.ensures ∙ c.if-not-pin_fits.true)

pub loop-place-preserved : goal.loop-place-preserved
unfolding pins_fit
loop-place-preserved c = (search rules, all_more _ _ c.loop-place.invariant.1 (sym c.pin_fits.ensures ∙ c.if-not-pin_fits.false))
