-- `pinset::fits` meets its contract: the header, the pin bytes and the totals, in this order.
use Rattle.pinning.proofs.Agree.{fits_not_header, fits_not_bytes, fits_by_totals}
use Rattle.pinset.specs.Answers.{set_of}
use Rattle.pinning.specs.Check.{same_totals}
use Rattle.header.specs.Answers.{plain}
use mathlib.Core.Path.{sym, ◌∙◌, ap}
use Rattle.pinset.proofs.fits.Goals as goal

pub returns-then-not-same : goal.returns-then-not-same
unfolding set_of
returns-then-not-same c = fits_not_header _ _ _ (sym c.same.ensures ∙ c.if-not-same.true)

pub returns-then-not-pins_fit : goal.returns-then-not-pins_fit
unfolding set_of
returns-then-not-pins_fit c =
    fits_not_bytes _ _ _ (sym c.same.ensures ∙ c.if-not-same.false) (sym c.pins_fit.ensures ∙ c.if-not-pins_fit.true)

pub returns : goal.returns
unfolding set_of plain
returns c =
    c.same_totals.ensures
    ∙ ap (same_totals _) c.sum_lines.ensures
    ∙ fits_by_totals _ _ _ (sym c.same.ensures ∙ c.if-not-same.false) (sym c.pins_fit.ensures ∙ c.if-not-pins_fit.false)
