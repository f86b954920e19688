-- `draft::rates_verdict` meets its contract: the rates that are left to check decide, whichever turn the loop is at.
use Rattle.format.proofs.Limits.{of_kept}
use Rattle.format.proofs.Left.{rates_start, rates_end, rates_step, rates_here}
use mathlib.Core.Path.{refl, sym, ◌∙◌}
use native.Mathlib.Omega.{arith}
use borrow.Author.Rules.{rules}
use Rattle.draft.proofs.rates_verdict.Goals as goal

pub loop-rate-init : goal.loop-rate-init
loop-rate-init c = (search rules, search rules, rates_start _)

pub returns-then-not-rate_fits : goal.returns-then-not-rate_fits
returns-then-not-rate_fits c = let k = sym c.rate_fits.ensures ∙ c.if-not-rate_fits.true in
    sym (c.loop-rate.invariant.2 ∙ rates_here _ _ c.loop-rate.rate-index (omega arith) _ refl k)

pub overflow_add-low : goal.overflow_add-low
overflow_add-low c = omega (arith, of_kept _ (sym c.rate_fits.ensures ∙ c.if-not-rate_fits.false))

pub loop-rate-preserved : goal.loop-rate-preserved
loop-rate-preserved c = let k = sym c.rate_fits.ensures ∙ c.if-not-rate_fits.false in
    (search rules, omega (arith, of_kept _ k), c.loop-rate.invariant.2 ∙ rates_step _ _ c.loop-rate.rate-index (omega arith) _ refl k)

pub returns : goal.returns
returns c = sym (c.loop-rate.invariant.2 ∙ rates_end _ _ _ (omega arith))
