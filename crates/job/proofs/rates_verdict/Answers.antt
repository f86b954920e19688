-- `job::rates_verdict` meets its contract: the rates that are left to check decide, whichever turn the loop is at.
use Prim.Native.Nat.{◌-◌}
use mathlib.Core.Path.{sym, ◌∙◌}
use native.Mathlib.Omega.{arith}
use borrow.Author.Rules.{rules}
use Rattle.format.proofs.Limits.{of_kept}
use Rattle.format.proofs.Left.{rates_start, rates_end, rates_step, rates_here}
use Rattle.header.specs.Answers.{verdict}
use Rattle.job.proofs.Loops.{rates_count, rate_there}
use Rattle.job.proofs.rates_verdict.Goals as goal

pub loop-i-init : goal.loop-i-init
loop-i-init c = (search rules, search rules, rates_start _)

pub returns-then-not-rate_fits : goal.returns-then-not-rate_fits
returns-then-not-rate_fits c = let k = sym c.rate_fits.ensures ∙ c.if-not-rate_fits.true in
    sym (c.loop-i.invariant.2 ∙ rates_here _ _ _ (rw rates_count (omega arith)) _ (rate_there _ c.args.rates c.loop-i.i (omega arith) _ c.u16_at-rate.ensures) k)

pub overflow_add-low : goal.overflow_add-low
overflow_add-low c = omega (arith, of_kept _ (sym c.rate_fits.ensures ∙ c.if-not-rate_fits.false))

pub loop-i-preserved : goal.loop-i-preserved
loop-i-preserved c = let k = sym c.rate_fits.ensures ∙ c.if-not-rate_fits.false in
    (search rules, omega (arith, of_kept _ k), c.loop-i.invariant.2 ∙ rates_step _ _ _ (rw rates_count (omega arith)) _ (rate_there _ c.args.rates c.loop-i.i (omega arith) _ c.u16_at-rate.ensures) k)

pub returns : goal.returns
returns c = sym (c.loop-i.invariant.2 ∙ rates_end _ _ _ (rw rates_count (omega arith)))
