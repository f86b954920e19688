-- `header::Header::verdict` meets its contract: each test that fails breaks a limit, and where none fails all are kept.
use Rattle.header.proofs.Verdicts.{never}
use native.Mathlib.Omega.{arith}
use mathlib.Core.Path.{sym, ◌∙◌}
use Rattle.header.proofs.Verdicts.{field_out, all_in}
use Rattle.format.proofs.Limits.{all_fit, fit_all}
use Rattle.header.proofs.Header.verdict.Goals as goal

pub returns-in_default : goal.returns-in_default
returns-in_default c = field_out _ (λ o. omega (arith, o.units))

pub returns-in_default-2 : goal.returns-in_default-2
returns-in_default-2 c = field_out _ (λ o. omega (arith, o.units))

pub returns-in_default-delay : goal.returns-in_default-delay
returns-in_default-delay c = field_out _ (λ o. omega (arith, o.delay))

pub returns-in_default-decoder : goal.returns-in_default-decoder
returns-in_default-decoder c = field_out _ (λ o. omega (arith, o.decoder))

pub returns-then-decoder-self : goal.returns-then-decoder-self
returns-then-decoder-self c = field_out _ (λ o. omega (arith, o.level))

pub returns-in_default-rates : goal.returns-in_default-rates
returns-in_default-rates c = field_out _ (λ o. omega (arith, o.rates))

pub returns-in_default-rates-2 : goal.returns-in_default-rates-2
returns-in_default-rates-2 c = field_out _ (λ o. omega (arith, o.rates))

pub returns-in_default-choices : goal.returns-in_default-choices
returns-in_default-choices c = field_out _ (λ o. omega (arith, o.choices))

pub returns-in_default-choices-2 : goal.returns-in_default-choices-2
returns-in_default-choices-2 c = field_out _ (λ o. omega (arith, o.choices))

pub returns-then-not-buckets_fit : goal.returns-then-not-buckets_fit
returns-then-not-buckets_fit c = field_out _ (λ o. never _ c.if-not-buckets_fit.true (c.buckets_fit.ensures ∙ sym (fit_all _ o.buckets)))

pub returns : goal.returns
returns c = all_in _ (record { units = (omega arith, omega arith); delay = omega arith; decoder = omega arith; level = omega arith; rates = (omega arith, omega arith); choices = (omega arith, omega arith); buckets = all_fit _ (sym c.buckets_fit.ensures ∙ c.if-not-buckets_fit.false) })
