-- `header::rate_fits` meets its contract: a rate that is not too large is kept if it is large enough.
use mathlib.Core.Path.{sym}
use native.Mathlib.Omega.{arith}
use Rattle.format.proofs.Limits.{not_kept, kept_under}
use Rattle.header.proofs.rate_fits.Goals as goal

pub returns-in-0-to-4095 : goal.returns-in-0-to-4095
returns-in-0-to-4095 c = kept_under _ (omega arith)

pub returns-in_default : goal.returns-in_default
returns-in_default c = sym (not_kept _ (λ o. omega (arith, o)))
