-- `header::Bucket::drains` meets its contract: a drain in range is kept.
use mathlib.Core.Path.{sym}
use native.Mathlib.Omega.{arith}
use Rattle.format.proofs.Limits.{is_kept, not_kept}
use Rattle.header.proofs.Bucket.drains.Goals as goal

pub returns-in-1-to-4095 : goal.returns-in-1-to-4095
returns-in-1-to-4095 c = sym (is_kept _ (omega arith, omega arith))

pub returns-in_default : goal.returns-in_default
returns-in_default c = sym (not_kept _ (λ o. omega (arith, o)))

pub returns-in_default-2 : goal.returns-in_default-2
returns-in_default-2 c = sym (not_kept _ (λ o. omega (arith, o)))
