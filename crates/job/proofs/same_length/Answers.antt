-- `job::same_length` meets its contract: a limit whose two ends are one number.
use mathlib.Core.Path.{refl}
use native.Mathlib.Omega.{arith}
use Rattle.header.specs.declared.refusal.Refusal.TheVariants as refusals
use Rattle.header.proofs.Verdicts.{refuses, fits}
use Rattle.job.proofs.same_length.Goals as goal

pub returns-then-len-due : goal.returns-then-len-due
returns-then-len-due c = fits _ (omega arith)

pub returns-else-len-due : goal.returns-else-len-due
returns-else-len-due c = refuses refusals.NotDue _ (refl, tt) (λ o. omega (arith, o))
