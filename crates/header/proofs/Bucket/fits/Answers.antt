-- `header::Bucket::fits` meets its contract: three limits, one of them by a range.
use native.Mathlib.Omega.{arith}
use Rattle.header.specs.Answers.{policed_of}
use Rattle.header.proofs.Verdicts.{three_fit}
use Rattle.format.proofs.Limits.{not_all}
use Rattle.header.proofs.Bucket.fits.Goals as goal

pub returns-in-0-to-4095 : goal.returns-in-0-to-4095
unfolding policed_of
returns-in-0-to-4095 c = three_fit _ _ _ _ (omega arith)

pub returns-in_default : goal.returns-in_default
unfolding policed_of
returns-in_default c = not_all _ (λ h. omega (arith, h))
