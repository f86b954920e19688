-- `header::coding_fits` meets its contract: its three ends against the two limits.
use native.Mathlib.Omega.{arith}
use Rattle.header.proofs.Verdicts.{both, not_first, not_second}
use Rattle.header.proofs.coding_fits.Goals as goal

pub returns-in-0-to-1000000 : goal.returns-in-0-to-1000000
returns-in-0-to-1000000 c = both _ _ (omega arith) (omega arith)

pub returns-in_default-distortion : goal.returns-in_default-distortion
returns-in_default-distortion c = not_second _ _ (omega arith) (λ o. omega (arith, o))

pub returns-in_default : goal.returns-in_default
returns-in_default c = not_first _ _ (λ o. omega (arith, o))
