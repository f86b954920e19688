-- `contract::Contract::offered` meets its contract: each test that fails breaks a limit, and where none of the counts does the buckets decide.
use mathlib.Core.Path.{sym, ◌∙◌}
use native.Mathlib.Omega.{arith}
use Rattle.format.proofs.Limits.{not_all}
use Rattle.changing.specs.NewContract.{contract_limits}
use Rattle.contract.proofs.Buckets.{two_long, first_out, one_in, two_in}
use Rattle.contract.proofs.Contract.offered.Goals as goal

pub returns-then-self-buckets : goal.returns-then-self-buckets
unfolding contract_limits
returns-then-self-buckets c = not_all _ (λ o. c.if-self-buckets.true (omega (arith, o.0)))

pub returns-then-self-buckets-2 : goal.returns-then-self-buckets-2
unfolding contract_limits
returns-then-self-buckets-2 c = not_all _ (λ o. c.if-self-buckets-2.true (omega (arith, o.1.0)))

pub returns-in_default : goal.returns-in_default
unfolding contract_limits
returns-in_default c = not_all _ (λ o. omega (arith, o.1.1.0))

pub returns-in_default-2 : goal.returns-in_default-2
unfolding contract_limits
returns-in_default-2 c = not_all _ (λ o. omega (arith, o.1.1.0))

pub returns-then-not-fits : goal.returns-then-not-fits
returns-then-not-fits c =
    first_out _ _ _ _ (record { sizes_count = omega arith; drains_count = omega arith; some = omega arith; few = omega arith }) _ c.bucket_at.ensures (sym c.if-not-fits.true ∙ c.fits.ensures)

pub returns-then-not-two : goal.returns-then-not-two
returns-then-not-two c =
    one_in _ _ _ _ (record { sizes_count = omega arith; drains_count = omega arith; some = omega arith; few = omega arith }) _ c.bucket_at.ensures (sym c.if-not-fits.false ∙ c.fits.ensures) c.if-not-two.true

pub bucket_at-requires-2 : goal.bucket_at-requires-2
bucket_at-requires-2 c = let n = two_long _ _ c.if-not-two.false c.buckets_of-buckets.ensures in
    (omega arith, omega arith)

pub returns : goal.returns
returns c =
    two_in _ _ _ _ (record { sizes_count = omega arith; drains_count = omega arith; some = omega arith; few = omega arith }) _ c.bucket_at.ensures (sym c.if-not-fits.false ∙ c.fits.ensures) c.if-not-two.false _ c.bucket_at-2.ensures _ c.fits-2.ensures
