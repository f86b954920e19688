-- `contract::Contract::second` meets its contract: the bucket in the second place, or none.
use mathlib.Core.Path.{◌∙◌, ap}
use native.Mathlib.Omega.{arith}
use Rattle.base.specs.If.{one_if}
use mathlib.Core.List.{[], ◌∷◌, map}
use Rattle.model.specs.Job.{Bucket}
use Rattle.format.specs.JobBytes.{bucket_of}
use Rattle.contract.proofs.Buckets.{two_long, second_is, no_second}
use Rattle.contract.proofs.Contract.second.Goals as goal

pub bucket_at-requires : goal.bucket_at-requires
bucket_at-requires c =
    (omega (arith, two_long _ _ c.if-two.true c.requires.0), omega (arith, two_long _ _ c.if-two.true c.requires.1))

pub returns-then-two : goal.returns-then-two
unfolding one_if
returns-then-two c =
    let e = second_is _ c.args.self.rates.now _ _ c.requires.0 c.requires.1 in
    ap (λ (b : Bucket). b ∷ []) (c.of.ensures ∙ ap bucket_of c.bucket_at.ensures) ∙ ap (map bucket_of) (rw c.if-two.true at e)

pub returns : goal.returns
returns c =
    ap (map bucket_of) (no_second _ _ _ _ c.requires.0 c.requires.1 c.if-two.false)
