-- `contract::Contract::draining` meets its contract: the first bucket, then the second where there is one.
use mathlib.Core.Path.{sym, ◌∙◌}
use native.Mathlib.Omega.{arith}
use Rattle.contract.proofs.Buckets.{two_long, drained_as, first_idle, one_drains, two_drain}
use Rattle.contract.proofs.Contract.draining.Goals as goal

pub returns-then-not-drains : goal.returns-then-not-drains
returns-then-not-drains c =
    first_idle _ _ _ _ c.requires.0 c.requires.1 (sym (drained_as _ _ _ c.bucket_at.ensures) ∙ sym c.drains.ensures ∙ c.if-not-drains.true)

pub returns-then-not-two : goal.returns-then-not-two
returns-then-not-two c =
    one_drains _ _ _ _ c.requires.0 c.requires.1 (sym (drained_as _ _ _ c.bucket_at.ensures) ∙ sym c.drains.ensures ∙ c.if-not-drains.false) c.if-not-two.true

pub bucket_at-requires-2 : goal.bucket_at-requires-2
bucket_at-requires-2 c =
    (omega (arith, two_long _ _ c.if-not-two.false c.requires.0), omega (arith, two_long _ _ c.if-not-two.false c.requires.1))

pub returns : goal.returns
returns c =
    two_drain _ _ _ _ c.requires.0 c.requires.1 (sym (drained_as _ _ _ c.bucket_at.ensures) ∙ sym c.drains.ensures ∙ c.if-not-drains.false) c.if-not-two.false _ (c.drains-2.ensures ∙ drained_as _ _ _ c.bucket_at-2.ensures)
