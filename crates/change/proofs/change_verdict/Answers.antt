-- `change::change_verdict` meets its contract: the old plan, the contract, then the rest.
use Rattle.change.proofs.Verdicts.{counts, buckets_under, is_14, is_3, is_17, is_4, is_rest}
use Rattle.contract.specs.Answers.{contract_is}
use Rattle.contract.proofs.Lines.{header_buckets}
use Rattle.changing.specs.NewContract.{contract_limits}
use Rattle.format.specs.Limits.{each_kept}
use Rattle.format.proofs.Opened.{job_limits, decoder_is}
use Rattle.header.specs.Answers.{extra, plain}
use Rattle.pinset.specs.Answers.{set_of}
use Rattle.model.specs.Job.{Line}
use lib.ListN.{length}
use mathlib.Core.Bool.{Bool}
use mathlib.Core.Path.{sym, ap, ◌∙◌}
use Prim.Native.Nat.{ℕ, ◌+◌}
use native.Mathlib.Omega.{arith}
use Rattle.change.proofs.change_verdict.Goals as goal

pub returns-then-not-shaped : goal.returns-then-not-shaped
unfolding plain
returns-then-not-shaped c = is_14 _ _ c.requires.opens _ _ _ _ _ _ (sym c.shaped.ensures ∙ c.if-not-shaped.true)

pub returns-then-not-offered : goal.returns-then-not-offered
unfolding plain
returns-then-not-offered c =
    is_3 _ _ c.requires.opens _ _ _ _ _ _ (sym c.shaped.ensures ∙ c.if-not-shaped.false) _ (rw c.is_some-two.ensures (sym (header_buckets c.args.header))) (sym c.offered.ensures ∙ c.if-not-offered.true)

pub draining-requires : goal.draining-requires
draining-requires c = counts _ _ (sym c.offered.ensures ∙ c.if-not-offered.false)

pub returns-then-not-draining : goal.returns-then-not-draining
unfolding plain
returns-then-not-draining c =
    is_17 _ _ c.requires.opens _ _ _ _ _ _ (sym c.shaped.ensures ∙ c.if-not-shaped.false) _ (rw c.is_some-two.ensures (sym (header_buckets c.args.header))) (sym c.offered.ensures ∙ c.if-not-offered.false) (sym c.draining.ensures ∙ c.if-not-draining.true)

pub returns-then-not-rising : goal.returns-then-not-rising
unfolding plain
returns-then-not-rising c =
    is_4 _ _ c.requires.opens _ _ _ _ _ _ (sym c.shaped.ensures ∙ c.if-not-shaped.false) _ (rw c.is_some-two.ensures (sym (header_buckets c.args.header))) (sym c.offered.ensures ∙ c.if-not-offered.false) (sym c.draining.ensures ∙ c.if-not-draining.false) (sym c.rising.ensures ∙ c.if-not-rising.true)

pub line_under-line-requires : goal.line_under-line-requires
unfolding plain
line_under-line-requires c =
    record {
      decoder = omega (arith, (job_limits _ _ c.requires.opens).decoder, decoder_is _ _ c.requires.opens);
      limits = ap (λ (n : ℕ). each_kept (contract_limits n (contract_is c.args.contract))) (header_buckets c.args.header ∙ ap (λ (t : Bool). 1 + extra t) (sym c.is_some-two.ensures)) ∙ sym c.offered.ensures ∙ c.if-not-offered.false;
      rising = sym c.rising.ensures ∙ c.if-not-rising.false;
    }

pub rest_verdict-requires : goal.rest_verdict-requires
unfolding plain set_of
rest_verdict-requires c =
    let n = counts _ _ (sym c.offered.ensures ∙ c.if-not-offered.false) in
    let u = c.line_under-line.ensures in
    record {
      plan = record { opens = c.requires.opens; in_shape = sym c.shaped.ensures ∙ c.if-not-shaped.false };
      ready = c.requires;
      line = u.fits;
      decoder = ap (λ (l : Line). l.decoder) u.is;
      count = ap (λ (l : Line). length l.buckets) u.is ∙ buckets_under _ _ n.0 n.1 ∙ rw c.is_some-two.ensures (sym (header_buckets c.args.header));
    }

pub returns : goal.returns
unfolding plain
returns c =
    is_rest _ _ c.requires.opens _ _ _ _ _ _ (sym c.shaped.ensures ∙ c.if-not-shaped.false) _ (rw c.is_some-two.ensures (sym (header_buckets c.args.header))) (sym c.offered.ensures ∙ c.if-not-offered.false) (sym c.draining.ensures ∙ c.if-not-draining.false) (sym c.rising.ensures ∙ c.if-not-rising.false) _ c.line_under-line.ensures _ c.rest_verdict.ensures
