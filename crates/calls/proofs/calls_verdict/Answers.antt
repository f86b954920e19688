-- `calls::calls_verdict` meets its contract.
use Rattle.calls.proofs.Calling.{kind_not_due, last_cut, whole_calls}
use Rattle.base.proofs.All.{all_none, all_more}
use Rattle.calling.specs.Commands.{kind_of}
use lib.ListN.{length}
use mathlib.Core.Path.{◌≡◌, sym, ◌∙◌}
use Prim.Native.Nat.{◌/◌}
use native.Mathlib.Omega.{arith}
use borrow.Author.Rules.{rules}
use Rattle.calls.proofs.calls_verdict.Goals as goal

pub loop-place-init : goal.loop-place-init
loop-place-init c = (search rules, all_none _)

pub returns-then-not-kind_fits : goal.returns-then-not-kind_fits
unfolding kind_of
returns-then-not-kind_fits c =
    kind_not_due _ c.loop-place.place (omega arith) (sym c.kind_fits.ensures ∙ c.if-not-kind_fits.true)

pub loop-place-preserved : goal.loop-place-preserved
unfolding kind_of
loop-place-preserved c =
    (search rules, all_more _ _ c.loop-place.invariant.1 (sym c.kind_fits.ensures ∙ c.if-not-kind_fits.false))

pub returns-then-calls-ne0 : goal.returns-then-calls-ne0
returns-then-calls-ne0 c =
    let n = length c.args.calls.now in
    let k : c.loop-place.place ≡ n / 3 = omega arith in
    last_cut _ (rw k at c.loop-place.invariant.1) c.if-calls-ne0.true

pub returns : goal.returns
returns c =
    let n = length c.args.calls.now in
    let k : c.loop-place.place ≡ n / 3 = omega arith in
    whole_calls _ (rw k at c.loop-place.invariant.1) c.if-calls-ne0.false
