-- `calls::set_after` meets its contract.
use Rattle.calls.proofs.Making.{ran_start, ran_on, ran_end}
use Rattle.pins.specs.Answers.{opening, handed}
use Rattle.pinning.specs.Calls.{Opening, CallsMade}
use mathlib.Core.Path.{ap, sym}
use mathlib.Core.List.{[]}
use native.Mathlib.Omega.{arith}
use borrow.Author.Rules.{rules}
use Rattle.calls.proofs.set_after.Goals as goal

pub loop-place-init : goal.loop-place-init
loop-place-init c = (search rules, [], ran_start _ _ _)

pub loop-place-preserved : goal.loop-place-preserved
unfolding handed
loop-place-preserved c =
    (omega arith, _, ran_on _ _ _ c.loop-place.place _ _ c.loop-place.invariant.2 (omega arith) (handed c.make_call-handed.result) c.make_call-handed.ensures)

pub returns : goal.returns
unfolding opening
returns c =
    sym (ap (λ (r : CallsMade). r.set) (ran_end _ _ _ _ (ap (λ (o : Opening). o.set) c.open-opened.ensures) c.loop-place.place _ _ c.loop-place.invariant.2 (omega arith)))
