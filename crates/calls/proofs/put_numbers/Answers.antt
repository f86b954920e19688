-- `calls::put_numbers` meets its contract.
use Rattle.calls.proofs.Making.{ran_on, going_start, going_on, going_end}
use Rattle.pins.specs.Answers.{opening, handed}
use Rattle.pinning.specs.Calls.{Opening}
use mathlib.Core.Path.{ap}
use native.Mathlib.Omega.{arith}
use Rattle.header.specs.Answers.{door_of}
use borrow.Author.Rules.{rules}
use Rattle.calls.proofs.put_numbers.Goals as goal

pub loop-place-init : goal.loop-place-init
loop-place-init c = (search rules, going_start _ _ _ _)

pub loop-place-preserved : goal.loop-place-preserved
unfolding handed
loop-place-preserved c =
    let g = c.loop-place.invariant.1 in
    let r = ran_on _ _ _ c.loop-place.place _ _ g.ran (omega arith) (handed c.make_call-made.result) c.make_call-made.ensures in
    (omega arith, going_on _ _ _ _ c.loop-place.place _ _ g (omega (arith, c.requires)) (handed c.make_call-made.result) r _ c.answer_number.ensures)

pub returns : goal.returns
unfolding opening door_of
returns c = going_end _ _ _ _ (ap (λ (o : Opening). o.set) c.open-opened.ensures) c.loop-place.place _ _ c.loop-place.invariant.1 (omega arith)
