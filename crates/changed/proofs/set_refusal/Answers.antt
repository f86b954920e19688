-- `changed::set_refusal` meets its contract.
use Rattle.header.proofs.Told.{handed_on}
use mathlib.Core.Path.{sym, ◌∙◌, ap}
use Rattle.header.specs.Answers.{plain, verdict, door_of}
use Rattle.job.proofs.Answers.{answer_took, answer_refused}
use Rattle.pinset.specs.Answers.{set_of}
use Rattle.pinset.proofs.Answering.{ready}
use Rattle.changed.proofs.Answering.{not_read, by_order, by_change}
use Rattle.changed.proofs.set_refusal.Goals as goal

pub returns-in_err-named_verdict : goal.returns-in_err-named_verdict
unfolding door_of set_of
returns-in_err-named_verdict c = handed_on _ _ c.from_residual-in_err-named_verdict.ensures (let check = c.check in
    by_order _ _ _ _ _ _ _ _ _ _ (answer_took _ _ c.in_ok-header.ensures.answer) check.ensures.sized _ c.in_err-named_verdict.ensures)

pub change_verdict-requires : goal.change_verdict-requires
unfolding door_of set_of
change_verdict-requires c = let check = c.check in
    ready _ _ _ _ _ (answer_took _ _ c.in_ok-header.ensures.answer) check.ensures.sized

pub returns-in_err-header : goal.returns-in_err-header
unfolding door_of set_of
returns-in_err-header c = handed_on _ _ c.from_residual.ensures (let check = c.check in
    not_read _ _ _ _ _ _ _ _ _ (answer_refused _ _ c.in_err-header.ensures.answer))

pub returns : goal.returns
unfolding plain door_of set_of
returns c = let check = c.check in
    by_change _ _ _ _ _ _ _ _ _ _ (answer_took _ _ c.in_ok-header.ensures.answer) check.ensures.sized c.in_ok-named_verdict.ensures _ c.change_verdict.ensures
