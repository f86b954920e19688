-- `calls::make_calls` meets its contract.
use Rattle.header.proofs.Told.{handed_as}
use Rattle.calls.proofs.Answering.{calls_refused, calls_room, calls_made}
use Rattle.calls.specs.Answers.{called, totals_are}
use Rattle.base.specs.Lent.{refuse}
use Rattle.pinset.specs.Answers.{set_of}
use Rattle.calls.proofs.make_calls.Goals as goal

pub returns-in_err-calls_refusal : goal.returns-in_err-calls_refusal
unfolding called refuse
returns-in_err-calls_refusal c = handed_as (λ r. called r c.args.answers.now) _ _ c.from_residual.ensures (calls_refused _ _ _ _ c.in_err-calls_refusal.ensures)

pub put_numbers-set-requires : goal.put_numbers-set-requires
put_numbers-set-requires c = calls_room _ _ _ c.in_ok-calls_refusal.ensures

pub returns : goal.returns
unfolding called set_of totals_are
returns c = calls_made _ _ _ c.in_ok-calls_refusal.ensures _ _ c.put_numbers-set.ensures
