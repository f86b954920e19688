-- `calls::calls_refusal` meets its contract.
use Rattle.calls.proofs.Answering.{calls_not_read, calls_not_due, calls_12, calls_fit}
use Rattle.header.specs.Answers.{door_of}
use Rattle.header.proofs.Told.{handed_on}
use Rattle.job.proofs.Answers.{answer_took, answer_refused, passes}
use Rattle.calls.proofs.calls_refusal.Goals as goal

pub returns-in_err-read : goal.returns-in_err-read
unfolding door_of
returns-in_err-read c = handed_on _ _ c.from_residual.ensures (calls_not_read _ _ _ _ (answer_refused _ _ c.in_err-read.ensures))

pub returns-in_err-calls_verdict : goal.returns-in_err-calls_verdict
unfolding door_of
returns-in_err-calls_verdict c =
    let o = passes _ _ _ _ (answer_took _ c.in_ok-read.field-0 c.in_ok-read.ensures) in
    handed_on _ _ c.from_residual-in_err-calls_verdict.ensures (calls_not_due _ _ _ _ o _ c.in_err-calls_verdict.ensures)

pub returns-then-answers-calls : goal.returns-then-answers-calls
unfolding door_of
returns-then-answers-calls c =
    let o = passes _ _ _ _ (answer_took _ c.in_ok-read.field-0 c.in_ok-read.ensures) in
    calls_12 _ _ _ _ o c.in_ok-calls_verdict.ensures c.if-answers-calls.true

pub returns : goal.returns
unfolding door_of
returns c =
    let o = passes _ _ _ _ (answer_took _ c.in_ok-read.field-0 c.in_ok-read.ensures) in
    calls_fit _ _ _ _ o c.in_ok-calls_verdict.ensures c.if-answers-calls.false
