-- `session::plan_refusal` meets its contract.
use Rattle.header.proofs.Told.{handed_on}
use Rattle.session.proofs.Answering.{plan_not_read, plan_not_due, plan_11, plan_12_answers, plan_12_entries, plan_fits}
use native.Mathlib.Omega.{arith}
use Rattle.header.specs.Answers.{plain, door_of}
use Rattle.job.proofs.Answers.{answer_took, answer_refused, passes}
use Rattle.session.proofs.plan_refusal.Goals as goal

pub returns-in_err-asked_verdict : goal.returns-in_err-asked_verdict
unfolding door_of
returns-in_err-asked_verdict c = handed_on _ _ c.from_residual-in_err-asked_verdict.ensures (let read = c.read in
    let d = answer_took _ _ c.in_ok-header.ensures in
    let o = passes _ _ _ _ d in
    plan_not_due _ _ _ _ _ _ _ _ o _ c.in_err-asked_verdict.ensures)

pub returns-then-table-table_words : goal.returns-then-table-table_words
unfolding door_of
returns-then-table-table_words c = let read = c.read in
    let d = answer_took _ _ c.in_ok-header.ensures in
    let o = passes _ _ _ _ d in
    plan_11 _ _ _ _ _ _ _ _ o c.in_ok-asked_verdict.ensures (omega (arith, c.table_words.ensures, c.if-table-table_words.true))

pub returns-then-answers-calls : goal.returns-then-answers-calls
unfolding door_of
returns-then-answers-calls c = let read = c.read in
    let d = answer_took _ _ c.in_ok-header.ensures in
    let o = passes _ _ _ _ d in
    plan_12_answers _ _ _ _ _ _ _ _ o c.in_ok-asked_verdict.ensures (omega (arith, c.table_words.ensures, c.if-table-table_words.false)) c.if-answers-calls.true

pub returns-then-entries-intervals : goal.returns-then-entries-intervals
unfolding plain door_of
returns-then-entries-intervals c = let read = c.read in
    let d = answer_took _ _ c.in_ok-header.ensures in
    let o = passes _ _ _ _ d in
    plan_12_entries _ _ _ _ _ _ _ _ o c.in_ok-asked_verdict.ensures (omega (arith, c.table_words.ensures, c.if-table-table_words.false)) c.if-answers-calls.false (omega (arith, c.intervals.ensures, c.if-entries-intervals.true))

pub returns-in_err-header : goal.returns-in_err-header
unfolding door_of
returns-in_err-header c = handed_on _ _ c.from_residual.ensures (let read = c.read in
    plan_not_read _ _ _ _ _ _ _ _ (answer_refused _ _ c.in_err-header.ensures))

pub returns : goal.returns
unfolding plain door_of
returns c = let read = c.read in
    let d = answer_took _ _ c.in_ok-header.ensures in
    let o = passes _ _ _ _ d in
    plan_fits _ _ _ _ _ _ _ _ o c.in_ok-asked_verdict.ensures (omega (arith, c.table_words.ensures, c.if-table-table_words.false)) c.if-answers-calls.false (omega (arith, c.intervals.ensures, c.if-entries-intervals.false))
