-- `planned::set_refusal` meets its contract.
use Rattle.header.proofs.Told.{handed_on}
use mathlib.Core.Path.{sym, ◌∙◌, ap}
use native.Mathlib.Omega.{arith}
use Rattle.header.specs.Answers.{plain, verdict, door_of}
use Rattle.pinset.specs.Answers.{set_of}
use Rattle.job.proofs.Answers.{answer_took, answer_refused}
use Rattle.planned.proofs.Answering.{not_read, by_names, by_table, by_entries, not_refused}
use Rattle.planned.proofs.set_refusal.Goals as goal

pub returns-in_err-named_verdict : goal.returns-in_err-named_verdict
unfolding door_of set_of
returns-in_err-named_verdict c = handed_on _ _ c.from_residual-in_err-named_verdict.ensures (let check = c.check in
    by_names _ _ _ _ _ _ _ _ (answer_took _ _ c.in_ok-header.ensures.answer) check.ensures.sized _ c.in_err-named_verdict.ensures)

pub returns-then-table-table_words : goal.returns-then-table-table_words
unfolding door_of set_of
returns-then-table-table_words c = let check = c.check in
    by_table _ _ _ _ _ _ _ _ (answer_took _ _ c.in_ok-header.ensures.answer) check.ensures.sized c.in_ok-named_verdict.ensures (omega (arith, c.table_words.ensures, c.if-table-table_words.true))

pub returns-then-entries-intervals : goal.returns-then-entries-intervals
unfolding plain door_of set_of
returns-then-entries-intervals c = let check = c.check in
    by_entries _ _ _ _ _ _ _ _ (answer_took _ _ c.in_ok-header.ensures.answer) check.ensures.sized c.in_ok-named_verdict.ensures (omega (arith, c.table_words.ensures, c.if-table-table_words.false)) (omega (arith, c.intervals.ensures, c.if-entries-intervals.true))

pub returns-in_err-header : goal.returns-in_err-header
unfolding door_of set_of
returns-in_err-header c = handed_on _ _ c.from_residual.ensures (let check = c.check in
    not_read _ _ _ _ _ _ _ (answer_refused _ _ c.in_err-header.ensures.answer))

pub returns : goal.returns
unfolding plain door_of set_of
returns c = let check = c.check in
    not_refused _ _ _ _ _ _ _ _ (answer_took _ _ c.in_ok-header.ensures.answer) check.ensures.sized c.in_ok-named_verdict.ensures (omega (arith, c.table_words.ensures, c.if-table-table_words.false)) (omega (arith, c.intervals.ensures, c.if-entries-intervals.false))
