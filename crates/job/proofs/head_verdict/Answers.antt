-- `job::head_verdict` meets its contract: for each record that may be due, the kind and then the length.
use native.Mathlib.Omega.{arith}
use Rattle.format.specs.Records.{plain_form}
use Rattle.format.specs.JobBytes.{header_kind, header_form, rates_form, unit_form}
use Rattle.format.proofs.Records.{total_same, total_entries}
use Rattle.format.proofs.RoundTrip.{header_total}
use Rattle.job.specs.Answers.{form_of}
use Rattle.job.proofs.Records.{head_by, head_not}
use Rattle.job.proofs.head_verdict.Goals as goal

pub returns-then-kind-own : goal.returns-then-kind-own
unfolding form_of plain_form
returns-then-kind-own c = rw c.in-Plain.is (head_not (plain_form c.in-Plain.own c.in-Plain.fields) _ _ c.if-kind-own.true)

pub returns-in-1 : goal.returns-in-1
unfolding form_of header_form header_kind
returns-in-1 c = rw c.in-Header.is (head_by (header_form 0) _ _ 20 (omega (arith, header_total 0)) c.in-1.is _ c.same_length.ensures)

pub returns-in_default : goal.returns-in_default
unfolding form_of header_form header_kind
returns-in_default c = rw c.in-Header.is (head_not (header_form 0) _ _ (λ e. omega (arith, e)))

pub returns-in-8 : goal.returns-in-8
unfolding form_of header_form header_kind
returns-in-8 c = rw c.in-TwoBuckets.is (head_by (header_form 1) _ _ 26 (omega (arith, header_total 1)) c.in-8.is _ c.same_length-in-8.ensures)

pub returns-in_default-kind : goal.returns-in_default-kind
unfolding form_of header_form header_kind
returns-in_default-kind c = rw c.in-TwoBuckets.is (head_not (header_form 1) _ _ (λ e. omega (arith, e)))

pub returns-in-2 : goal.returns-in-2
unfolding form_of rates_form
returns-in-2 c = rw c.in-Rates.is (head_by (rates_form c.in-Rates.n) _ _ _ (rw total_same) c.in-2.is _ c.same_length-in-2.ensures)

pub returns-in_default-kind-2 : goal.returns-in_default-kind-2
unfolding form_of rates_form
returns-in_default-kind-2 c = rw c.in-Rates.is (head_not (rates_form c.in-Rates.n) _ _ (λ e. omega (arith, e)))

pub returns-in-3 : goal.returns-in-3
unfolding form_of unit_form
returns-in-3 c = rw c.in-Unit.is (head_by (unit_form c.in-Unit.n) _ _ _ (rw total_entries) c.in-3.is _ c.same_length-in-3.ensures)

pub returns-in_default-kind-3 : goal.returns-in_default-kind-3
unfolding form_of unit_form
returns-in_default-kind-3 c = rw c.in-Unit.is (head_not (unit_form c.in-Unit.n) _ _ (λ e. omega (arith, e)))

pub returns-else-kind-own : goal.returns-else-kind-own
unfolding form_of plain_form
returns-else-kind-own c = rw c.in-Plain.is (head_by (plain_form c.in-Plain.own c.in-Plain.fields) _ _ _ (rw total_same) c.if-kind-own.false _ c.same_length-in-Plain.ensures)
