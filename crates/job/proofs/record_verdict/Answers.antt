-- `job::record_verdict` meets its contract: the record's shape, then the fields of its kind.
use Rattle.header.proofs.Told.{handed_on}
use mathlib.Core.Path.{ap, ◌∙◌}
use native.Mathlib.Omega.{arith}
use Rattle.format.specs.Limits.{broken}
use Rattle.format.specs.JobBytes.{Header, header_limits, header_form, rates_form, unit_form}
use Rattle.format.proofs.Records.{total_same, total_entries}
use Rattle.format.proofs.RoundTrip.{header_total}
use Rattle.format.specs.Records.{plain_form}
use Rattle.header.specs.Answers.{extra}
use Rattle.std.specs.Prelude.{Ok}
use Rattle.job.specs.Answers.{form_of}
use Rattle.header.proofs.Verdicts.{fits}
use Rattle.job.proofs.Records.{record_refused, record_there, record_by_fields, body_room}
use Rattle.job.proofs.record_verdict.Goals as goal

pub returns-in_err-shape_verdict : goal.returns-in_err-shape_verdict
returns-in_err-shape_verdict c = handed_on _ _ c.from_residual.ensures (record_refused _ _ _ c.shape_verdict.ensures _ c.in_err-shape_verdict.was)

pub slice_bounds-body-count : goal.slice_bounds-body-count
slice_bounds-body-count c = omega (arith, record_there _ _ _ c.shape_verdict.ensures c.in_ok-shape_verdict.was)

pub of-requires : goal.of-requires
unfolding form_of extra
of-requires c = omega (arith, header_total 0, rw c.in-Header.is at (body_room _ _ _ c.shape_verdict.ensures c.in_ok-shape_verdict.was))

pub of-requires-in-TwoBuckets : goal.of-requires-in-TwoBuckets
unfolding form_of extra
of-requires-in-TwoBuckets c = omega (arith, header_total 1, rw c.in-TwoBuckets.is at (body_room _ _ _ c.shape_verdict.ensures c.in_ok-shape_verdict.was))

pub rates_verdict-requires : goal.rates_verdict-requires
unfolding form_of rates_form
rates_verdict-requires c = omega (arith, total_same c.in-Rates.n 2, rw c.in-Rates.is at (body_room _ _ _ c.shape_verdict.ensures c.in_ok-shape_verdict.was))

pub codings_verdict-requires : goal.codings_verdict-requires
unfolding form_of unit_form
codings_verdict-requires c = omega (arith, total_entries c.in-Unit.n, rw c.in-Unit.is at (body_room _ _ _ c.shape_verdict.ensures c.in_ok-shape_verdict.was))

pub returns-in-Header : goal.returns-in-Header
unfolding form_of extra header_form
returns-in-Header c = record_by_fields _ _ _ c.shape_verdict.ensures c.in_ok-shape_verdict.was _ (rw c.in-Header.is (c.verdict.ensures ∙ ap (λ (h : Header). broken (header_limits h)) c.of.ensures))

pub returns-in-TwoBuckets : goal.returns-in-TwoBuckets
unfolding form_of extra header_form
returns-in-TwoBuckets c = record_by_fields _ _ _ c.shape_verdict.ensures c.in_ok-shape_verdict.was _ (rw c.in-TwoBuckets.is (c.verdict-in-TwoBuckets.ensures ∙ ap (λ (h : Header). broken (header_limits h)) c.of-in-TwoBuckets.ensures))

pub returns-in-Rates : goal.returns-in-Rates
unfolding form_of rates_form
returns-in-Rates c = record_by_fields _ _ _ c.shape_verdict.ensures c.in_ok-shape_verdict.was _ (rw c.in-Rates.is c.rates_verdict.ensures)

pub returns-in-Unit : goal.returns-in-Unit
unfolding form_of unit_form
returns-in-Unit c = record_by_fields _ _ _ c.shape_verdict.ensures c.in_ok-shape_verdict.was _ (rw c.in-Unit.is c.codings_verdict.ensures)

pub returns-in-Plain : goal.returns-in-Plain
unfolding form_of plain_form
returns-in-Plain c = record_by_fields _ _ _ c.shape_verdict.ensures c.in_ok-shape_verdict.was (Ok tt) (rw c.in-Plain.is (fits _ tt))

pub slice_bounds-body-start : goal.slice_bounds-body-start
slice_bounds-body-start c = omega (arith, record_there _ _ _ c.shape_verdict.ensures c.in_ok-shape_verdict.was)
