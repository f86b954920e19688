-- `job::header_verdict` meets its contract: the record, then the drains that it tells.
use Rattle.header.proofs.Told.{handed_on}
use Rattle.header.specs.Answers.{plain, verdict}
use Rattle.job.proofs.Opening.{record_refused, body_room, body_fields, then_drains}
use Rattle.format.specs.JobBytes.{archive}
use native.Mathlib.Omega.{arith}
use Rattle.job.proofs.header_verdict.Goals as goal

pub returns-in_err-header_record : goal.returns-in_err-header_record
returns-in_err-header_record c = handed_on _ _ c.from_residual.ensures (record_refused _ _ _ _ c.header_record.ensures _ c.in_err-header_record.was)

pub slice_bounds-of-count : goal.slice_bounds-of-count
slice_bounds-of-count c = omega (arith, body_room archive _ _ _ c.header_record.ensures c.in_ok-header_record.was)

pub of-requires : goal.of-requires
of-requires c = body_fields archive _ _ _ c.header_record.ensures c.in_ok-header_record.was

pub returns : goal.returns
returns c =
    then_drains _ _ _ _ c.header_record.ensures c.in_ok-header_record.was (plain c.of.result) c.of.ensures _ c.drains_verdict.ensures

pub slice_bounds-of-start : goal.slice_bounds-of-start
slice_bounds-of-start c = omega (arith, body_room archive _ _ _ c.header_record.ensures c.in_ok-header_record.was)
