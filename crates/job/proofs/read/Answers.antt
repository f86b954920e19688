-- `job::read` meets its contract: the header's record, the rates' record and the units, each from the verdict on it.
use Rattle.header.proofs.Told.{handed_as}
use Rattle.job.specs.Answers.{reading}
use native.Mathlib.Omega.{arith}
use Rattle.header.specs.Answers.{plain}
use Rattle.job.proofs.Opening.{first_refused, header_room, fields_room, front_room, header_kept, second_refused, rates_room, then_units}
use Rattle.job.proofs.read.Goals as goal

pub returns-in_err-header_verdict : goal.returns-in_err-header_verdict
returns-in_err-header_verdict c = handed_as reading _ _ c.from_residual.ensures (first_refused _ _ _ c.tells_two-two.ensures _ c.header_verdict.ensures _ c.in_err-header_verdict.was)

pub slice_bounds-of-count : goal.slice_bounds-of-count
slice_bounds-of-count c = omega (arith, header_room _ _ _ c.tells_two-two.ensures _ c.header_verdict.ensures c.in_ok-header_verdict.was)

pub of-header-requires : goal.of-header-requires
of-header-requires c = fields_room _ _ _ c.tells_two-two.ensures _ c.header_verdict.ensures c.in_ok-header_verdict.was

pub slice_bounds-record_verdict-count : goal.slice_bounds-record_verdict-count
slice_bounds-record_verdict-count c = front_room _ _ _ c.tells_two-two.ensures _ c.header_verdict.ensures c.in_ok-header_verdict.was (plain c.of-header.result) c.of-header.ensures _ c.record_size-at.ensures

pub record_verdict-requires : goal.record_verdict-requires
unfolding plain
record_verdict-requires c = omega (arith, header_kept _ _ _ c.tells_two-two.ensures _ c.header_verdict.ensures c.in_ok-header_verdict.was (plain c.of-header.result) c.of-header.ensures _ c.record_size-at.ensures)

pub returns-in_err-record_verdict : goal.returns-in_err-record_verdict
unfolding plain
returns-in_err-record_verdict c = handed_as reading _ _ c.from_residual-in_err-record_verdict.ensures (second_refused _ _ _ c.tells_two-two.ensures _ c.header_verdict.ensures c.in_ok-header_verdict.was (plain c.of-header.result) c.of-header.ensures _ c.record_size-at.ensures _ c.record_verdict.ensures _ c.in_err-record_verdict.was)

pub overflow_add-start-2 : goal.overflow_add-start-2
unfolding plain
overflow_add-start-2 c = omega (arith, rates_room _ _ _ c.tells_two-two.ensures _ c.header_verdict.ensures c.in_ok-header_verdict.was (plain c.of-header.result) c.of-header.ensures _ c.record_size-at.ensures _ c.record_verdict.ensures c.in_ok-record_verdict.was)

pub read_units-requires : goal.read_units-requires
unfolding plain
read_units-requires c = (rates_room _ _ _ c.tells_two-two.ensures _ c.header_verdict.ensures c.in_ok-header_verdict.was (plain c.of-header.result) c.of-header.ensures _ c.record_size-at.ensures _ c.record_verdict.ensures c.in_ok-record_verdict.was, header_kept _ _ _ c.tells_two-two.ensures _ c.header_verdict.ensures c.in_ok-header_verdict.was (plain c.of-header.result) c.of-header.ensures _ c.record_size-at.ensures)

pub returns : goal.returns
unfolding plain
returns c = rw (then_units _ _ _ c.tells_two-two.ensures _ c.header_verdict.ensures c.in_ok-header_verdict.was (plain c.of-header.result) c.of-header.ensures _ c.record_size-at.ensures _ c.record_verdict.ensures c.in_ok-record_verdict.was) c.read_units.ensures

pub slice_bounds-of-start : goal.slice_bounds-of-start
slice_bounds-of-start c = omega (arith, header_room _ _ _ c.tells_two-two.ensures _ c.header_verdict.ensures c.in_ok-header_verdict.was)

pub slice_bounds-record_verdict-start : goal.slice_bounds-record_verdict-start
slice_bounds-record_verdict-start c = omega (arith, front_room _ _ _ c.tells_two-two.ensures _ c.header_verdict.ensures c.in_ok-header_verdict.was (plain c.of-header.result) c.of-header.ensures _ c.record_size-at.ensures)
