-- `header::coding_at` meets its contract: the place that it computes is the definition's.
use native.Mathlib.Omega.{arith}
use Rattle.format.specs.Places.{coding_place}
use Rattle.header.specs.Answers.{plain, coding_of}
use Rattle.header.proofs.Fields.{coding_made, small_size}
use Rattle.header.proofs.coding_at.Goals as goal

pub overflow_add-first-2 : goal.overflow_add-first-2
overflow_add-first-2 c = omega (arith, small_size _ _ c.record_size-front.ensures)

pub overflow_add-start : goal.overflow_add-start
overflow_add-start c = omega (arith, small_size _ _ c.record_size-front.ensures)

pub overflow_add-at : goal.overflow_add-at
overflow_add-at c = omega (arith, small_size _ _ c.record_size-front.ensures)

pub overflow_add-at-2 : goal.overflow_add-at-2
overflow_add-at-2 c = omega (arith, small_size _ _ c.record_size-front.ensures)

pub overflow_add-next : goal.overflow_add-next
overflow_add-next c = omega (arith, small_size _ _ c.record_size-front.ensures)

pub returns : goal.returns
unfolding coding_of coding_place
returns c = coding_made _ _ _ _ _ (rw (← c.record_size-front.ensures) (unfold plain in (omega arith))) c.field16.ensures c.field32.ensures
