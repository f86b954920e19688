-- `header::rate_at` meets its contract: the rate's place is computed as the definition computes it.
use native.Mathlib.Omega.{arith}
use Rattle.format.specs.Places.{rate_place, rate_at}
use Rattle.header.proofs.Fields.{small_size}
use Rattle.header.proofs.rate_at.Goals as goal

pub overflow_add-at-2 : goal.overflow_add-at-2
overflow_add-at-2 c = omega (arith, small_size _ _ c.record_size-front.ensures)

pub returns : goal.returns
unfolding rate_at rate_place
returns c = rw (← c.record_size-front.ensures) c.field16.ensures
