-- `draft::job_size` meets its contract.
use Rattle.draft.proofs.Refusing.{sum_fits}
use Rattle.header.specs.Answers.{plain}
use Rattle.header.proofs.Fields.{small_size}
use native.Mathlib.Omega.{arith}
use Rattle.draft.proofs.job_size.Goals as goal

pub overflow_add-result-2 : goal.overflow_add-result-2
overflow_add-result-2 c = omega (arith, small_size _ _ c.record_size-front.ensures)

pub overflow_add-result-3 : goal.overflow_add-result-3
overflow_add-result-3 c = sum_fits _ _ _ (omega (arith, small_size _ _ c.record_size-front.ensures)) (omega arith) (omega arith)

pub returns : goal.returns
unfolding plain
returns c = omega (arith, c.record_size-front.ensures)
