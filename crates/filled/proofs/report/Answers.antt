-- `filled::report` meets its contract.
use native.Mathlib.Omega.{arith}
use Rattle.filled.proofs.Answering.{ended_told}
use Rattle.report.specs.Answers.{reported}
use Rattle.filled.proofs.report.Goals as goal

pub returns : goal.returns
unfolding reported
returns c = grind (arith, ended_told _ _ _ c.effective_buffers.ensures)
