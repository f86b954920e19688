-- `filled::turn` meets its contract.
use native.Mathlib.Omega.{arith}
use Rattle.filled.proofs.Answering.{ended_told}
use Rattle.former.specs.Answers.{turned}
use Rattle.filled.proofs.turn.Goals as goal

pub returns : goal.returns
unfolding turned
returns c = grind (arith, ended_told _ _ _ c.turn.ensures)
