-- `trial::next_state` meets its contract: what wraps in the product wraps in the sum.
use Rattle.trials.specs.Draws.{next}
use Rattle.std.proofs.Common.{arith}
use Rattle.trial.proofs.next_state.Goals as goal

pub returns : goal.returns
unfolding next
returns c = omega arith
