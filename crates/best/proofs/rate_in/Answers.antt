-- `best::rate_in` meets its contract.
use Rattle.best.specs.Answers.{order_is}
use Rattle.model.specs.Best.{turn}
use native.Mathlib.Omega.{arith}
use Rattle.best.proofs.rate_in.Goals as goal

pub returns-in-Late : goal.returns-in-Late
unfolding order_is turn
returns-in-Late c = rw c.in-Late.is

pub returns-in-Early : goal.returns-in-Early
unfolding order_is turn
returns-in-Early c = rw c.in-Early.is (omega arith)
