-- `table::keeps_to` meets its contract.
use Rattle.trellis.specs.Limit.{keeps_to}
use Rattle.table.specs.Answers.{limit_of}
use Rattle.table.proofs.keeps_to.Goals as goal

pub returns-in-None : goal.returns-in-None
unfolding keeps_to
returns-in-None c = rw c.in-None.is

pub returns-in-Some : goal.returns-in-Some
unfolding keeps_to
returns-in-Some c = rw c.in-Some.is
