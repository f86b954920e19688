-- `line::charged` meets its contract.
use Rattle.trellis.specs.Table.{charge}
use Rattle.model.specs.Table.{bound}
use Rattle.planning.specs.Passes.{charged}
use borrow.Author.Tests.{le-leb, lt-leb}
use Rattle.line.proofs.charged.Goals as goal

pub returns-then-word-le-LARGEST : goal.returns-then-word-le-LARGEST
unfolding charged charge
returns-then-word-le-LARGEST c = rw (le-leb _ bound c.if-word-le-LARGEST.true)

pub returns-else-word-le-LARGEST : goal.returns-else-word-le-LARGEST
unfolding charged charge
returns-else-word-le-LARGEST c = rw (lt-leb _ bound c.if-word-le-LARGEST.false)
