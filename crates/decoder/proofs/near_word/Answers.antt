-- `decoder::near_word` meets its contract.
use borrow.Author.Tests.{le-leb, lt-leb}
use Rattle.model.specs.Table.{bound}
use Rattle.decoder.specs.Near.{near}
use Rattle.decoder.proofs.near_word.Goals as goal

pub returns-then-word-le-LARGEST : goal.returns-then-word-le-LARGEST
unfolding near
returns-then-word-le-LARGEST c = rw (le-leb _ bound c.if-word-le-LARGEST.true)

pub returns-else-word-le-LARGEST : goal.returns-else-word-le-LARGEST
unfolding near
returns-else-word-le-LARGEST c = rw (lt-leb _ bound c.if-word-le-LARGEST.false)
