-- `table::words_over` meets its contract.
use Rattle.header.specs.Answers.{plain}
use Rattle.table.specs.Answers.{words_over}
use Rattle.table.proofs.words_over.Goals as goal

pub returns : goal.returns
unfolding words_over plain
returns c = rw (c.intervals.ensures, c.words_each.ensures)
