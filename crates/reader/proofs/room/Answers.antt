-- `reader::room` meets its contract.
use Rattle.header.specs.Answers.{plain}
use Rattle.reader.specs.Answers.{roomy}
use Rattle.reader.proofs.room.Goals as goal

pub returns : goal.returns
unfolding roomy plain
returns c = rw (c.coding_count-codings.ensures, c.field_count.ensures)
