-- `records::put_nine` meets its contract: the numbers are the head and the nine fields in their order.
use Rattle.format.specs.JobBytes.{nine_values}
use Rattle.header.specs.Answers.{policed_of, plain}
use Rattle.records.proofs.put_nine.Goals as goal

pub returns : goal.returns
unfolding plain policed_of nine_values
returns c = c.put_numbers.ensures
