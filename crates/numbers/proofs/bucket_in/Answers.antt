-- `numbers::bucket_in` meets its contract.
use Rattle.header.specs.Answers.{policed_of}
use Rattle.numbers.specs.Parts.{bucket_at_lem}
use Rattle.numbers.proofs.bucket_in.Goals as goal

pub returns : goal.returns
unfolding policed_of bucket_at_lem
returns c = rw (c.field.ensures, c.field-2.ensures, c.field-3.ensures)
