-- `numbers::header_in` meets its contract.
use Rattle.header.specs.Answers.{plain}
use Rattle.numbers.proofs.Telling.{header_read}
use Rattle.numbers.proofs.header_in.Goals as goal

pub returns : goal.returns
unfolding plain
returns c =
    header_read c.args.list.now c.requires _ _ c.field.ensures c.field-2.ensures c.field-3.ensures c.field-4.ensures c.bucket_in.ensures c.second_in.ensures c.field-5.ensures c.field-6.ensures
