-- `reader::field_count` meets its contract.
use Rattle.reader.proofs.Fields.{two_fields, one_fields}
use Rattle.reader.proofs.field_count.Goals as goal

pub returns-in-None : goal.returns-in-None
returns-in-None c = one_fields _ c.in-None.is

pub returns-in-Some : goal.returns-in-Some
returns-in-Some c = two_fields _ _ c.in-Some.is
