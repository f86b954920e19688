-- `fields::put16` meets its contract.
use mathlib.Core.Path.{◌∙◌}
use Rattle.fields.proofs.Setting.{two_written}
use Rattle.fields.proofs.put16.Goals as goal

pub returns : goal.returns
returns c = c.put.ensures ∙ rw (c.to_le_bytes.ensures, two_written c.args.value)
