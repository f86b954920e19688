-- `fields::put32` meets its contract.
use mathlib.Core.Path.{◌∙◌}
use Rattle.fields.proofs.Setting.{four_written}
use Rattle.fields.proofs.put32.Goals as goal

pub returns : goal.returns
returns c = c.put.ensures ∙ rw (c.to_le_bytes.ensures, four_written c.args.value)
