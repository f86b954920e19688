-- `fields::field32` meets its contract.
use mathlib.Core.Path.{◌∙◌}
use borrow.Author.Rules.{rules}
use Rattle.fields.proofs.Setting.{four_read}
use Rattle.fields.proofs.field32.Goals as goal

pub returns : goal.returns
returns c = c.from_le_bytes.ensures ∙ four_read c.field.result (search rules) ∙ c.field.ensures
