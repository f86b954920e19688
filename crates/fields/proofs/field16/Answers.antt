-- `fields::field16` meets its contract.
use mathlib.Core.Path.{◌∙◌}
use borrow.Author.Rules.{rules}
use Rattle.fields.proofs.Setting.{two_read}
use Rattle.fields.proofs.field16.Goals as goal

pub returns : goal.returns
returns c = c.from_le_bytes.ensures ∙ two_read c.field.result (search rules) ∙ c.field.ensures
