-- `written::fields_fit` meets its contract.
use borrow.Author.Tests.{ne_eqb}
use Rattle.exporting.specs.Exports.{header_fields}
use Rattle.written.proofs.fields_fit.Goals as goal

pub returns-then-count-eq-TWO_FIELDS : goal.returns-then-count-eq-TWO_FIELDS
unfolding header_fields
returns-then-count-eq-TWO_FIELDS c = rw c.if-count-eq-TWO_FIELDS.true

pub returns-else-count-eq-TWO_FIELDS : goal.returns-else-count-eq-TWO_FIELDS
unfolding header_fields
returns-else-count-eq-TWO_FIELDS c = rw (ne_eqb c.args.count 12 c.if-count-eq-TWO_FIELDS.false)
