-- `table::choices_in` meets its contract.
use Rattle.header.specs.Answers.{plain}
use Rattle.table.specs.Answers.{waits, decodes}
use mathlib.Core.Path.{refl}
use Rattle.table.proofs.choices_in.Goals as goal

pub returns-then-place-delay : goal.returns-then-place-delay
unfolding plain
returns-then-place-delay c = waits c.if-place-delay.true refl refl

pub returns : goal.returns
unfolding plain
returns c = decodes c.if-place-delay.false refl refl refl refl
