-- `pins::no_header` meets its contract: zeros, and one bucket.
use Rattle.base.specs.If.{one_if}
use Rattle.header.specs.Answers.{policed_of, plain}
use mathlib.Core.Path.{refl}
use Rattle.pins.proofs.no_header.Goals as goal

pub returns : goal.returns
unfolding plain policed_of one_if
returns c = refl
