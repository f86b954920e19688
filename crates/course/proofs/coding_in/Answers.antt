-- `course::coding_in` meets its contract: nothing up to the delay, after it the coding as it stands in the bytes.
use Rattle.course.specs.Answers.{no_coding, coded}
use Rattle.header.specs.Answers.{plain, coding_of}
use mathlib.Core.Path.{refl}
use Rattle.course.proofs.coding_in.Goals as goal

pub returns-then-place-delay : goal.returns-then-place-delay
unfolding plain coding_of
returns-then-place-delay c = no_coding c.if-place-delay.true refl

pub returns : goal.returns
unfolding plain
returns c = coded c.if-place-delay.false c.coding_at.ensures
