-- `course::pin_in` meets its contract: no pin up to the delay, after it the one in the set.
use Rattle.course.specs.Answers.{no_pin, pinned}
use Rattle.header.specs.Answers.{plain}
use mathlib.Core.Path.{refl}
use Rattle.course.proofs.pin_in.Goals as goal

pub returns-then-place-delay : goal.returns-then-place-delay
unfolding plain
returns-then-place-delay c = no_pin c.if-place-delay.true refl

pub returns : goal.returns
unfolding plain
returns c = pinned c.if-place-delay.false refl
