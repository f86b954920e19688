-- `best::choice_number` meets its contract.
use Rattle.best.specs.Answers.{chosen}
use Rattle.header.specs.Answers.{plain}
use Rattle.format.proofs.Choices.{of_mark, of_choice}
use borrow.Author.Tests.{lt-ltb, le-ltb}
use native.Mathlib.Omega.{arith}
use Rattle.best.proofs.choice_number.Goals as goal

pub returns-then-place-header : goal.returns-then-place-header
unfolding plain chosen
returns-then-place-header c = rw (lt-ltb _ _ c.if-place-header.true) of_mark

pub returns : goal.returns
unfolding plain chosen
returns c = rw (le-ltb _ _ c.if-place-header.false) (of_choice _ (λ e. omega arith))
