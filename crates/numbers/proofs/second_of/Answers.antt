-- `numbers::second_of` meets its contract.
use Rattle.header.specs.Answers.{policed_of, plain}
use Rattle.numbers.proofs.second_of.Goals as goal

pub returns-in-None : goal.returns-in-None
unfolding plain policed_of
returns-in-None c = rw c.in-None.is

pub returns-in-Some : goal.returns-in-Some
unfolding plain policed_of
returns-in-Some c = rw c.in-Some.is
