-- `numbers::kind_of` meets its contract.
use Rattle.format.specs.JobBytes.{header_kind}
use Rattle.header.specs.Answers.{plain}
use Rattle.numbers.proofs.kind_of.Goals as goal

pub returns-in-None : goal.returns-in-None
unfolding plain header_kind
returns-in-None c = rw c.in-None.is

pub returns-in-Some : goal.returns-in-Some
unfolding plain header_kind
returns-in-Some c = rw c.in-Some.is
