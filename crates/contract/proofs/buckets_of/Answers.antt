-- `contract::buckets_of` meets its contract: two where there is a second.
use Rattle.header.specs.Answers.{extra}
use Rattle.contract.proofs.buckets_of.Goals as goal

pub returns-then-two : goal.returns-then-two
unfolding extra
returns-then-two c = rw c.if-two.true

pub returns : goal.returns
unfolding extra
returns c = rw c.if-two.false
