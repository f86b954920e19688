-- `job::header_record` meets its contract.
use Rattle.header.specs.Answers.{extra}
use Rattle.job.specs.Answers.{form_of}
use Rattle.job.proofs.header_record.Goals as goal

pub returns-then-two : goal.returns-then-two
unfolding extra form_of
returns-then-two c = rw c.if-two.true c.record_verdict.ensures

pub returns-else-two : goal.returns-else-two
unfolding extra form_of
returns-else-two c = rw c.if-two.false c.record_verdict-else-two.ensures
