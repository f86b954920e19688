-- `job::plain_verdict` meets its contract: that of the record with such fields.
use Rattle.job.specs.Answers.{form_of}
use Rattle.job.proofs.plain_verdict.Goals as goal

pub returns : goal.returns
unfolding form_of
returns c = c.record_verdict.ensures
