-- `written::header_of` meets its contract.
use Rattle.format.specs.JobBytes.{header_of}
use Rattle.header.specs.Answers.{policed_of, plain}
use Rattle.written.proofs.Headers.{with_more}
use Rattle.written.proofs.header_of.Goals as goal

pub returns : goal.returns
unfolding plain policed_of header_of
returns c = with_more _ _ _ _ _ _ _ _ _ c.second_of.ensures
