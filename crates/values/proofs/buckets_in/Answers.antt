-- `values::buckets_in` meets its contract: one, or what the header tells.
use mathlib.Core.Path.{sym, ◌∙◌, ap}
use Rattle.job.specs.Answers.{reading}
use Rattle.job.proofs.Answers.{answer_took, answer_refused}
use Rattle.values.proofs.Buckets.{none_read, two_read, one_read}
use Rattle.header.specs.Answers.{door_of}
use Rattle.values.proofs.buckets_in.Goals as goal

pub returns-in-Err : goal.returns-in-Err
unfolding door_of
returns-in-Err c = none_read _ _ (answer_refused _ _ (sym (ap reading c.in-Err.is) ∙ c.read.ensures))

pub returns-in-None : goal.returns-in-None
unfolding door_of
returns-in-None c = one_read _ _ _ (answer_took _ _ (sym (ap reading c.in-Ok.is) ∙ c.read.ensures)) c.in-None.is

pub returns-in-Some : goal.returns-in-Some
unfolding door_of
returns-in-Some c = two_read _ _ _ (answer_took _ _ (sym (ap reading c.in-Ok.is) ∙ c.read.ensures)) _ c.in-Some.is
