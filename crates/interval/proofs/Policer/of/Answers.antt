-- `interval::Policer::of` meets its contract.
use mathlib.Core.Path.{refl}
use Rattle.header.specs.Answers.{policed_of}
use Rattle.format.specs.JobBytes.{bucket_of}
use Rattle.interval.proofs.Policer.of.Goals as goal

pub returns : goal.returns
unfolding policed_of bucket_of
returns c = refl
