-- `contract::Contract::bucket_at` meets its contract: the two numbers of its place, and no level.
use mathlib.Core.Path.{refl}
use Rattle.header.specs.Answers.{policed_of}
use Rattle.contract.proofs.Contract.bucket_at.Goals as goal

pub returns : goal.returns
unfolding policed_of
returns c = refl
