-- `parts::bucket_step` meets its contract.
use Rattle.parts.proofs.Parts.{drained_same}
use Rattle.parts.specs.Answers.{drained}
use Rattle.model.specs.Step.{bucket_step}
use native.Mathlib.Omega.{arith}
use Rattle.parts.proofs.bucket_step.Goals as goal

pub returns-then-full-most : goal.returns-then-full-most
unfolding drained bucket_step
returns-then-full-most c = drained_same (omega arith) (omega arith)

pub returns : goal.returns
unfolding drained bucket_step
returns c = drained_same (omega arith) (omega arith)
