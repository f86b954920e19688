-- `interval::with_interval` meets its contract.
use mathlib.Core.Path.{refl, ap}
use mathlib.Core.List.{zip_with}
use native.Mathlib.Omega.{arith}
use Rattle.model.specs.Step.{Drained, bucket_step}
use Rattle.model.proofs.Sums.{totals_same}
use Rattle.parts.specs.Answers.{drained}
use Rattle.interval.specs.Answers.{totals_of, added, line_of, levels_of}
use Rattle.interval.proofs.Steps.{second_unused, second_room}
use Rattle.std.proofs.Common.{rules}
use Rattle.interval.proofs.with_interval.Goals as goal

pub overflow_add-result-4 : goal.overflow_add-result-4
unfolding drained bucket_step totals_of
overflow_add-result-4 c = omega (arith, ap (λ (x : Drained). x.unused) c.bucket_step-bucket.ensures, c.requires.unused 0, c.well_formed.1.0)

pub more_unused-requires : goal.more_unused-requires
unfolding totals_of
more_unused-requires c = second_room c.args.sum.unused _ _ _ _ _ c.second_step-second.ensures (c.requires.unused 1) (λ p e. search rules)

pub returns : goal.returns
unfolding totals_of added drained line_of levels_of zip_with
returns c = totals_same refl refl refl (rw (ap (λ (x : Drained). x.unused) c.bucket_step-bucket.ensures, second_unused _ _ _ _ _ _ c.second_step-second.ensures c.more_unused.ensures) refl)
