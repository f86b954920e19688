-- `planner::levels_fit` meets its contract: the first bucket's level, then the second's, where there is one of both.
use mathlib.Core.Path.{refl}
use mathlib.Core.List.{[], ◌∷◌}
use native.Mathlib.Omega.{arith}
use Rattle.starting.specs.Calls.{levels_fit}
use Rattle.planner.proofs.Answering.{not_fitting, fitting_two, fitting_one, fitting_other}
use Rattle.planner.specs.Answers.{levels_of_buckets}
use Rattle.header.specs.Answers.{plain, policed_of}
use Rattle.planner.proofs.levels_fit.Goals as goal

pub returns-then-levels-header : goal.returns-then-levels-header
unfolding plain policed_of levels_of_buckets
returns-then-levels-header c = not_fitting _ _ _ _ c.if-levels-header.true

pub returns-in-None-None : goal.returns-in-None-None
unfolding plain policed_of levels_of_buckets
returns-in-None-None c = rw (c.in-None-None.is-0, c.in-None-None.is-1) (fitting_one _ _ (omega (arith, c.if-levels-header.false)))

pub returns-in-Some-Some : goal.returns-in-Some-Some
unfolding plain policed_of levels_of_buckets
returns-in-Some-Some c = rw (c.in-Some-Some.is-0, c.in-Some-Some.is-1) (fitting_two _ _ _ _ (omega (arith, c.if-levels-header.false)))

pub returns-in_default : goal.returns-in_default
unfolding plain policed_of levels_of_buckets levels_fit
returns-in_default c = let a = c.args in rw (c.in_default.is-0, c.in_default.is-1) (fitting_other a.header.first.size a.levels.bucket [] (c.in_default.field-0-1 ∷ []) (omega (arith, c.if-levels-header.false)) refl)

pub returns-in_default-2 : goal.returns-in_default-2
unfolding plain policed_of levels_of_buckets levels_fit
returns-in_default-2 c = let a = c.args in rw (c.in_default.is-0, c.in_default.is-1) (fitting_other a.header.first.size a.levels.bucket (c.in_default.field-0-0.size ∷ []) [] (omega (arith, c.if-levels-header.false)) refl)
