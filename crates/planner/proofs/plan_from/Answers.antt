-- `planner::plan_from` meets its contract.
use Rattle.header.proofs.Told.{handed_as}
use Rattle.planner.proofs.Answering.{levels_refused, levels_took}
use Rattle.planner.specs.Answers.{answered, planned}
use Rattle.pinset.specs.Answers.{set_of}
use Rattle.pinset.proofs.Answering.{ready, ready_took}
use Rattle.job.proofs.Answers.{answer_took, answer_refused}
use mathlib.Core.Path.{◌∙◌}
use Rattle.header.specs.Answers.{door_of}
use Rattle.planner.proofs.plan_from.Goals as goal

pub plan_with-requires : goal.plan_with-requires
unfolding set_of door_of
plan_with-requires c =
    let check = c.check in
    ready _ _ _ _ _ (answer_took _ _ c.in_ok-header.ensures.answer) check.ensures.sized

pub returns-in_err-header : goal.returns-in_err-header
unfolding planned door_of
returns-in_err-header c = handed_as (λ x. planned x c.args.table.now c.args.entries.now) _ _ c.from_residual.ensures (let check = c.check in
    levels_refused _ _ _ _ _ _ _ _ (answer_refused _ _ c.in_err-header.ensures.answer))

pub returns : goal.returns
unfolding set_of door_of
returns c =
    let check = c.check in
    c.plan_with.ensures ∙ levels_took _ _ _ _ _ _ _ _ _ (ready_took _ _ _ _ _ (answer_took _ _ c.in_ok-header.ensures.answer) check.ensures.sized)
