-- `planner::plan` meets its contract.
use Rattle.header.proofs.Told.{handed_as}
use Rattle.planner.proofs.Answering.{starts_inside, plan_from_start, plan_refused, plan_took}
use Rattle.planner.specs.Answers.{answered, planned}
use Rattle.pinset.specs.Answers.{set_of}
use Rattle.pinset.proofs.Answering.{ready, ready_took}
use Rattle.job.proofs.Answers.{answer_took, answer_refused}
use mathlib.Core.Path.{◌∙◌}
use Rattle.header.specs.Answers.{door_of}
use Rattle.planner.proofs.plan.Goals as goal

pub plan_checked-requires : goal.plan_checked-requires
unfolding set_of door_of
plan_checked-requires c =
    let check = c.check in
    let r = ready _ _ _ _ _ (answer_took _ _ c.in_ok-header.ensures.answer) check.ensures.sized in
    (r, starts_inside _ _ _ r _ c.start-start.ensures)

pub returns-in_err-header : goal.returns-in_err-header
unfolding planned door_of
returns-in_err-header c = handed_as (λ x. planned x c.args.table.now c.args.entries.now) _ _ c.from_residual.ensures (let check = c.check in
    plan_refused _ _ _ _ _ _ _ (answer_refused _ _ c.in_err-header.ensures.answer))

pub returns : goal.returns
unfolding set_of door_of
returns c =
    let check = c.check in
    let took = answer_took _ _ c.in_ok-header.ensures.answer in
    c.plan_checked.ensures ∙ plan_from_start _ _ _ (ready _ _ _ _ _ took check.ensures.sized) _ c.start-start.ensures _ _ _ _ ∙ plan_took _ _ _ _ _ _ _ _ (ready_took _ _ _ _ _ took check.ensures.sized)
