-- `change::change` meets its contract.
use Rattle.header.proofs.Told.{handed_as}
use Rattle.change.proofs.Over.{change_refused, change_took}
use Rattle.pinset.specs.Answers.{set_of}
use Rattle.pinset.proofs.Answering.{ready, ready_took}
use Rattle.job.proofs.Answers.{answer_took, answer_refused}
use Rattle.header.specs.Answers.{door_of}
use Rattle.planner.specs.Answers.{planned}
use mathlib.Core.Path.{◌∙◌}
use Rattle.change.proofs.change.Goals as goal

pub change_checked-requires : goal.change_checked-requires
unfolding set_of door_of
change_checked-requires c =
    let check = c.check in
    ready _ _ _ _ _ (answer_took _ _ c.in_ok-header.ensures.answer) check.ensures.sized

pub returns-in_err-header : goal.returns-in_err-header
unfolding door_of
returns-in_err-header c = handed_as (λ x. planned x c.args.table.now c.args.entries.now) _ _ c.from_residual.ensures (let check = c.check in
    change_refused _ _ _ _ _ _ _ _ _ (answer_refused _ _ c.in_err-header.ensures.answer))

pub returns : goal.returns
unfolding set_of door_of
returns c =
    let check = c.check in
    c.change_checked.ensures ∙ change_took _ _ _ _ _ _ _ _ _ (ready_took _ _ _ _ _ (answer_took _ _ c.in_ok-header.ensures.answer) check.ensures.sized)
