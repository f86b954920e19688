-- `enlarge::least_totals` meets its contract.
use Rattle.header.proofs.Told.{handed_as}
use Rattle.enlarge.proofs.Answering.{sizes_refused, sizes_took}
use Rattle.enlarge.specs.Answers.{listed}
use Rattle.pinset.specs.Answers.{set_of}
use Rattle.pinset.proofs.Answering.{ready, ready_took}
use Rattle.job.proofs.Answers.{answer_took, answer_refused}
use mathlib.Core.Path.{◌∙◌}
use Rattle.header.specs.Answers.{door_of}
use Rattle.enlarge.proofs.least_totals.Goals as goal

pub list_checked-requires : goal.list_checked-requires
unfolding set_of door_of
list_checked-requires c =
    let check = c.check in
    ready _ _ _ _ _ (answer_took _ _ c.in_ok-header.ensures.answer) check.ensures.sized

pub returns-in_err-header : goal.returns-in_err-header
unfolding listed door_of
returns-in_err-header c = handed_as (λ x. listed x c.args.table.now c.args.totals.now) _ _ c.from_residual.ensures (let check = c.check in
    sizes_refused _ _ _ _ _ (answer_refused _ _ c.in_err-header.ensures.answer))

pub returns : goal.returns
unfolding set_of door_of
returns c =
    let check = c.check in
    c.list_checked.ensures ∙ sizes_took _ _ _ _ _ _ (ready_took _ _ _ _ _ (answer_took _ _ c.in_ok-header.ensures.answer) check.ensures.sized)
