-- `pins::lift` meets its contract: what the check refuses is handed back, and the rest is `lift_line`.
use Rattle.pinset.specs.Answers.{set_of}
use Rattle.pinset.proofs.Answering.{ready, ready_took}
use Rattle.pins.proofs.Answering.{call_refused, call_took}
use Rattle.job.proofs.Answers.{answer_took, answer_refused}
use mathlib.Core.Path.{◌∙◌}
use Rattle.header.specs.Answers.{door_of}
use Rattle.pins.proofs.lift.Goals as goal

pub lift_line-requires : goal.lift_line-requires
unfolding set_of door_of
lift_line-requires c =
    ready _ _ _ _ _ (answer_took _ c.in-Ok.reading c.in-Ok.ensures.answer) c.in-Ok.ensures.sized

pub returns-in-Err : goal.returns-in-Err
unfolding door_of
returns-in-Err c =
    c.refused.ensures ∙ call_refused _ _ _ _ (answer_refused _ _ c.in-Err.ensures.answer)

pub returns-in-Ok : goal.returns-in-Ok
unfolding set_of door_of
returns-in-Ok c =
    c.lift_line.ensures ∙ call_took _ _ _ _ _ (ready_took _ _ _ _ _ (answer_took _ c.in-Ok.reading c.in-Ok.ensures.answer) c.in-Ok.ensures.sized)
