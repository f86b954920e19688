-- `replay::replay` meets its contract: what the check refuses is handed back, and the rest is `replay_checked`.
use Rattle.header.proofs.Told.{handed}
use Rattle.replay.proofs.Answering.{replay_refused}
use Rattle.replay.specs.Answers.{ended}
use Rattle.pinset.specs.Answers.{set_of}
use Rattle.pinset.proofs.Answering.{ready}
use Rattle.job.proofs.Answers.{answer_took, answer_refused}
use Rattle.header.specs.Answers.{door_of}
use Rattle.replay.proofs.replay.Goals as goal

pub replay_checked-requires : goal.replay_checked-requires
unfolding set_of door_of
replay_checked-requires c =
    let check = c.check in
    ready _ _ _ _ _ (answer_took _ _ c.in_ok-header.ensures.answer) check.ensures.sized

pub returns-in_err-header : goal.returns-in_err-header
unfolding ended door_of
returns-in_err-header c =
    rw (handed _ _ c.from_residual.ensures) (replay_refused _ _ _ _ _ (answer_refused _ _ c.in_err-header.ensures.answer))
