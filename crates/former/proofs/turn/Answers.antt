-- `former::turn` meets its contract: what reading refuses is handed back, and the rest is `turn_read`.
use Rattle.header.proofs.Told.{handed}
use Rattle.former.proofs.Turning.{turn_refused}
use Rattle.former.specs.Answers.{turned}
use Rattle.format.proofs.Opened.{opens_by}
use Rattle.job.proofs.Answers.{answer_took, answer_refused}
use Rattle.header.specs.Answers.{door_of}
use Rattle.former.proofs.turn.Goals as goal

pub turn_read-requires : goal.turn_read-requires
unfolding door_of
turn_read-requires c =
    let d = answer_took _ _ c.in_ok-header.ensures in
    opens_by _ _ _ d.job _ d.is d.header_is

pub returns-in_err-header : goal.returns-in_err-header
unfolding turned door_of
returns-in_err-header c =
    rw (handed _ _ c.from_residual.ensures) (turn_refused _ _ _ _ (answer_refused _ _ c.in_err-header.ensures))
