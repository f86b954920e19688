-- `report::effective_buffers` meets its contract: what reading refuses is handed back, and the rest is `report_read`.
use Rattle.header.proofs.Told.{handed}
use Rattle.report.proofs.Answering.{report_refused}
use Rattle.report.specs.Answers.{reported}
use Rattle.format.proofs.Opened.{opens_by}
use Rattle.job.proofs.Answers.{answer_took, answer_refused}
use Rattle.header.specs.Answers.{door_of}
use Rattle.report.proofs.effective_buffers.Goals as goal

pub report_read-requires : goal.report_read-requires
unfolding door_of
report_read-requires c =
    let d = answer_took _ _ c.in_ok-header.ensures in
    opens_by _ _ _ d.job _ d.is d.header_is

pub returns-in_err-header : goal.returns-in_err-header
unfolding reported door_of
returns-in_err-header c =
    rw (handed _ _ c.from_residual.ensures) (report_refused _ _ _ _ (answer_refused _ _ c.in_err-header.ensures))
