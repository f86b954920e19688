-- `pins::open` meets its contract: the set of no job beside a refusal, else a fresh set of the job that was read.
use Rattle.pins.proofs.Answering.{open_refused, open_took}
use Rattle.pinning.specs.PinSet.{fresh}
use Rattle.job.proofs.Answers.{answer_took, answer_refused}
use mathlib.Core.Path.{◌∙◌, ap}
use Rattle.pins.proofs.open.Goals as goal

pub returns-in-Err : goal.returns-in-Err
returns-in-Err c =
    open_refused _ _ _ _ (answer_refused _ _ c.in-Err.ensures) (c.fresh.ensures ∙ ap fresh c.no_header.ensures)

pub returns-in-Ok : goal.returns-in-Ok
returns-in-Ok c =
    open_took _ _ _ _ _ (answer_took _ c.in-Ok.reading c.in-Ok.ensures) c.fresh-in-Ok.ensures
