-- `table::candidate_at` meets its contract.
use Rattle.table.proofs.Candidates.{nothing_read, coding_read}
use Rattle.table.proofs.candidate_at.Goals as goal

pub returns-then-choices-eq0 : goal.returns-then-choices-eq0
returns-then-choices-eq0 c = nothing_read _ _ _ _ c.if-choices-eq0.true

pub returns : goal.returns
returns c =
    coding_read _ _ _ _ c.requires.0 c.requires.1 c.if-choices-eq0.false _ _ _ c.pin_holds-held.ensures c.keeps_to.ensures c.coding_at-coding.ensures
