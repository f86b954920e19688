-- `former::widened` meets its contract.
use Rattle.former.proofs.Turning.{mark_widened, choice_widened}
use Rattle.former.proofs.widened.Goals as goal

pub returns-then-choice-eq-MARK : goal.returns-then-choice-eq-MARK
returns-then-choice-eq-MARK c = mark_widened _ c.if-choice-eq-MARK.true

pub returns : goal.returns
returns c = choice_widened _ c.if-choice-eq-MARK.false
