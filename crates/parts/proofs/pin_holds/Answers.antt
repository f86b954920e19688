-- `parts::pin_holds` meets its contract.
use Rattle.parts.proofs.Parts.{no_pin_holds, pin_holds_by}
use Rattle.parts.proofs.pin_holds.Goals as goal

pub returns-then-pin-eq-NO_CHOICE : goal.returns-then-pin-eq-NO_CHOICE
returns-then-pin-eq-NO_CHOICE c = no_pin_holds _ _ c.if-pin-eq-NO_CHOICE.true

pub returns : goal.returns
returns c = pin_holds_by _ _ c.if-pin-eq-NO_CHOICE.false
