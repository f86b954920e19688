-- `pinset::with_line` meets its contract: a unit without a pin adds nothing, a pinned one its coding.
use Rattle.pinset.proofs.Sums.{added_none, added_pin}
use borrow.Author.Rules.{rules}
use Rattle.pinset.proofs.with_line.Goals as goal

pub returns-then-pin-eq-NO_PIN : goal.returns-then-pin-eq-NO_PIN
returns-then-pin-eq-NO_PIN c = added_none _ _ _ _ _ c.if-pin-eq-NO_PIN.true

pub returns : goal.returns
returns c =
    added_pin _ _ _ _ _ c.if-pin-eq-NO_PIN.false c.coding_at-coding.result c.coding_at-coding.ensures (search rules) (search rules)
