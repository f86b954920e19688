-- `viewer::pin_and_see` meets its contract.
use mathlib.Core.Path.{◌≡◌}
use lib.ListN.{length}
use Rattle.pinset.specs.Answers.{set_of}
use Rattle.pins.specs.Answers.{handed}
use Rattle.viewer.proofs.Answering.{room_told, told, not_seen}
use borrow.Author.Rules.{rules}
use Rattle.viewer.proofs.pin_and_see.Goals as goal

pub returns-then-values-lt-SEE_VALUES : goal.returns-then-values-lt-SEE_VALUES
unfolding set_of handed
returns-then-values-lt-SEE_VALUES c =
    -- both sets have 512 pins
    let n : (length c.set_in-own.result.pins ≡ 512) × (length c.pin.result.set.pins ≡ 512) = (search rules, search rules) in
    rw c.unseen.ensures (not_seen _ _ _ _ c.set_in-own.ensures _ _ _ c.pin.ensures n.0 n.1 c.if-values-lt-SEE_VALUES.true)

pub tell-requires : goal.tell-requires
tell-requires c = room_told _ _ _ _ c.set_in-own.ensures _ c.args.values.now _ _ c.pin_and_see-sight.ensures c.if-values-lt-SEE_VALUES.false

pub returns : goal.returns
returns c = told _ _ _ _ c.set_in-own.ensures _ _ _ _ c.pin_and_see-sight.ensures c.if-values-lt-SEE_VALUES.false _ (c.tell.ensures _)
