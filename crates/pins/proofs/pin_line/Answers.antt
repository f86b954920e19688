-- `pins::pin_line` meets its contract: 7, 8 and 9 in this order, else the pin is set and the totals do not overflow.
use Rattle.pins.proofs.Totals.{room}
use Rattle.pins.proofs.Calls.{pin_seven, pin_eight, pin_nine, pin_taken, place_below}
use Rattle.pinset.specs.Answers.{set_of}
use Rattle.pins.specs.Answers.{handed}
use Rattle.pinning.specs.Calls.{take_in}
use Rattle.header.specs.Answers.{plain}
use mathlib.Core.Path.{sym, ◌∙◌}
use Rattle.pins.proofs.pin_line.Goals as goal

pub returns-then-outside : goal.returns-then-outside
unfolding plain
returns-then-outside c =
    c.refused.ensures ∙ pin_seven _ _ _ c.requires _ _ (sym c.outside.ensures ∙ c.if-outside.true)

pub returns-then-choices-choice : goal.returns-then-choices-choice
unfolding plain
returns-then-choices-choice c =
    c.refused-then-choices-choice.ensures ∙ pin_eight _ _ _ c.requires _ (sym c.outside.ensures ∙ c.if-outside.false) _ c.if-choices-choice.true

pub overflow_sub-at : goal.overflow_sub-at
unfolding plain
overflow_sub-at c =
    (place_below _ _ _ c.requires _ (sym c.outside.ensures ∙ c.if-outside.false)).0

pub bounds-set-at : goal.bounds-set-at
unfolding plain
bounds-set-at c =
    (place_below _ _ _ c.requires _ (sym c.outside.ensures ∙ c.if-outside.false)).1

pub returns-then-old : goal.returns-then-old
unfolding plain set_of
returns-then-old c =
    c.refused-then-old.ensures ∙ pin_nine _ _ _ c.requires _ (sym c.outside.ensures ∙ c.if-outside.false) _ c.if-choices-choice.false c.if-old.true

pub with_pin-requires : goal.with_pin-requires
unfolding plain
with_pin-requires c =
    (room _ _ _ c.requires _ (sym c.outside.ensures ∙ c.if-outside.false) _ c.if-choices-choice.false _ c.coding_at-coding.ensures)

pub returns : goal.returns
unfolding plain set_of handed take_in
returns c =
    let taken = pin_taken _ _ _ c.requires _ (sym c.outside.ensures ∙ c.if-outside.false) _ c.if-choices-choice.false c.if-old.false in
    rw (c.with_pin.ensures, c.coding_at-coding.ensures) taken
