-- `pins::lift_line` meets its contract: 7, then 10, else the pin is lifted and the totals have it.
use Rattle.pins.proofs.Totals.{held}
use Rattle.pins.proofs.Calls.{lift_seven, lift_ten, lift_taken, place_below, pinned_below}
use Rattle.pinset.specs.Answers.{set_of}
use Rattle.pins.specs.Answers.{handed}
use Rattle.pinning.specs.Calls.{take_in}
use Rattle.header.specs.Answers.{plain}
use mathlib.Core.Path.{refl, sym, ◌∙◌}
use Rattle.pins.proofs.lift_line.Goals as goal

pub returns-then-outside : goal.returns-then-outside
unfolding plain
returns-then-outside c =
    c.refused.ensures ∙ lift_seven _ _ _ c.requires _ (sym c.outside.ensures ∙ c.if-outside.true)

pub overflow_sub-at : goal.overflow_sub-at
unfolding plain
overflow_sub-at c =
    (place_below _ _ _ c.requires _ (sym c.outside.ensures ∙ c.if-outside.false)).0

pub bounds-set-at : goal.bounds-set-at
unfolding plain
bounds-set-at c =
    (place_below _ _ _ c.requires _ (sym c.outside.ensures ∙ c.if-outside.false)).1

pub returns-then-old : goal.returns-then-old
unfolding plain set_of
returns-then-old c =
    c.refused-then-old.ensures ∙ lift_ten _ _ _ c.requires _ (sym c.outside.ensures ∙ c.if-outside.false) c.if-old.true

pub without_pin-requires : goal.without_pin-requires
unfolding plain set_of
without_pin-requires c =
    let below = pinned_below _ _ _ c.requires _ (sym c.outside.ensures ∙ c.if-outside.false) c.if-old.false in
    (held _ _ _ c.requires _ (sym c.outside.ensures ∙ c.if-outside.false) _ below _ c.coding_at-coding.ensures refl c.if-old.false)

pub returns : goal.returns
unfolding plain set_of handed take_in
returns c =
    let taken = lift_taken _ _ _ c.requires _ (sym c.outside.ensures ∙ c.if-outside.false) c.if-old.false in
    rw (c.without_pin.ensures, c.coding_at-coding.ensures) taken
