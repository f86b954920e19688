-- The book of pins, computed for two units with two choices: what it answers, and the lines that it has then.
use mathlib.Core.Path.{◌≡◌, refl}
use mathlib.Core.Option.{none, some}
use mathlib.Core.List.{[], ◌∷◌}
use Rattle.model.specs.Pins.{no_pins, pin, lift, pins_after, answers}
use Rattle.model.specs.Evaluate.{evaluate}

-- a lift of a unit without a pin, units that there are not, the last with a choice that there is not, such a choice alone, a pin, and the same unit again
book_answers : answers 2 (no_pins 2) (lift 1 ∷ pin 0 0 ∷ pin 3 0 ∷ pin 3 2 ∷ pin 1 2 ∷ pin 1 1 ∷ pin 1 0 ∷ []) ≡ some 10 ∷ some 7 ∷ some 7 ∷ some 7 ∷ some 8 ∷ none ∷ some 9 ∷ []
unfolding evaluate
book_answers = refl

-- a refused pin changes no line, and a lift empties its own
book_lines : pins_after 2 (no_pins 2) (pin 1 0 ∷ pin 2 1 ∷ pin 2 0 ∷ lift 1 ∷ []) ≡ none ∷ some 1 ∷ []
unfolding evaluate
book_lines = refl
