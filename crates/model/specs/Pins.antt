-- The pins, as the book of document 01 keeps them: a line for each unit, with a choice or empty (document 01, "Pins").
use Rattle.std.specs.Prelude.{ℕ, zero, suc, ◌+◌, ◌-◌, Bool, true, List, [], ◌∷◌, leb, ltb, length, get_or, set, replicate, if◌then◌else◌}
use Rattle.std.proofs.Math.Option.{Option, none, some}
use Rattle.model.specs.Job.{Coding, Job, job_coding}

-- the book's lines
abbrev pub PinMap : Type 0
PinMap = List (Option ℕ)

unfoldable pub no_pins : ℕ → PinMap
no_pins units = replicate units none

-- the line of a unit, counted from 1
unfoldable pub mapped_pin : PinMap → ℕ → Option ℕ
mapped_pin m u = get_or m (u - 1) none

pub data Call : Type 0 where
  pin : ℕ → ℕ → Call
  lift : ℕ → Call

-- what the book answers a call, nothing or the number that refuses it, and the map after it
pub record Noted : Type 0 where
  pub refused : Option ℕ
  pub map : PinMap

-- a unit that is not in 1 to N
unfoldable pub outside : ℕ → ℕ → Bool
outside units u = if leb 1 u then ltb units u else true

unfoldable pub note_pin : PinMap → ℕ → ℕ → Option ℕ → Noted
note_pin m u c none = record { refused = none; map = set m (u - 1) (some c) }
note_pin m u c (some x) = record { refused = some 9; map = m }

unfoldable pub note_lift : PinMap → ℕ → Option ℕ → Noted
note_lift m u none = record { refused = some 10; map = m }
note_lift m u (some x) = record { refused = none; map = set m (u - 1) none }

-- one call of the book, with M choices
unfoldable pub note : ℕ → PinMap → Call → Noted
note choices m (pin u c) =
    if outside (length m) u then record { refused = some 7; map = m }
    else if leb choices c then record { refused = some 8; map = m }
    else note_pin m u c (mapped_pin m u)
note choices m (lift u) =
    if outside (length m) u then record { refused = some 7; map = m } else note_lift m u (mapped_pin m u)

-- the map after a list of calls, and each call's answer
unfoldable pub pins_after : ℕ → PinMap → List Call → PinMap
pins_after choices m [] = m
pins_after choices m (k ∷ ks) = pins_after choices (note choices m k).map ks

unfoldable pub answers : ℕ → PinMap → List Call → List (Option ℕ)
answers choices m [] = []
answers choices m (k ∷ ks) = (note choices m k).refused ∷ answers choices (note choices m k).map ks

-- a call as an editor makes it: by itself, or with so many words lent for a table that it brings up to date (document 02, E9)
pub data Click : Type 0 where
  plain : Call → Click
  sees : Call → ℕ → Click

-- what was lent is too short: a call that the book takes is refused by 11 then, and no line changes
unfoldable pub note_short : PinMap → Option ℕ → Noted
note_short m none = record { refused = some 11; map = m }
note_short m (some n) = record { refused = some n; map = m }

-- one click of the book, where a table has so many words
unfoldable pub note_click : ℕ → ℕ → PinMap → Click → Noted
note_click words choices m (plain k) = note choices m k
note_click words choices m (sees k n) = if leb words n then note choices m k else note_short m (note choices m k).refused

-- the map after a list of clicks, and each one's answer
unfoldable pub clicks_after : ℕ → ℕ → PinMap → List Click → PinMap
clicks_after words choices m [] = m
clicks_after words choices m (k ∷ ks) = clicks_after words choices (note_click words choices m k).map ks

unfoldable pub click_answers : ℕ → ℕ → PinMap → List Click → List (Option ℕ)
click_answers words choices m [] = []
click_answers words choices m (k ∷ ks) = (note_click words choices m k).refused ∷ click_answers words choices (note_click words choices m k).map ks

-- how many units are pinned, and the sums of the sizes and of the distortions that their pins give them
pub record PinTotals : Type 0 where
  pub count : ℕ
  pub size : ℕ
  pub distortion : ℕ

abbrev pub no_totals : PinTotals
no_totals = record { count = 0; size = 0; distortion = 0 }

-- one line more, of a unit with these codings
unfoldable pub with_line : (ℕ → Coding) → Option ℕ → PinTotals → PinTotals
with_line codings none s = s
with_line codings (some x) s = record {
  count = s.count + 1;
  size = s.size + (codings x).size;
  distortion = s.distortion + (codings x).distortion;
}

-- of the first n lines, where unit i + 1 has the codings in place i
unfoldable pub totals_to : (ℕ → ℕ → Coding) → PinMap → ℕ → PinTotals
totals_to codings m zero = no_totals
totals_to codings m (suc n) = with_line (codings n) (get_or m n none) (totals_to codings m n)

unfoldable pub pin_totals : Job → PinMap → PinTotals
pin_totals j m = totals_to (job_coding j) m (length j.units)

-- no pin, or the choice is the pinned one
pub data PinHeld : Option ℕ → Option ℕ → Type 0 where
  free : {c : Option ℕ} → PinHeld none c
  kept : {x : ℕ} → PinHeld (some x) (some x)

-- the pin that bears on interval t: that of unit t - d, none while t ≤ d
unfoldable pub pin_at : Job → PinMap → ℕ → Option ℕ
pin_at j m t = if leb t j.delay then none else mapped_pin m (t - j.delay)
