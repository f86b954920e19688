-- A set of pins as plain numbers in a list, as an editor's tool keeps it between calls (document 02, E9): the kind of the header, its twelve fields, 512 pins, three totals.
use Rattle.std.specs.Prelude.{ℕ, ◌+◌, ◌-◌, Bool, true, false, ◌&&◌, List, [], ◌∷◌, ◌++◌, leb, ltb, eqb, length, get_or, take, drop, replicate, if◌then◌else◌}
use Rattle.base.specs.All.{all_below}
use Rattle.model.specs.Pins.{PinTotals}
use Rattle.format.specs.JobBytes.{header_kind, header_values, header_of, no_header}
use Rattle.pinning.specs.PinSet.{PinSet, fresh}

-- how many numbers a set has, and where its parts begin
abbrev pub set_size : ℕ
set_size = 528

abbrev pub pins_place : ℕ
pins_place = 13

abbrev pub totals_place : ℕ
totals_place = 525

-- the fields of either header as twelve numbers: those of a second bucket are 0 where there is none
unfoldable pub twelve : List ℕ → List ℕ
twelve fields = take 12 (fields ++ replicate 3 0)

unfoldable pub total_numbers : PinTotals → List ℕ
total_numbers t = t.count ∷ t.size ∷ t.distortion ∷ []

unfoldable pub set_numbers : PinSet → List ℕ
set_numbers s = header_kind (length s.header.buckets - 1) ∷ twelve (header_values s.header) ++ (s.pins ++ total_numbers s.totals)

-- the numbers from a place on are those of fields of two bytes
unfoldable pub two_byte : List ℕ → ℕ → ℕ → Bool
two_byte l place n = all_below (λ i. ltb (get_or l (place + i) 0) 65536) n

-- a set's numbers have the kind of a header, fields and pins of two bytes, and nothing for a second bucket where the kind is 1
unfoldable pub one_kind : List ℕ → Bool
one_kind l = eqb (get_or l 0 0) 1 && eqb (get_or l 10 0) 0 && eqb (get_or l 11 0) 0 && eqb (get_or l 12 0) 0

unfoldable pub set_shaped : List ℕ → Bool
set_shaped l =
    if leb set_size (length l) then
    if two_byte l 1 524 then if eqb (get_or l 0 0) 8 then true else one_kind l
    else false
    else false

-- how many fields the header has
unfoldable pub field_count : List ℕ → ℕ
field_count l = if eqb (get_or l 0 0) 8 then 12 else 9

-- the set that stands in a list; numbers that are no set's are read as the set of no job
unfoldable pub set_in : List ℕ → PinSet
set_in l =
    if set_shaped l then record {
      header = header_of (take (field_count l) (drop 1 l));
      pins = take 512 (drop pins_place l);
      totals = record { count = get_or l totals_place 0; size = get_or l (totals_place + 1) 0; distortion = get_or l (totals_place + 2) 0 };
    }
    else fresh no_header
