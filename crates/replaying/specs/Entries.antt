-- A plan as bytes: for each interval the rate index and the choice index, which is the mark where no unit is decoded (document 01, "Levels, interval by interval").
use Rattle.std.specs.Prelude.{ℕ, zero, suc, ◌+◌, ◌*◌, Bool, false, List, [], ◌∷◌, ◌++◌, eqb, ltb, length, get_or, drop, if◌then◌else◌}
use Rattle.base.specs.All.{all_below}
use Rattle.model.specs.Job.{Job, Entry, intervals}
use Rattle.format.specs.Fields.{fields, spelled}
use Rattle.format.specs.JobBytes.{Header}
use Rattle.format.specs.Choices.{no_choice, choice_width, choice_under, choice_number}

-- the fields of an entry, and how many bytes they take
abbrev pub entry_widths : List ℕ
entry_widths = 1 ∷ choice_width ∷ []

abbrev pub entry_size : ℕ
entry_size = 1 + choice_width

-- the numbers of the entry in place i, which is that of interval i + 1
unfoldable pub entry_fields : List ℕ → ℕ → List ℕ
entry_fields b i = fields entry_widths (drop (entry_size * i) b)

unfoldable pub rate_field : List ℕ → ℕ → ℕ
rate_field b i = get_or (entry_fields b i) 0 0

unfoldable pub choice_field : List ℕ → ℕ → ℕ
choice_field b i = get_or (entry_fields b i) 1 0

-- the entry of these numbers, under a mark for no unit
unfoldable pub entry_under : ℕ → ℕ → ℕ → Entry
entry_under mark rate choice = record { rate = rate; choice = choice_under mark choice }

unfoldable pub entry_at : List ℕ → ℕ → Entry
entry_at b i = entry_under no_choice (rate_field b i) (choice_field b i)

-- the entries from place i on, n of them
unfoldable pub entries_from : (ℕ → Entry) → ℕ → ℕ → List Entry
entries_from f i zero = []
entries_from f i (suc n) = f i ∷ entries_from f (suc i) n

abbrev pub plan_from : List ℕ → ℕ → ℕ → List Entry
plan_from b = entries_from (entry_at b)

-- the whole plan of a job
unfoldable pub plan_of : Job → List ℕ → List Entry
plan_of j b = plan_from b 0 (intervals j)

-- an entry in range in place i: up to the delay it has the mark, after it a choice below M
unfoldable pub fits_under : ℕ → Header → ℕ → ℕ → ℕ → Bool
fits_under mark h i rate choice =
    if ltb rate h.rates then
    if ltb i h.delay then eqb choice mark else ltb choice h.choices
    else false

abbrev pub entry_fits : Header → ℕ → ℕ → ℕ → Bool
entry_fits = fits_under no_choice

-- the first n entries, whose numbers are these
unfoldable pub entries_fit : ℕ → Header → (ℕ → ℕ) → (ℕ → ℕ) → ℕ → Bool
entries_fit mark h rate choice n = all_below (λ i. fits_under mark h i (rate i) (choice i)) n

-- 14: the bytes are not those of T entries, or an entry is out of range
unfoldable pub shaped : Header → List ℕ → Bool
shaped h b = if eqb (length b) (entry_size * (h.units + h.delay)) then entries_fit no_choice h (rate_field b) (choice_field b) (h.units + h.delay) else false

-- the bytes of an entry, and of a plan
unfoldable pub one_entry : Entry → List ℕ
one_entry e = spelled entry_widths (e.rate ∷ choice_number e.choice ∷ [])

unfoldable pub entry_bytes : List Entry → List ℕ
entry_bytes [] = []
entry_bytes (e ∷ p) = one_entry e ++ entry_bytes p
