-- Plans as they were stored before document 02, E6: two bytes an interval, the rate index and the choice index, 255 where no unit is decoded. Turning one into the entries of today keeps every rate and choice.
use Rattle.std.specs.Prelude.{ℕ, ◌+◌, ◌*◌, Bool, false, List, [], ◌∷◌, eqb, leb, length, get_or, if◌then◌else◌}
use Rattle.base.specs.Answer.{gives}
use Rattle.base.specs.Lent.{Ended, over, refuse}
use Rattle.base.specs.Refusals.{Test, test, guarded}
use Rattle.model.specs.Job.{Job, Entry, intervals}
use Rattle.format.specs.JobBytes.{Header, header_in, parse, archive}
use Rattle.format.specs.Parser.{on_read}
use Rattle.replaying.specs.Entries.{entry_size, entry_under, entries_from, entries_fit, entry_bytes}

-- the mark of such a plan, how many bytes an entry took, and how many choices a job had at most
abbrev pub former_mark : ℕ
former_mark = 255

abbrev pub former_size : ℕ
former_size = 2

abbrev pub former_choices : ℕ
former_choices = 31

-- the numbers of the entry in place i
unfoldable pub former_rate : List ℕ → ℕ → ℕ
former_rate b i = get_or b (former_size * i) 0

unfoldable pub former_choice : List ℕ → ℕ → ℕ
former_choice b i = get_or b (former_size * i + 1) 0

unfoldable pub former_entry : List ℕ → ℕ → Entry
former_entry b i = entry_under former_mark (former_rate b i) (former_choice b i)

-- the plan that the bytes were
unfoldable pub former_plan : Job → List ℕ → List Entry
former_plan j b = entries_from (former_entry b) 0 (intervals j)

-- 14: the job has more than 31 choices, or the bytes were no plan of it
unfoldable pub former_shaped : Header → List ℕ → Bool
former_shaped h b =
    if leb h.choices former_choices then
    if eqb (length b) (former_size * (h.units + h.delay)) then entries_fit former_mark h (former_rate b) (former_choice b) (h.units + h.delay) else false
    else false

-- what turning is tested for, of a job that opens: the old plan, 14, then the list, 12
unfoldable pub turn_tests : Job → List ℕ → ℕ → List Test
turn_tests j old entries = test 14 (former_shaped (header_in j) old) ∷ test 12 (leb (entry_size * intervals j) entries) ∷ []

-- the entries of today over the first bytes of the list
unfoldable pub turned : Job → List ℕ → List ℕ → Ended (Unit {0})
turned j old entries = record { answer = gives tt; list = over (entry_bytes (former_plan j old)) entries }

-- 1 to 5, then 14, then 12
unfoldable pub turn_call : List ℕ → List ℕ → List ℕ → Ended (Unit {0})
turn_call b old entries = on_read (refuse entries) (parse archive b) (λ j. guarded (refuse entries) (turn_tests j old (length entries)) (turned j old entries))
