-- The check of a set against a job, refusal 6: the header differs; a pin is neither the mark nor below M; one past N is not the mark; a total is not the sum over the pins (document 01, "Where each refusal is checked"; the mark is that of document 02, E6).
use Rattle.std.specs.Prelude.{ℕ, suc, ◌<◌, ◌≤◌, ◌≡◌, ◌⊎◌, Bool, true, false, List, eqb, ltb, length, get_or, if◌then◌else◌}
use Rattle.base.specs.All.{all_below}
use Rattle.model.specs.Job.{Coding, Job, job_coding}
use Rattle.model.specs.Pins.{PinTotals, totals_to, pin_totals}
use Rattle.format.specs.JobBytes.{Header, same_header, header_in, Door, parse, job_in, Opens}
use Rattle.format.specs.Parser.{Result, refused, took}
use Rattle.format.specs.Places.{coding_at}
use Rattle.format.specs.Choices.{no_choice}
use Rattle.pinning.specs.PinSet.{PinSet, lines}

-- in the document's words
pub record Matches (j : Job) (s : PinSet) : Type 0 where
  pub header : s.header ≡ header_in j
  pub pins : (i : ℕ) → i < length j.units → (get_or s.pins i 0 ≡ 65535) ⊎ (get_or s.pins i 0 < j.choices)
  pub past : (i : ℕ) → length j.units ≤ i → i < 512 → get_or s.pins i 0 ≡ 65535
  pub totals : s.totals ≡ pin_totals j (lines (length j.units) s.pins)

-- the pin in place i: of a unit it is the mark or below M, past the last unit it is the mark
unfoldable pub pin_fits : Header → ℕ → ℕ → Bool
pin_fits h i x = if eqb x no_choice then true else if ltb i h.units then ltb x h.choices else false

-- the first n pins
unfoldable pub pins_fit : Header → List ℕ → ℕ → Bool
pins_fit h pins n = all_below (λ i. pin_fits h i (get_or pins i 0)) n

unfoldable pub same_totals : PinTotals → PinTotals → Bool
same_totals a b = if eqb a.count b.count then if eqb a.size b.size then eqb a.distortion b.distortion else false else false

-- as a test, of a job with this header in which unit i + 1 has the codings in place i
unfoldable pub fits : (ℕ → ℕ → Coding) → Header → PinSet → Bool
fits codings h s =
    if same_header s.header h then
    if pins_fit h s.pins 512 then same_totals s.totals (totals_to codings (lines h.units s.pins) h.units)
    else false
    else false

-- the codings that stand in a job's bytes, for the unit in each place
unfoldable pub codings_in : List ℕ → Header → ℕ → ℕ → Coding
codings_in b h i x = coding_at b h (suc i) x

unfoldable pub accept : PinSet → Result Job → Result Job
accept s (refused n) = refused n
accept s (took j k) = if fits (job_coding j) (header_in j) s then took j k else refused 6

-- what every call that takes a job and a set tests first: the job by its door, 1 to 5 and 17, then the set against it, 6
unfoldable pub checked : Door → List ℕ → PinSet → Result Job
checked d b s = accept s (parse d b)

-- the bytes are those of a job with this header, and the set, of 512 pins, matches it
pub record Ready (b : List ℕ) (h : Header) (s : PinSet) : Type 0 where
  pub opens : Opens b h
  pub matches : Matches (job_in b) s
  pub size : length s.pins ≡ 512
