-- What the private functions of this crate say and ask.
use Rattle.std.specs.Prelude.{ℕ, ◌+◌, ◌*◌, ◌≤◌, ◌<◌, ◌≡◌, List, length, get_or, drop}
use Rattle.std.proofs.Math.Option.{none}
use Rattle.base.specs.Refusals.{refusal, guarded}
use Rattle.model.specs.Job as model
use Rattle.model.specs.Best.{Order}
use Rattle.format.specs.JobBytes as format
use Rattle.format.specs.JobBytes.{job_in}
use Rattle.pinning.specs.PinSet.{PinSet, lines}
use Rattle.pinning.specs.Check.{Ready}
use Rattle.interval.specs.declared.Totals.{Totals}
use Rattle.interval.specs.Answers.{totals_of}
use Rattle.line.specs.declared.Line.{Line}
use Rattle.line.specs.Answers.{line_is, LineFits}
use Rattle.table.specs.Answers.{job_on}
use Rattle.course.specs.Answers.{Shaped}
use Rattle.front.specs.Answers.{SmallTotals}
use Rattle.planner.specs.Answers.{Searches}
use Rattle.replaying.specs.Entries.{entry_size}
use Rattle.planning.specs.Calls.{Planned, refuse}
use Rattle.changing.specs.NewContract.{Contract, under}
use Rattle.changing.specs.Calls.{rest_tests, change_tests, change_in}

-- totals whose sums fit
pub record Adds (a b : Totals) : Type 0 where
  pub distortion : a.distortion + b.distortion < 4294967296
  pub source : a.source + b.source < 4294967296
  pub channel : a.channel + b.channel < 4294967296
  pub unused : (k : ℕ) → get_or (totals_of a).unused k 0 + get_or (totals_of b).unused k 0 < 4294967296

-- a search for the rest, and the first entries, whose totals are small
pub record Continues (b : List ℕ) (h : format.Header) (l : Line) (pins : List ℕ) (first : ℕ) (at : model.Levels) (before : Totals) (old table entries : List ℕ) : Type 0 where
  pub searches : Searches b h l pins first at table (drop (entry_size * first) entries)
  pub small : SmallTotals first before
  pub old_long : entry_size * first ≤ length old
  pub space : entry_size * first ≤ length entries

-- an old plan in shape of a job that the set matches, and a line with the same decoder and as many buckets
pub record Follows (b : List ℕ) (h : format.Header) (l : Line) (p : PinSet) (old : List ℕ) : Type 0 where
  pub plan : Shaped b h old
  pub ready : Ready b h p
  pub line : LineFits l
  pub decoder : (line_is l).decoder ≡ h.decoder
  pub count : length (line_is l).buckets ≡ length h.buckets

-- nothing refuses to plan the rest over the line, with lists of these lengths
abbrev pub Passes : List ℕ → Line → PinSet → List ℕ → ℕ → ℕ → ℕ → Type 0
Passes b l p old s table entries = refusal (rest_tests (job_in b) (job_on b l) (lines (length (job_in b).units) p.pins) old s table entries) ≡ none

-- a change for a job that the set matches
unfoldable pub changed_for : List ℕ → PinSet → List ℕ → ℕ → Contract → Order → List ℕ → List ℕ → Planned
changed_for b p old s c o table entries =
    let j = job_in b in
    let m = lines (length j.units) p.pins in
    guarded (refuse table entries) (change_tests j m old s c (length table) (length entries)) (change_in j (under j c) m old s o table entries)
