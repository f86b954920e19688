-- What is read of a job's bytes and pins in the terms of `model` and `planning`, how long a table is, and what the functions of this crate say and ask.
use Rattle.std.specs.Prelude.{ℕ, suc, ◌+◌, ◌-◌, ◌*◌, ◌<◌, ◌≤◌, ◌≡◌, List, [], map, eqb, length, get_or, if◌then◌else◌}
use Rattle.std.specs.Prelude.{Some, None}
use Rattle.std.specs.Prelude as std
use Rattle.std.proofs.Math.Option.{Option, none, some}
use Rattle.trellis.specs.Limit.{keeps_to, only}
use Rattle.model.specs.Job as model
use Rattle.model.specs.Pins.{PinMap}
use Rattle.model.specs.Step.{pin_held}
use Rattle.model.specs.Best.{width, Open}
use Rattle.model.specs.Table.{span, layer_words}
use Rattle.format.specs.Limits.{each_kept}
use Rattle.format.specs.Choices.{no_choice, choice_of}
use Rattle.format.specs.Places.{coding_at}
use Rattle.format.specs.JobBytes.{job_in, Opens}
use Rattle.format.specs.JobBytes as format
use Rattle.interval.specs.declared.Buffers.{Buffers}
use Rattle.interval.specs.Answers.{line_of}
use Rattle.planning.specs.Rule.{Allowed, allowed_in}
use Rattle.line.specs.declared.Line.{Line}
use Rattle.table.specs.declared.Choices.{Choices}
use Rattle.line.specs.declared.Candidate.{Candidate}
use Rattle.line.specs.Answers.{line_is, candidate_is, LineFits}

-- the job that stands in bytes, over this line
abbrev pub job_on : List ℕ → Line → model.Job
job_on b l = model.on_line (job_in b) (line_is l)

-- a limit in the model's terms, and what it leaves open with some pins
abbrev pub limit_of : std.Option ℕ → Option ℕ
limit_of None = none
limit_of (Some g) = some g

abbrev pub open_of : PinMap → std.Option ℕ → Open
open_of m l = record { pins = m; limit = limit_of l }

-- the codings of an interval as they stand in bytes, those that its pin and the limit leave open; without a unit nothing is decoded
unfoldable pub allowed_is : List ℕ → format.Header → Choices → Allowed
allowed_is b h c x =
    if eqb c.unit 0 then some model.nothing
    else if pin_held (choice_of c.pin) (choice_of x) then only (keeps_to (limit_of c.limit) (coding_at b h c.unit x).distortion) (some (coding_at b h c.unit x)) else none

-- (T + 1) times the words of a layer, over any buffers
unfoldable pub words_over : format.Header → Buffers → ℕ
words_over h k = (h.units + h.delay + 1) * layer_words (line_of k [])

-- over the job's own: (T + 1) × (D + 1) × (K + 1), and with a second bucket × (K2 + 1). No job has a header that is out of range
unfoldable pub table_words : format.Header → ℕ
table_words h =
    if each_kept (format.header_limits h) then (h.units + h.delay + 1) * ((h.decoder + 1) * span (map (λ k. k.size) h.buckets))
    else 0

-- What the functions say and ask.

-- the line of the job that stands in bytes
pub record LineOf (b : List ℕ) (l : Line) : Type 0 where
  pub is : line_is l ≡ (job_in b).line
  pub fits : LineFits l

-- the limits of an interval's choices: every index is less than the mark, and a unit's distortions are within document 01's limit
pub record ChoicesFit (b : List ℕ) (h : format.Header) (c : Choices) : Type 0 where
  pub count : c.count ≤ no_choice
  pub small : (c.unit ≡ 0 → ⊥) → (x : ℕ) → x < c.count → (coding_at b h c.unit x).distortion ≤ 1000000

-- one of them
pub record CandidateOf (b : List ℕ) (h : format.Header) (c : Choices) (x : ℕ) (r : Candidate) : Type 0 where
  pub is : candidate_is r ≡ allowed_is b h c x
  pub small : r.distortion ≤ 1000000

-- the choices of the interval in a place, as header, pins and limit tell them
pub data ChoicesIn (h : format.Header) (pins : List ℕ) (l : std.Option ℕ) (place : ℕ) (c : Choices) : Type 0 where
  waits : place < h.delay → c.unit ≡ 0 → c.count ≡ 1 → ChoicesIn h pins l place c
  decodes : h.delay ≤ place → c.unit ≡ place - h.delay + 1 → c.count ≡ h.choices → c.pin ≡ get_or pins (place - h.delay) 0 → c.limit ≡ l → ChoicesIn h pins l place c

-- and in the terms of the job that stands in bytes
pub record ChoicesOf (b : List ℕ) (h : format.Header) (j : model.Job) (k : Open) (place : ℕ) (c : Choices) : Type 0 where
  pub count : c.count ≡ width j (suc place)
  pub each : (x : ℕ) → x < c.count → allowed_is b h c x ≡ allowed_in j k (suc place) x
  pub fits : ChoicesFit b h c

-- the bytes of a job, any line within the limits and the pins of a set
pub record Starts (b : List ℕ) (h : format.Header) (l : Line) (pins : List ℕ) : Type 0 where
  pub opens : Opens b h
  pub line : LineFits l
  pub pins_size : length pins ≡ 512

-- layers to be filled, and room for them and the next
pub record Fills (b : List ℕ) (h : format.Header) (l : Line) (pins : List ℕ) (first last : ℕ) (table : List ℕ) : Type 0 where
  pub starts : Starts b h l pins
  pub ends : first ≤ last
  pub few : last ≤ h.units + h.delay
  pub room : (last + 1) * layer_words (line_is l) ≤ length table
