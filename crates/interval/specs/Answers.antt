-- What the structs and answers of this crate mean in the terms of `model`, case by case.
use Rattle.std.specs.Prelude.{ℕ, ◌+◌, ◌<◌, ◌≤◌, ◌≡◌, Bool, false, ltb, get_or}
use mathlib.Core.List.{List, [], ◌∷◌, map, zip_with}
use Rattle.std.specs.Prelude.{Option, None, Some, Result, Ok, Err}
use Rattle.std.specs.Option.{option_map, option_to_list}
use Rattle.model.specs.Job as model
use Rattle.model.specs.Step as model_step
use Rattle.model.specs.Replay as model_replay
use Rattle.format.specs.JobBytes as format
use Rattle.interval.specs.declared.Totals.{Totals}
use Rattle.parts.specs.declared.Drained.{Drained}
use Rattle.parts.specs.Answers.{violation, drained}
use Rattle.parts.specs.declared.Violation.{Violation}
use Rattle.interval.specs.declared.Policer.{Policer}
use Rattle.interval.specs.declared.Levels.{Levels}
use Rattle.interval.specs.declared.Buffers.{Buffers}
use Rattle.interval.specs.declared.Interval.{Interval}

unfoldable pub levels_of : Levels → model.Levels
levels_of l = record { decoder = l.decoder; buckets = l.bucket ∷ option_to_list l.bucket2 }

unfoldable pub outcome_is : Result Levels Violation → model_step.Outcome
outcome_is (Ok l) = model_step.reaches (levels_of l)
outcome_is (Err x) = model_step.violates (violation x)

unfoldable pub totals_of : Totals → model_replay.Totals
totals_of t = record { distortion = t.distortion; source = t.source; channel = t.channel; unused = t.unused ∷ option_to_list t.unused2 }

-- a bucket as a step reads it
abbrev pub bucket_is : Policer → model.Bucket
bucket_is k = record { size = k.size; drain = k.drain }

-- the line that has these buffers and rates
unfoldable pub line_of : Buffers → List ℕ → model.Line
line_of k rates = record { decoder = k.decoder; buckets = bucket_is k.first ∷ option_to_list (option_map bucket_is k.second); rates = rates }

-- the buffers that a header tells
pub record OfHeader (k : Buffers) (h : format.Header) : Type 0 where
  pub decoder : k.decoder ≡ h.decoder
  pub buckets : (line_of k []).buckets ≡ map format.bucket_of h.buckets

-- the starting levels of a job with this header
unfoldable pub start_of : format.Header → model.Levels
start_of h = record { decoder = h.level; buckets = map (λ k. k.fill) h.buckets }

-- the totals of no interval over these buckets
unfoldable pub no_totals : List model.Bucket → model_replay.Totals
no_totals ks = record { distortion = 0; source = 0; channel = 0; unused = map (λ k. 0) ks }

-- what the second bucket does, where the line and the levels have one
abbrev pub second_drained : Option Policer → Option ℕ → ℕ → List model_step.Drained
second_drained (Some k) (Some l) sent = model_step.bucket_step k.drain l sent ∷ []
second_drained (Some k) None sent = []
second_drained None l sent = []

abbrev pub SecondStep : Buffers → Levels → ℕ → Option Drained → Type 0
SecondStep k before sent r = option_to_list (option_map drained r) ≡ second_drained k.second before.bucket2 sent

-- whether it holds more than its size
abbrev pub second_over : Option Policer → Option Drained → Bool
second_over (Some b) (Some d) = ltb b.size d.level
second_over (Some b) None = false
second_over None d = false

-- the drain that it left unused, with one interval more
pub record SecondRoom (sum : Option ℕ) (second : Option Drained) : Type 0 where
  pub fits : (a : ℕ) (d : Drained) → sum ≡ Some a → second ≡ Some d → a + d.unused < 4294967296

abbrev pub MoreUnused : Option ℕ → Option Drained → Option ℕ → Type 0
MoreUnused sum second r = option_to_list r ≡ zip_with ◌+◌ (option_to_list sum) (option_to_list (option_map (λ d. d.unused) second))

-- the totals with one interval more, from the levels before it
unfoldable pub added : model_replay.Totals → List model.Bucket → List ℕ → Interval → model_replay.Totals
added t ks ls x = record {
  distortion = t.distortion + x.distortion;
  source = t.source + x.size;
  channel = t.channel + x.sent;
  unused = zip_with ◌+◌ t.unused (zip_with (λ k l. (model_step.bucket_step k.drain l x.sent).unused) ks ls);
}

-- and that they fit, whatever goes unused of a drain of 16 bits
pub record Room (t : Totals) (x : Interval) : Type 0 where
  pub distortion : t.distortion + x.distortion < 4294967296
  pub source : t.source + x.size < 4294967296
  pub channel : t.channel + x.sent < 4294967296
  pub unused : (k : ℕ) → get_or (totals_of t).unused k 0 + 65535 < 4294967296

-- what an entry does in interval t, and the limits of document 01
pub record Does (j : model.Job) (t : ℕ) (e : model.Entry) (x : Interval) : Type 0 where
  pub sent : x.sent ≡ model.sends j e
  pub size : x.size ≡ model.takes j t e
  pub distortion : x.distortion ≡ model.distorts j t e
  pub limits : (x.sent ≤ 4095) × (x.size ≤ 4095) × (x.distortion ≤ 1000000)
