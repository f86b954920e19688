-- A job as values: a sequence of coded units and the line that it is sent over (document 01, "The job's bytes").
-- Sizes, rates and levels are counted in grains, a fixed count of bits (document 01's term).
-- Units and intervals are counted from 1, rates, choices and buckets from 0.
use Rattle.std.specs.Prelude.{ℕ, suc, ◌+◌, ◌-◌, ◌<◌, ◌≤◌, ◌≡◌, List, [], ◌∷◌, length, get_or}
use Rattle.std.proofs.Math.Option.{Option, none, some}

-- a leaky bucket of the carrier's policer: its size, and what it drains in an interval
pub record Bucket : Type 0 where
  pub size : ℕ
  pub drain : ℕ

-- what receiver and carrier fix: the decoder's buffer size, the buckets, the channel rates on offer
pub record Line : Type 0 where
  pub decoder : ℕ
  pub buckets : List Bucket
  pub rates : List ℕ

abbrev pub bucket_at : List Bucket → ℕ → Bucket
bucket_at ks i = get_or ks i (record { size = 0; drain = 0 })

-- a unit as one quantizer choice codes it
pub record Coding : Type 0 where
  pub size : ℕ
  pub distortion : ℕ

abbrev pub nothing : Coding
nothing = record { size = 0; distortion = 0 }

-- the decoder's level and the buckets', at an interval's end
pub record Levels : Type 0 where
  pub decoder : ℕ
  pub buckets : List ℕ

abbrev pub no_levels : Levels
no_levels = record { decoder = 0; buckets = [] }

-- the delay d, the line, the starting levels B(0) and L(0), M, and M codings of each of the N units
pub record Job : Type 0 where
  pub delay : ℕ
  pub line : Line
  pub start : Levels
  pub choices : ℕ
  pub units : List (List Coding)

-- the same units and delay over another line
unfoldable pub on_line : Job → Line → Job
on_line j l = record { delay = j.delay; line = l; start = j.start; choices = j.choices; units = j.units }

-- T = N + d, the number of intervals
unfoldable pub intervals : Job → ℕ
intervals j = length j.units + j.delay

-- the unit in place i of the list, which is unit i + 1, as a choice codes it
unfoldable pub job_coding : Job → ℕ → ℕ → Coding
job_coding j i x = get_or (get_or j.units i []) x nothing

-- one interval of a plan: a rate index, and a choice index for the unit that is decoded, if one is
pub record Entry : Type 0 where
  pub rate : ℕ
  pub choice : Option ℕ

-- the coding that interval t decodes: unit t - d at the choice made
unfoldable pub coding : Job → ℕ → Option ℕ → Coding
coding j t none = nothing
coding j t (some x) = job_coding j (t - (j.delay + 1)) x

-- C and R of an entry, what interval t sends and what it takes from the decoder, and the distortion that it adds
unfoldable pub sends : Job → Entry → ℕ
sends j e = get_or j.line.rates e.rate 0

unfoldable pub takes : Job → ℕ → Entry → ℕ
takes j t e = (coding j t e.choice).size

unfoldable pub distorts : Job → ℕ → Entry → ℕ
distorts j t e = (coding j t e.choice).distortion

-- an interval up to the delay has no choice, a later one has one below M
pub data ChoiceFits (j : Job) (t : ℕ) : Option ℕ → Type 0 where
  waits : t ≤ j.delay → ChoiceFits j t none
  decodes : {x : ℕ} → j.delay < t → x < j.choices → ChoiceFits j t (some x)

pub record EntryFits (j : Job) (t : ℕ) (e : Entry) : Type 0 where
  pub rate : e.rate < length j.line.rates
  pub choice : ChoiceFits j t e.choice

-- the list holds an entry in range for each interval after t, up to T
pub data PlanFits (j : Job) : ℕ → List Entry → Type 0 where
  ends : {t : ℕ} → t ≡ intervals j → PlanFits j t []
  goes : {t : ℕ} {e : Entry} {p : List Entry} → EntryFits j (suc t) e → PlanFits j (suc t) p → PlanFits j t (e ∷ p)
