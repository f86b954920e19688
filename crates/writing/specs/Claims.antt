-- What is claimed of writing a job: each claim is a type, which a theorem of proofs/ inhabits.
use Rattle.std.specs.Prelude.{ℕ, ◌*◌, ◌≤◌, ◌≡◌, List, [], ◌∷◌, ◌++◌, length, take, drop}
use Rattle.base.specs.Answer.{gives}
use Rattle.base.specs.Refusals.{Condition, condition, InOrder}
use Rattle.base.specs.Lent.{refuse, Keeping}
use Rattle.model.specs.Job.{Job}
use Rattle.format.specs.Fields.{Bytes}
use Rattle.format.specs.Limits.{AllKept}
use Rattle.format.specs.Parser.{took}
use Rattle.format.specs.JobBytes.{Header, header_limits, rate_limits, coding_limits, header_in, opening, parse}
use Rattle.format.specs.Claims.{Idle}
use Rattle.format.specs.Places.{job_size}
use Rattle.writing.specs.Lists.{sizes_in, distortions_in, codings_from}
use Rattle.writing.specs.Calls.{write_call}

-- as many rates as the header calls for, and a size and a distortion for each of M choices of each of N units
abbrev pub Lengths : Header → List ℕ → List ℕ → List ℕ → Type 0
Lengths h rates sizes distortions = (length rates ≡ h.rates) × (length sizes ≡ h.units * h.choices) × (length distortions ≡ h.units * h.choices)

module _ (h : Header) (rates sizes distortions out : List ℕ) where
  -- what is written opens and holds the same header, rates and lists, and the bytes behind it are unchanged
  pub record Written (n : ℕ) (list : List ℕ) : Type 0 where
    pub job : Job
    pub opens : parse opening list ≡ took job n
    pub header : header_in job ≡ h
    pub rates_are : job.line.rates ≡ rates
    pub sizes_are : sizes_in job ≡ sizes
    pub distortions_are : distortions_in job ≡ distortions
    pub rest : drop n list ≡ drop n out
    pub size : length list ≡ length out

  -- what the writer asks, in order
  abbrev pub Asks : List Condition
  Asks =
      condition 3 (AllKept (header_limits h))
      ∷ condition 17 (Idle h → ⊥)
      ∷ condition 16 (Lengths h rates sizes distortions)
      ∷ condition 4 (AllKept (rate_limits 0 rates))
      ∷ condition 5 (AllKept (coding_limits (codings_from sizes distortions)))
      ∷ condition 12 (job_size h ≤ length out)
      ∷ []

abbrev pub Writes : Type 0
Writes = (h : Header) (rates sizes distortions out : List ℕ) (n : ℕ) → (write_call h rates sizes distortions out).answer ≡ gives n → Written h rates sizes distortions out n (write_call h rates sizes distortions out).list

-- every job that opens, written from its own header, rates and lists, is the bytes that it took
abbrev pub Rewrites : Type 0
Rewrites = (b : List ℕ) → Bytes b → (j : Job) (n : ℕ) → parse opening b ≡ took j n → (out : List ℕ) → n ≤ length out → write_call (header_in j) j.line.rates (sizes_in j) (distortions_in j) out ≡ record { answer = gives n; list = take n b ++ drop n out }

-- the first that does not hold refuses, nothing else does, and a refusal leaves the bytes as they came
abbrev pub Refusals : Type 0
Refusals = (h : Header) (rates sizes distortions out : List ℕ) → InOrder (write_call h rates sizes distortions out) (refuse out) (Asks h rates sizes distortions out) ((write_call h rates sizes distortions out).answer ≡ gives (job_size h)) × Keeping out (write_call h rates sizes distortions out)
