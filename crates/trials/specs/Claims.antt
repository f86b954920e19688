-- What is claimed of trial jobs: each claim is a type, which a theorem of proofs/ inhabits.
use Rattle.std.specs.Prelude.{ℕ, suc, ◌+◌, ◌*◌, ◌<◌, ◌≤◌, ◌≡◌, List, [], ◌∷◌, length, get_or, take, drop}
use Rattle.base.specs.Answer.{gives}
use Rattle.base.specs.Refusals.{Condition, condition, InOrder}
use Rattle.base.specs.Lent.{refuse, Keeping}
use Rattle.model.specs.Job.{Job, job_coding}
use Rattle.format.specs.Limits.{AllKept}
use Rattle.format.specs.Parser.{took}
use Rattle.format.specs.JobBytes.{Header, header_limits, header_in, opening, parse, encode}
use Rattle.format.specs.Claims.{u16_at, Idle}
use Rattle.format.specs.Places.{job_size}
use Rattle.writing.specs.Calls.{write_call}
use Rattle.trials.specs.Draws.{after, draw}
use Rattle.trials.specs.Calls.{trial_rates, trial_sizes, trial_distortions, trial_job, trial_call}

-- A draw in other words: what state × 1,664,525 + 1,013,904,223 leaves over a multiple of 2^32 is the next state; of its 32 bits the draw is the upper half
pub record DrawnFrom (s new value : ℕ) : Type 0 where
  pub wraps : ℕ
  pub low : ℕ
  pub next_is : s * 1664525 + 1013904223 ≡ wraps * (65536 * 65536) + new
  pub small : new < 65536 * 65536
  pub halves : new ≡ value * 65536 + low
  pub low_small : low < 65536

-- and the states follow one another: the n-th draw is made from the state after n draws
abbrev pub Stream : Type 0
Stream = (s n : ℕ) → DrawnFrom (after n s) (after (suc n) s) (draw s n) × (after 0 s ≡ s)

-- r is what is left of v over a multiple of m
pub record LeftOver (m v r : ℕ) : Type 0 where
  pub times : ℕ
  pub is : v ≡ times * m + r
  pub less : r < m

-- The numbers of the job by their place in it, each by the next draw: the rates take draws 0 to P - 1; then come, unit after unit and choice after choice, the grains and behind them the distortion
pub record Drawn (h : Header) (s : ℕ) (j : Job) : Type 0 where
  pub header : header_in j ≡ h
  pub first_rate : LeftOver 4 (draw s 0) (get_or j.line.rates 0 0)
  pub later_rate : (y left : ℕ) → suc y < h.rates → LeftOver 4 (draw s (suc y)) left → get_or j.line.rates (suc y) 0 ≡ get_or j.line.rates y 0 + 1 + left
  pub size : (u x : ℕ) → u < h.units → x < h.choices → LeftOver 64 (draw s (h.rates + 2 * (u * h.choices + x))) (job_coding j u x).size
  pub distortion : (u x : ℕ) → u < h.units → x < h.choices → (job_coding j u x).distortion ≡ draw s (h.rates + 2 * (u * h.choices + x) + 1)

-- what is written opens, as exactly the job that the draws make; it is that job's bytes, and those behind it are unchanged
pub record Tried (h : Header) (s : ℕ) (out : List ℕ) (n : ℕ) (list : List ℕ) : Type 0 where
  pub drawn : Drawn h s (trial_job h s)
  pub opens : parse opening list ≡ took (trial_job h s) n
  pub bytes : take n list ≡ encode (trial_job h s)
  -- "The header may be of kind 1 or 8": of 1 with one bucket, of 8 with two
  pub kind : (length h.buckets ≡ 1 → u16_at list 2 ≡ 1) × (length h.buckets ≡ 2 → u16_at list 2 ≡ 8)
  pub count : n ≡ job_size h
  pub rest : drop n list ≡ drop n out
  pub size : length list ≡ length out

abbrev pub Tries : Type 0
Tries = (h : Header) (s : ℕ) (out : List ℕ) (n : ℕ) → (trial_call h s out).answer ≡ gives n → Tried h s out n (trial_call h s out).list

-- what the call asks, in order
abbrev pub Asks : Header → List ℕ → List Condition
Asks h out =
    condition 3 (AllKept (header_limits h))
    ∷ condition 17 (Idle h → ⊥)
    ∷ condition 12 (job_size h ≤ length out)
    ∷ []

-- the first that does not hold refuses, nothing else does, and a refusal leaves the bytes as they came
abbrev pub Refusals : Type 0
Refusals = (h : Header) (s : ℕ) (out : List ℕ) → InOrder (trial_call h s out) (refuse out) (Asks h out) ((trial_call h s out).answer ≡ gives (job_size h)) × Keeping out (trial_call h s out)

-- the bytes depend on header and state alone: whatever stood in the list, and however long it is
abbrev pub Alone : Type 0
Alone = (h : Header) (s : ℕ) (one other : List ℕ) (n k : ℕ) → (trial_call h s one).answer ≡ gives n → (trial_call h s other).answer ≡ gives k → (n ≡ k) × (take n (trial_call h s one).list ≡ take k (trial_call h s other).list)

-- the call is the writer's call of the lists that are drawn
abbrev pub AsWritten : Type 0
AsWritten = (h : Header) (s : ℕ) (out : List ℕ) → trial_call h s out ≡ write_call h (trial_rates h s) (trial_sizes h s) (trial_distortions h s) out
