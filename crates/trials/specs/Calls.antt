-- The trial job of a header and a starting state, and what writing it answers and leaves (document 02, E11).
use Rattle.std.specs.Prelude.{ℕ, ◌*◌, List, [], ◌∷◌, ◌++◌, leb, length}
use Rattle.std.proofs.Math.Option.{Option}
use Rattle.base.specs.Lists.{build}
use Rattle.base.specs.Answer.{gives}
use Rattle.base.specs.Refusals.{Test, test, refusal, unless, first}
use Rattle.base.specs.Lent.{Ended, over, refuse}
use Rattle.model.specs.Job.{Job}
use Rattle.format.specs.Limits.{Limit, broken}
use Rattle.format.specs.JobBytes.{Header, header_limits, opening, drain_limits, encode}
use Rattle.format.specs.Places.{job_size}
use Rattle.writing.specs.Lists.{job_from}
use Rattle.trials.specs.Draws.{after, rate_drawn, size_drawn, distortion_drawn}

module _ (h : Header) (s : ℕ) where
  -- P rates, then "for each choice of each unit in turn" a size and a distortion
  unfoldable pub trial_rates : List ℕ
  trial_rates = build h.rates (rate_drawn s)

  unfoldable pub trial_sizes : List ℕ
  trial_sizes = build (h.units * h.choices) (size_drawn (after h.rates s))

  unfoldable pub trial_distortions : List ℕ
  trial_distortions = build (h.units * h.choices) (distortion_drawn (after h.rates s))

  unfoldable pub trial_job : Job
  trial_job = job_from h trial_rates trial_sizes trial_distortions

-- "it refuses with 3, then 17 for the header"
unfoldable pub trial_limits : Header → List Limit
trial_limits h = header_limits h ++ drain_limits opening h.buckets

-- "then 12": so many bytes are enough for the job
unfoldable pub trial_room : Header → ℕ → List Test
trial_room h out = test 12 (leb (job_size h) out) ∷ []

-- the number by which writing to a list of so many bytes is refused, if there is one
unfoldable pub trial_refusal : Header → ℕ → Option ℕ
trial_refusal h out = first (broken (trial_limits h)) (refusal (trial_room h out))

-- the job's bytes first, the rest of the list as before; the answer is how many bytes the job took
unfoldable pub trial_call : Header → ℕ → List ℕ → Ended ℕ
trial_call h s out = unless (refuse out) (trial_refusal h (length out)) (record { answer = gives (length (encode (trial_job h s))); list = over (encode (trial_job h s)) out })
