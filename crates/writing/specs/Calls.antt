-- What writing a job answers, and what it leaves in the list of bytes that was lent (document 02, E1).
use Rattle.std.specs.Prelude.{ℕ, ◌*◌, List, [], ◌∷◌, ◌++◌, leb, length}
use Rattle.std.proofs.Math.Option.{Option}
use Rattle.base.specs.Answer.{gives}
use Rattle.base.specs.Refusals.{Test, test, refusal, unless, first, guarded}
use Rattle.base.specs.Lent.{Ended, over, refuse}
use Rattle.model.specs.Job.{Job}
use Rattle.format.specs.Limits.{Limit, limit, broken}
use Rattle.format.specs.JobBytes.{Header, header_limits, opening, drain_limits, rate_limits, coding_limits, encode}
use Rattle.writing.specs.Lists.{codings_from, job_from}

module _ (h : Header) (rates sizes distortions : List ℕ) where
  -- 16: a list has as many numbers as the header calls for
  abbrev pub length_limits : List Limit
  length_limits =
      limit 16 h.rates h.rates (length rates)
      ∷ limit 16 (h.units * h.choices) (h.units * h.choices) (length sizes)
      ∷ limit 16 (h.units * h.choices) (h.units * h.choices) (length distortions)
      ∷ []

  -- all limits in the order in which they are looked at: 3 for the header, 17 for its drains, 16 for the lengths, 4 for the rates, 5 for sizes and distortions
  unfoldable pub write_limits : List Limit
  write_limits = header_limits h ++ (drain_limits opening h.buckets ++ (length_limits ++ (rate_limits 0 rates ++ coding_limits (codings_from sizes distortions))))

-- 12: so many bytes are enough for the job
unfoldable pub room_tests : Job → ℕ → List Test
room_tests j out = test 12 (leb (length (encode j)) out) ∷ []

-- the job's bytes first, the rest of the list as before
unfoldable pub write_in : Job → List ℕ → Ended ℕ
write_in j out = guarded (refuse out) (room_tests j (length out)) (record { answer = gives (length (encode j)); list = over (encode j) out })

-- the number by which writing to a list of so many bytes is refused, if there is one
unfoldable pub write_refusal : Header → List ℕ → List ℕ → List ℕ → ℕ → Option ℕ
write_refusal h rates sizes distortions out = first (broken (write_limits h rates sizes distortions)) (refusal (room_tests (job_from h rates sizes distortions) out))

-- the first limit that is not kept refuses, and 12 comes last; else the answer is how many bytes the job took
unfoldable pub write_call : Header → List ℕ → List ℕ → List ℕ → List ℕ → Ended ℕ
write_call h rates sizes distortions out =
    unless (refuse out) (broken (write_limits h rates sizes distortions)) (write_in (job_from h rates sizes distortions) out)
