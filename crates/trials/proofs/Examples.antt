-- Worked examples: the first draws from five states, and the bytes of two trial jobs, each worked out apart.
use mathlib.Core.Path.{◌≡◌, refl}
use mathlib.Core.List.{[], ◌∷◌, zip_with}
use lib.ListN.{replicate}
use Rattle.base.specs.Answer.{gives}
use Rattle.base.specs.Lists.{build}
use Rattle.base.specs.Refusals.{refusal, unless, guarded}
use Rattle.base.specs.Lent.{over, refuse}
use Rattle.format.specs.JobBytes.{Header, computes}
use Rattle.format.specs.JobA.{header_a}
use Rattle.writing.specs.Lists.{parted, codings_from, job_from}
use Rattle.trials.specs.Draws.{next, after, draw, rate_drawn, size_drawn, distortion_drawn}
use Rattle.trials.specs.Calls.{trial_rates, trial_sizes, trial_distortions, trial_job, trial_limits, trial_room, trial_refusal, trial_call}

draws_1 : build 6 (draw 0) ≡ 15470 ∷ 18256 ∷ 53708 ∷ 43769 ∷ 25170 ∷ 40750 ∷ []
unfolding build draw next after
draws_1 = refl

draws_2 : build 6 (draw 1) ≡ 15496 ∷ 24200 ∷ 33046 ∷ 46195 ∷ 3312 ∷ 24216 ∷ []
unfolding build draw next after
draws_2 = refl

draws_3 : build 6 (draw 2147483648) ≡ 48238 ∷ 51024 ∷ 20940 ∷ 11001 ∷ 57938 ∷ 7982 ∷ []
unfolding build draw next after
draws_3 = refl

draws_4 : build 6 (draw 4294967295) ≡ 15445 ∷ 12311 ∷ 8835 ∷ 41343 ∷ 47029 ∷ 57284 ∷ []
unfolding build draw next after
draws_4 = refl

draws_5 : build 6 (draw 123456789) ≡ 14043 ∷ 57398 ∷ 34363 ∷ 22515 ∷ 35712 ∷ 24425 ∷ []
unfolding build draw next after
draws_5 = refl

-- the header of Job A, from state 7, in a list of one byte more than the job takes
job_of_seven : trial_call header_a 7 (replicate 65 9) ≡ record { answer = gives 64; list = 20 ∷ 0 ∷ 1 ∷ 0 ∷ 2 ∷ 0 ∷ 1 ∷ 0 ∷ 4 ∷ 0 ∷ 3 ∷ 0 ∷ 2 ∷ 0 ∷ 0 ∷ 0 ∷ 0 ∷ 0 ∷ 3 ∷ 0 ∷ 2 ∷ 0 ∷ 8 ∷ 0 ∷ 2 ∷ 0 ∷ 0 ∷ 0 ∷ 3 ∷ 0 ∷ 4 ∷ 0 ∷ 14 ∷ 0 ∷ 3 ∷ 0 ∷ 14 ∷ 0 ∷ 161 ∷ 12 ∷ 0 ∷ 0 ∷ 20 ∷ 0 ∷ 105 ∷ 92 ∷ 0 ∷ 0 ∷ 14 ∷ 0 ∷ 3 ∷ 0 ∷ 24 ∷ 0 ∷ 155 ∷ 17 ∷ 0 ∷ 0 ∷ 35 ∷ 0 ∷ 9 ∷ 249 ∷ 0 ∷ 0 ∷ 9 ∷ [] }
unfolding computes header_a build draw next after zip_with parted codings_from job_from refusal guarded unless over refuse rate_drawn size_drawn distortion_drawn trial_rates trial_sizes trial_distortions trial_job trial_limits trial_room trial_refusal trial_call
job_of_seven = refl

-- a header of two buckets, from the last state, in a list that is just long enough
unfoldable two : Header
two = record { units = 1; delay = 0; decoder = 4; level = 0; buckets = record { size = 3; drain = 2; fill = 0 } ∷ record { size = 5; drain = 6; fill = 5 } ∷ []; rates = 2; choices = 1 }

job_of_two : trial_call two 4294967295 (replicate 46 9) ≡ record { answer = gives 46; list = 26 ∷ 0 ∷ 8 ∷ 0 ∷ 1 ∷ 0 ∷ 0 ∷ 0 ∷ 4 ∷ 0 ∷ 3 ∷ 0 ∷ 2 ∷ 0 ∷ 0 ∷ 0 ∷ 0 ∷ 0 ∷ 2 ∷ 0 ∷ 1 ∷ 0 ∷ 5 ∷ 0 ∷ 6 ∷ 0 ∷ 5 ∷ 0 ∷ 6 ∷ 0 ∷ 2 ∷ 0 ∷ 1 ∷ 0 ∷ 5 ∷ 0 ∷ 8 ∷ 0 ∷ 3 ∷ 0 ∷ 3 ∷ 0 ∷ 127 ∷ 161 ∷ 0 ∷ 0 ∷ [] }
unfolding computes two build draw next after zip_with parted codings_from job_from refusal guarded unless over refuse rate_drawn size_drawn distortion_drawn trial_rates trial_sizes trial_distortions trial_job trial_limits trial_room trial_refusal trial_call
job_of_two = refl

-- a byte less, and 12
too_short : trial_call two 4294967295 (replicate 45 9) ≡ refuse (replicate 45 9) 12
unfolding computes two build draw next after zip_with parted codings_from job_from refusal guarded unless over refuse rate_drawn size_drawn distortion_drawn trial_rates trial_sizes trial_distortions trial_job trial_limits trial_room trial_refusal trial_call
too_short = refl
