-- What the values of the exported calls are, as lists of numbers, and how many buckets a line has.
use Rattle.std.specs.Prelude.{ℕ, zero, suc, ◌+◌, List, [], ◌∷◌, length, replicate}
use Rattle.model.specs.Admissible as v
use Rattle.model.specs.Pins.{PinTotals}
use Rattle.model.specs.Replay as model
use Rattle.format.specs.JobBytes.{Header, job_in}
use Rattle.interval.specs.declared.Totals.{Totals}
use Rattle.interval.specs.Answers.{totals_of}
use Rattle.replaying.specs.Calls.{Replayed, totals_are, violated}
use Rattle.table.specs.Answers.{table_words}

-- how many buckets the line of the job has that stands in bytes
abbrev pub buckets_in : List ℕ → ℕ
buckets_in b = length (job_in b).line.buckets

-- how many bytes a job took, N, T, and how many words its table has
unfoldable pub opened_values : ℕ → Header → List ℕ
opened_values k h = k ∷ h.units ∷ (h.units + h.delay) ∷ table_words h ∷ []

-- how many pins there are, the sum of their sizes and the sum of their distortions
unfoldable pub pins_list : PinTotals → List ℕ
pins_list t = t.count ∷ t.size ∷ t.distortion ∷ []

-- distortion, source size, channel size, and of each bucket the drain that went unused
unfoldable pub totals_list : model.Totals → List ℕ
totals_list t = t.distortion ∷ t.source ∷ t.channel ∷ t.unused

unfoldable pub totals_values : Totals → List ℕ
totals_values t = totals_list (totals_of t)

-- the violations by their numbers: document 01's, counted from 1 in the order in which it names them, then the second bucket's (document 02, E5)
unfoldable pub violation_number : v.Violation → ℕ
violation_number v.decoder_underflow = 1
violation_number v.decoder_overflow = 2
violation_number (v.bucket_overflow zero) = 3
violation_number (v.bucket_overflow (suc i)) = 5
violation_number v.pin_not_held = 4

-- the violation's number, or 0, its interval, or 0, and the totals, 0 where there is a violation, over so many buckets
unfoldable pub replayed_list : ℕ → Replayed → List ℕ
replayed_list k (totals_are t) = 0 ∷ 0 ∷ totals_list t
replayed_list k (violated n x) = violation_number x ∷ n ∷ replicate (3 + k) 0
