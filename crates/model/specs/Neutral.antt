-- A bucket of size 0 that drains whatever is sent, in front of a line's buckets: it is always empty, and a line with one bucket can be treated as one with two.
use Rattle.std.specs.Prelude.{ℕ, suc, ◌∷◌}
use Rattle.model.specs.Job.{Bucket, Line, Levels}
use Rattle.model.specs.Admissible.{Violation, decoder_overflow, decoder_underflow, bucket_overflow, pin_not_held}
use Rattle.model.specs.Step.{Outcome, violates, reaches}

unfoldable pub neutral : ℕ → Bucket
neutral drain = record { size = 0; drain = drain }

unfoldable pub fronted : ℕ → Line → Line
fronted drain line = record { decoder = line.decoder; buckets = neutral drain ∷ line.buckets; rates = line.rates }

-- levels with the neutral bucket's in front
unfoldable pub front : Levels → Levels
front s = record { decoder = s.decoder; buckets = 0 ∷ s.buckets }

-- an outcome with it: the other buckets are one further on
unfoldable pub front_violation : Violation → Violation
front_violation decoder_overflow = decoder_overflow
front_violation decoder_underflow = decoder_underflow
front_violation (bucket_overflow i) = bucket_overflow (suc i)
front_violation pin_not_held = pin_not_held

unfoldable pub front_outcome : Outcome → Outcome
front_outcome (violates v) = violates (front_violation v)
front_outcome (reaches s) = reaches (front s)
