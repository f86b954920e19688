-- What an interval does to the levels: the levels at its end, or the first limit that it violates, tested in order (document 01, "Levels, interval by interval"; document 02, E2).
use Rattle.std.specs.Prelude.{ℕ, suc, ◌+◌, ◌-◌, Bool, true, false, ltb, eqb, pos, ◌+ℤ◌, ◌-ℤ◌, if◌then◌else◌}
use Rattle.std.proofs.Math.Option.{Option, none, some, map}
use mathlib.Core.List.{List, [], ◌∷◌, zip_with}
use Rattle.model.specs.Job.{Bucket, Line, Levels, Job, Entry, sends, takes}
use Rattle.model.specs.Pins.{PinMap, pin_at}
use Rattle.model.specs.Admissible.{Violation, bucket_overflow, pin_not_held, Decoded, breaks, holds, verify}

pub data Outcome : Type 0 where
  violates : Violation → Outcome
  reaches : Levels → Outcome

-- the decoder's part, from the level b where c is sent and r decoded: (16), and its limits
unfoldable pub decoder_step : ℕ → ℕ → ℕ → ℕ → Decoded
decoder_step size b c r = verify size (pos b +ℤ pos c) ((pos b +ℤ pos c) -ℤ pos r)

-- what a bucket does in an interval: it holds so much when the interval ends, and so much of its drain went unused (document 02, E3)
pub record Drained : Type 0 where
  pub level : ℕ
  pub unused : ℕ

-- a bucket's part, from the level l where c is sent: Example 1, and the drain that is left over
unfoldable pub bucket_step : ℕ → ℕ → ℕ → Drained
bucket_step drain l c = record { level = (l + c) - drain; unused = (drain - l) - c }

-- the levels of all buckets
unfoldable pub after_sending : ℕ → List Bucket → List ℕ → List ℕ
after_sending c ks ls = zip_with (λ k l. (bucket_step k.drain l c).level) ks ls

-- the first bucket that holds more than its size
unfoldable pub overfull : List Bucket → List ℕ → Option ℕ
overfull [] ls = none
overfull (k ∷ ks) [] = none
overfull (k ∷ ks) (l ∷ ls) = if ltb k.size l then some 0 else map suc (overfull ks ls)

unfoldable pub same_choice : Option ℕ → ℕ → Bool
same_choice none x = false
same_choice (some y) x = eqb y x

unfoldable pub pin_held : Option ℕ → Option ℕ → Bool
pin_held none c = true
pin_held (some x) c = same_choice c x

unfoldable pub or_overflow : Option ℕ → Outcome → Outcome
or_overflow none o = o
or_overflow (some i) o = violates (bucket_overflow i)

unfoldable pub after_decoder : Decoded → (ℕ → Outcome) → Outcome
after_decoder (breaks v) f = violates v
after_decoder (holds b) f = f b

-- b and ls are the levels before, c is sent and r decoded: the decoder, the buckets in turn, the pin
unfoldable pub outcome_of : Line → Option ℕ → Option ℕ → ℕ → List ℕ → ℕ → ℕ → Outcome
outcome_of line pinned choice b ls c r =
    after_decoder (decoder_step line.decoder b c r)
    (λ d. or_overflow (overfull line.buckets (after_sending c line.buckets ls))
    (if pin_held pinned choice then reaches (record { decoder = d; buckets = after_sending c line.buckets ls })
    else violates pin_not_held))

unfoldable pub outcome : Job → PinMap → ℕ → Levels → Entry → Outcome
outcome j m t s e =
    outcome_of j.line (pin_at j m t) e.choice s.decoder s.buckets (sends j e) (takes j t e)
