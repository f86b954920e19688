-- Document 01's cases of Job A that are marked (m), those of pins, replay and report, and cases of Job A with another delay or a second bucket worked out by hand: what is asked, and what document 01 says, or by document 02, E2, E3 and E5, would.
use Rattle.std.specs.Prelude.{ℕ, ◌≡◌, List, [], ◌∷◌, map, set, replicate}
use Rattle.std.proofs.Math.Option.{Option, none, some}
use Rattle.base.specs.Answer.{refused, gives}
use Rattle.model.specs.Admissible.{decoder_overflow, decoder_underflow, bucket_overflow, pin_not_held}
use Rattle.model.specs.Pins.{Call, pin, lift, PinTotals}
use Rattle.format.specs.JobBytes.{opening, archive}
use Rattle.format.specs.JobA.{bytes_a, bytes_a8}
use Rattle.pinning.specs.PinSet.{PinSet}
use Rattle.pinning.specs.Calls.{open_call, run}
use Rattle.base.specs.Lent.{Ended}
use Rattle.replaying.specs.Calls.{Replayed, totals_are, violated, replay_call, report_call}

-- Job A with the delay d
unfoldable pub delayed : ℕ → List ℕ
delayed d = set bytes_a 6 d

-- calls are made on the set that opening answers; then their answers and the set's totals are asked for, or a replay, of a job and with so many numbers lent, or a report. The lists that are lent are of sevens
pub data Question : Type 0 where
  calls : List Call → Question
  replays_with : List ℕ → ℕ → List Call → List ℕ → Question
  reports : List ℕ → Question

abbrev pub replays : List Call → List ℕ → Question
replays ks entries = replays_with bytes_a 7 ks entries

pub data Reply : Type 0 where
  answered : List (Option ℕ) → PinTotals → Reply
  replayed : Ended Replayed → Reply
  reported : Ended (Unit {0}) → Reply

unfoldable pub set_after : List ℕ → List Call → PinSet
set_after b ks = (run b (open_call archive b).set ks).set

unfoldable pub reply : Question → Reply
reply (calls ks) = answered (run bytes_a (open_call opening bytes_a).set ks).answers (set_after bytes_a ks).totals
reply (replays_with b room ks entries) = replayed (replay_call b (set_after b ks) entries (replicate room 7))
reply (reports entries) = reported (report_call bytes_a entries (replicate 4 7))

unfoldable pub questions : List Question
questions =
    -- lift on a fresh desk
    calls (lift 1 ∷ [])
    -- unit 1 pinned at 0, and lifted
    ∷ calls (pin 1 0 ∷ [])
    ∷ calls (pin 1 0 ∷ lift 1 ∷ [])
    -- the plan that is printed since document 02, E2, and the one of 42 before it
    ∷ replays [] (0 ∷ 255 ∷ 255 ∷ 2 ∷ 0 ∷ 0 ∷ 1 ∷ 1 ∷ 0 ∷ [])
    ∷ replays [] (1 ∷ 255 ∷ 255 ∷ 1 ∷ 1 ∷ 0 ∷ 2 ∷ 0 ∷ 0 ∷ [])
    -- the plan with unit 1 pinned at 0
    ∷ replays (pin 1 0 ∷ []) (0 ∷ 255 ∷ 255 ∷ 2 ∷ 0 ∷ 0 ∷ 1 ∷ 1 ∷ 0 ∷ [])
    -- every drain is used; and all is sent at once, so that the bucket still drains in interval 2, and interval 3 has nothing left to drain
    ∷ replays [] (1 ∷ 255 ∷ 255 ∷ 1 ∷ 1 ∷ 0 ∷ 1 ∷ 1 ∷ 0 ∷ [])
    ∷ replays [] (2 ∷ 255 ∷ 255 ∷ 0 ∷ 1 ∷ 0 ∷ 0 ∷ 1 ∷ 0 ∷ [])
    ∷ replays [] (2 ∷ 255 ∷ 255 ∷ 2 ∷ 1 ∷ 0 ∷ 0 ∷ 0 ∷ 0 ∷ [])
    ∷ replays [] (0 ∷ 255 ∷ 255 ∷ 0 ∷ 1 ∷ 0 ∷ 0 ∷ 1 ∷ 0 ∷ [])
    -- a list that is just enough, and one that is a number too short
    ∷ replays_with bytes_a 6 [] (0 ∷ 255 ∷ 255 ∷ 2 ∷ 0 ∷ 0 ∷ 1 ∷ 1 ∷ 0 ∷ [])
    ∷ replays_with bytes_a 5 [] (0 ∷ 255 ∷ 255 ∷ 2 ∷ 0 ∷ 0 ∷ 1 ∷ 1 ∷ 0 ∷ [])
    -- delay 2: intervals 3 and 4 decode units 1 and 2. Unit 1 is pinned at 0, at 1, and unit 2 at 0
    ∷ replays_with (delayed 2) 8 (pin 1 0 ∷ []) (0 ∷ 255 ∷ 255 ∷ 0 ∷ 255 ∷ 255 ∷ 2 ∷ 0 ∷ 0 ∷ 1 ∷ 1 ∷ 0 ∷ [])
    ∷ replays_with (delayed 2) 8 (pin 1 1 ∷ []) (0 ∷ 255 ∷ 255 ∷ 0 ∷ 255 ∷ 255 ∷ 2 ∷ 0 ∷ 0 ∷ 1 ∷ 1 ∷ 0 ∷ [])
    ∷ replays_with (delayed 2) 8 (pin 2 0 ∷ []) (0 ∷ 255 ∷ 255 ∷ 0 ∷ 255 ∷ 255 ∷ 2 ∷ 0 ∷ 0 ∷ 1 ∷ 1 ∷ 0 ∷ [])
    ∷ replays_with (delayed 2) 7 (pin 1 0 ∷ []) (0 ∷ 255 ∷ 255 ∷ 0 ∷ 255 ∷ 255 ∷ 2 ∷ 0 ∷ 0 ∷ 1 ∷ 1 ∷ 0 ∷ [])
    -- delay 0: intervals 1 and 2 decode them. Unit 1 is pinned at 0, at 1, and unit 2 at 0
    ∷ replays_with (delayed 0) 4 (pin 1 0 ∷ []) (2 ∷ 0 ∷ 0 ∷ 1 ∷ 1 ∷ 0 ∷ [])
    ∷ replays_with (delayed 0) 4 (pin 1 1 ∷ []) (2 ∷ 0 ∷ 0 ∷ 1 ∷ 1 ∷ 0 ∷ [])
    ∷ replays_with (delayed 0) 4 (pin 2 0 ∷ []) (2 ∷ 0 ∷ 0 ∷ 1 ∷ 1 ∷ 0 ∷ [])
    ∷ replays_with (delayed 0) 3 (pin 1 0 ∷ []) (2 ∷ 0 ∷ 0 ∷ 1 ∷ 1 ∷ 0 ∷ [])
    -- document 02, E5: a second bucket that never binds, one that fills, one that is over where the first is not, and one where both are over at once
    ∷ replays_with (bytes_a8 63 4 0) 10 [] (0 ∷ 255 ∷ 255 ∷ 2 ∷ 0 ∷ 0 ∷ 1 ∷ 1 ∷ 0 ∷ [])
    ∷ replays_with (bytes_a8 63 1 5) 9 [] (0 ∷ 255 ∷ 255 ∷ 2 ∷ 0 ∷ 0 ∷ 1 ∷ 1 ∷ 0 ∷ [])
    ∷ replays_with (bytes_a8 1 2 0) 9 [] (0 ∷ 255 ∷ 255 ∷ 2 ∷ 0 ∷ 0 ∷ 1 ∷ 1 ∷ 0 ∷ [])
    ∷ replays_with (set (bytes_a8 1 2 0) 16 3) 9 [] (2 ∷ 255 ∷ 255 ∷ 0 ∷ 1 ∷ 0 ∷ 0 ∷ 1 ∷ 0 ∷ [])
    -- a pin that is not held there, and a list that is a number too short
    ∷ replays_with (bytes_a8 63 4 0) 9 (pin 2 0 ∷ []) (0 ∷ 255 ∷ 255 ∷ 2 ∷ 0 ∷ 0 ∷ 1 ∷ 1 ∷ 0 ∷ [])
    ∷ replays_with (bytes_a8 63 4 0) 8 [] (0 ∷ 255 ∷ 255 ∷ 2 ∷ 0 ∷ 0 ∷ 1 ∷ 1 ∷ 0 ∷ [])
    -- effective buffers of the 42 plan
    ∷ reports (1 ∷ 255 ∷ 255 ∷ 1 ∷ 1 ∷ 0 ∷ 2 ∷ 0 ∷ 0 ∷ [])
    ∷ []

-- the levels and sums, then what is left of the list
unfoldable pub replies : List Reply
replies =
    answered (some 10 ∷ []) (record { count = 0; size = 0; distortion = 0 })
    ∷ answered (none ∷ []) (record { count = 1; size = 4; distortion = 10 })
    ∷ answered (none ∷ none ∷ []) (record { count = 0; size = 0; distortion = 0 })
    ∷ replayed (record { answer = gives (totals_are (record { distortion = 50; source = 6; channel = 6; unused = 2 ∷ [] })); list = 0 ∷ 0 ∷ 0 ∷ 2 ∷ 0 ∷ 2 ∷ 7 ∷ [] })
    ∷ replayed (record { answer = gives (violated 3 decoder_overflow); list = 2 ∷ 0 ∷ 2 ∷ 0 ∷ 7 ∷ 7 ∷ 7 ∷ [] })
    ∷ replayed (record { answer = gives (totals_are (record { distortion = 50; source = 6; channel = 6; unused = 2 ∷ [] })); list = 0 ∷ 0 ∷ 0 ∷ 2 ∷ 0 ∷ 2 ∷ 7 ∷ [] })
    ∷ replayed (record { answer = gives (totals_are (record { distortion = 70; source = 4; channel = 6; unused = 0 ∷ [] })); list = 2 ∷ 0 ∷ 2 ∷ 0 ∷ 2 ∷ 0 ∷ 7 ∷ [] })
    ∷ replayed (record { answer = gives (totals_are (record { distortion = 70; source = 4; channel = 4; unused = 2 ∷ [] })); list = 4 ∷ 2 ∷ 2 ∷ 0 ∷ 0 ∷ 0 ∷ 7 ∷ [] })
    ∷ replayed (record { answer = gives (violated 2 decoder_overflow); list = 4 ∷ 2 ∷ 7 ∷ 7 ∷ 7 ∷ 7 ∷ 7 ∷ [] })
    ∷ replayed (record { answer = gives (violated 2 decoder_underflow); list = 0 ∷ 0 ∷ 7 ∷ 7 ∷ 7 ∷ 7 ∷ 7 ∷ [] })
    ∷ replayed (record { answer = gives (totals_are (record { distortion = 50; source = 6; channel = 6; unused = 2 ∷ [] })); list = 0 ∷ 0 ∷ 0 ∷ 2 ∷ 0 ∷ 2 ∷ [] })
    ∷ replayed (record { answer = refused 12; list = replicate 5 7 })
    ∷ replayed (record { answer = gives (totals_are (record { distortion = 50; source = 6; channel = 6; unused = 4 ∷ [] })); list = 0 ∷ 0 ∷ 0 ∷ 0 ∷ 0 ∷ 2 ∷ 0 ∷ 2 ∷ [] })
    ∷ replayed (record { answer = gives (violated 3 pin_not_held); list = 0 ∷ 0 ∷ 0 ∷ 0 ∷ 7 ∷ 7 ∷ 7 ∷ 7 ∷ [] })
    ∷ replayed (record { answer = gives (violated 4 pin_not_held); list = 0 ∷ 0 ∷ 0 ∷ 0 ∷ 0 ∷ 2 ∷ 7 ∷ 7 ∷ [] })
    ∷ replayed (record { answer = refused 12; list = replicate 7 7 })
    ∷ replayed (record { answer = gives (totals_are (record { distortion = 50; source = 6; channel = 6; unused = 0 ∷ [] })); list = 0 ∷ 2 ∷ 0 ∷ 2 ∷ [] })
    ∷ replayed (record { answer = gives (violated 1 pin_not_held); list = 7 ∷ 7 ∷ 7 ∷ 7 ∷ [] })
    ∷ replayed (record { answer = gives (violated 2 pin_not_held); list = 0 ∷ 2 ∷ 7 ∷ 7 ∷ [] })
    ∷ replayed (record { answer = refused 12; list = replicate 3 7 })
    ∷ replayed (record { answer = gives (totals_are (record { distortion = 50; source = 6; channel = 6; unused = 2 ∷ 6 ∷ [] })); list = 0 ∷ 0 ∷ 0 ∷ 0 ∷ 2 ∷ 0 ∷ 0 ∷ 2 ∷ 0 ∷ 7 ∷ [] })
    ∷ replayed (record { answer = gives (totals_are (record { distortion = 50; source = 6; channel = 6; unused = 2 ∷ 0 ∷ [] })); list = 0 ∷ 0 ∷ 4 ∷ 0 ∷ 2 ∷ 7 ∷ 0 ∷ 2 ∷ 8 ∷ [] })
    ∷ replayed (record { answer = gives (violated 2 (bucket_overflow 1)); list = 0 ∷ 0 ∷ 0 ∷ 7 ∷ 7 ∷ 7 ∷ 7 ∷ 7 ∷ 7 ∷ [] })
    ∷ replayed (record { answer = gives (violated 1 (bucket_overflow 0)); list = replicate 9 7 })
    ∷ replayed (record { answer = gives (violated 3 pin_not_held); list = 0 ∷ 0 ∷ 0 ∷ 0 ∷ 2 ∷ 0 ∷ 7 ∷ 7 ∷ 7 ∷ [] })
    ∷ replayed (record { answer = refused 12; list = replicate 8 7 })
    ∷ reported (record { answer = gives tt; list = 2 ∷ 2 ∷ 4 ∷ 7 ∷ [] })
    ∷ []

-- one computed test of the whole table
abbrev pub Cases : Type 0
Cases = map reply questions ≡ replies
