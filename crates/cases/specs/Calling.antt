-- Cases of command records, of calls as numbers and of what the program reads, of Job A and worked out by hand: what is asked, and what document 01 says, or by document 02, E2, E3 and E10, would.
use Rattle.std.specs.Prelude.{ℕ, ◌≡◌, List, [], ◌∷◌, ◌++◌, map, replicate, get_or, drop}
use Rattle.base.specs.Answer.{Answer, refused, gives}
use Rattle.base.specs.Lent.{Ended}
use Rattle.model.specs.Pins.{Call, pin, lift, PinTotals}
use Rattle.model.specs.Replay.{Totals}
use Rattle.format.specs.Parser as P
use Rattle.format.specs.JobA.{bytes_a, bytes_e}
use Rattle.cases.specs.Planning.{Reply, told, says, refuses}
use Rattle.calling.specs.Commands.{command}
use Rattle.calling.specs.Sessions.{Session, calls_call, session_call, input_call}

-- command records: what stands at the front of the bytes
unfoldable pub records : List (List ℕ)
records =
    (6 ∷ 0 ∷ 6 ∷ 0 ∷ 2 ∷ 0 ∷ 1 ∷ 0 ∷ 9 ∷ [])
    ∷ (6 ∷ 0 ∷ 6 ∷ 0 ∷ 2 ∷ 1 ∷ 4 ∷ 3 ∷ [])
    ∷ (4 ∷ 0 ∷ 7 ∷ 0 ∷ 2 ∷ 1 ∷ [])
    -- cut: before the kind, and in the body
    ∷ (6 ∷ 0 ∷ 6 ∷ [])
    ∷ (6 ∷ 0 ∷ 6 ∷ 0 ∷ 2 ∷ 0 ∷ 1 ∷ [])
    ∷ (4 ∷ 0 ∷ 7 ∷ 0 ∷ 2 ∷ [])
    -- another kind, another length, the other kind's length; each before the body is looked at
    ∷ (6 ∷ 0 ∷ 8 ∷ 0 ∷ [])
    ∷ (6 ∷ 0 ∷ 6 ∷ 1 ∷ [])
    ∷ (5 ∷ 0 ∷ 6 ∷ 0 ∷ [])
    ∷ (4 ∷ 0 ∷ 6 ∷ 0 ∷ [])
    ∷ (6 ∷ 0 ∷ 7 ∷ 0 ∷ [])
    ∷ []

unfoldable pub record_replies : List (P.Result Call)
record_replies =
    P.took (pin 2 1) 8
    ∷ P.took (pin 258 772) 8
    ∷ P.took (lift 258) 6
    ∷ P.refused 1
    ∷ P.refused 1
    ∷ P.refused 1
    ∷ P.refused 2
    ∷ P.refused 2
    ∷ P.refused 2
    ∷ P.refused 2
    ∷ P.refused 2
    ∷ []

-- Job A with commands behind it, as the program reads it; the table has 80 words and there are 9 bytes for entries
unfoldable pub input_reply : List ℕ → Reply
input_reply commands = told (input_call (bytes_a ++ commands) (replicate 80 9) (replicate 9 7))

abbrev pub pin_record : ℕ → ℕ → List ℕ
pin_record u x = 6 ∷ 0 ∷ 6 ∷ 0 ∷ u ∷ 0 ∷ x ∷ 0 ∷ []

abbrev pub lift_record : ℕ → List ℕ
lift_record u = 4 ∷ 0 ∷ 7 ∷ 0 ∷ u ∷ 0 ∷ []

unfoldable pub inputs : List (List ℕ)
inputs =
    []
    ∷ pin_record 1 0
    ∷ (pin_record 1 0 ++ lift_record 1)
    ∷ pin_record 1 1
    ∷ (pin_record 1 1 ++ lift_record 1)
    ∷ (pin_record 1 0 ++ pin_record 2 0)
    -- the first refusal ends it: 9 before the record that is cut, 10, 7, and a byte too many
    ∷ (pin_record 1 0 ++ (pin_record 1 1 ++ (6 ∷ [])))
    ∷ lift_record 1
    ∷ (pin_record 3 0 ++ lift_record 1)
    ∷ (pin_record 1 0 ++ (4 ∷ []))
    ∷ []

unfoldable pub input_replies : List Reply
input_replies =
    says 50 6 8 0 (2 ∷ 255 ∷ 255 ∷ 0 ∷ 0 ∷ 0 ∷ 2 ∷ 1 ∷ 0 ∷ [])
    ∷ says 50 6 8 0 (2 ∷ 255 ∷ 255 ∷ 0 ∷ 0 ∷ 0 ∷ 2 ∷ 1 ∷ 0 ∷ [])
    ∷ says 50 6 8 0 (2 ∷ 255 ∷ 255 ∷ 0 ∷ 0 ∷ 0 ∷ 2 ∷ 1 ∷ 0 ∷ [])
    ∷ says 70 4 6 0 (2 ∷ 255 ∷ 255 ∷ 0 ∷ 1 ∷ 0 ∷ 1 ∷ 1 ∷ 0 ∷ [])
    ∷ says 50 6 8 0 (2 ∷ 255 ∷ 255 ∷ 0 ∷ 0 ∷ 0 ∷ 2 ∷ 1 ∷ 0 ∷ [])
    ∷ refuses 13 (replicate 9 7)
    ∷ refuses 9 (replicate 9 7)
    ∷ refuses 10 (replicate 9 7)
    ∷ refuses 7 (replicate 9 7)
    ∷ refuses 1 (replicate 9 7)
    ∷ []

-- Job A with calls as numbers: their numbers, then what planning early answers
pub record Answers : Type 0 where
  pub numbers : List ℕ
  pub answer : Answer Totals

unfoldable pub answered : Session → Answers
answered r = record { numbers = r.answers; answer = r.planned.answer }

unfoldable pub session_reply : List ℕ → Answers
session_reply calls = answered (session_call bytes_a calls 0 0 (replicate 4 5) (replicate 80 9) (replicate 9 7))

unfoldable pub sessions : List (List ℕ)
sessions =
    -- a lift of a unit that is not pinned, a pin, the same unit again, a choice that there is not
    (7 ∷ 1 ∷ 0 ∷ 6 ∷ 1 ∷ 0 ∷ 6 ∷ 1 ∷ 1 ∷ 6 ∷ 2 ∷ 2 ∷ [])
    -- a pin that is worse and its lift, which does not look at the third number
    ∷ (6 ∷ 1 ∷ 1 ∷ 7 ∷ 1 ∷ 9 ∷ [])
    -- both units pinned at 0: no plan, and the numbers are not written
    ∷ (6 ∷ 1 ∷ 0 ∷ 6 ∷ 2 ∷ 0 ∷ [])
    -- another kind before a call that is cut, a call that is cut, one call more than there is room for
    ∷ (6 ∷ 1 ∷ 0 ∷ 5 ∷ 1 ∷ 0 ∷ 7 ∷ [])
    ∷ (6 ∷ 1 ∷ 0 ∷ 5 ∷ 1 ∷ [])
    ∷ (7 ∷ 1 ∷ 0 ∷ 7 ∷ 1 ∷ 0 ∷ 7 ∷ 1 ∷ 0 ∷ 7 ∷ 1 ∷ 0 ∷ 7 ∷ 1 ∷ 0 ∷ [])
    ∷ []

unfoldable pub session_replies : List Answers
session_replies =
    record { numbers = 10 ∷ 0 ∷ 9 ∷ 8 ∷ []; answer = gives (record { distortion = 50; source = 6; channel = 8; unused = 0 ∷ [] }) }
    ∷ record { numbers = 0 ∷ 0 ∷ 5 ∷ 5 ∷ []; answer = gives (record { distortion = 50; source = 6; channel = 8; unused = 0 ∷ [] }) }
    ∷ record { numbers = replicate 4 5; answer = refused 13 }
    ∷ record { numbers = replicate 4 5; answer = refused 2 }
    ∷ record { numbers = replicate 4 5; answer = refused 1 }
    ∷ record { numbers = replicate 4 5; answer = refused 12 }
    ∷ []

-- Job E by the numbers of aim and order: the total, even pictures, and numbers that name neither, before a call of another kind or one that is cut
unfoldable pub named_reply : List ℕ → Answers
named_reply l = answered (session_call (bytes_e 12 31) (drop 2 l) (get_or l 0 0) (get_or l 1 0) (replicate 4 5) (replicate 40 9) (replicate 9 7))

unfoldable pub named_sessions : List (List ℕ)
named_sessions =
    (0 ∷ 1 ∷ 7 ∷ 1 ∷ 0 ∷ [])
    ∷ (1 ∷ 1 ∷ 7 ∷ 1 ∷ 0 ∷ [])
    ∷ (2 ∷ 1 ∷ 7 ∷ 1 ∷ [])
    ∷ (1 ∷ 2 ∷ 7 ∷ 1 ∷ [])
    ∷ (1 ∷ 1 ∷ 7 ∷ 1 ∷ [])
    ∷ []

unfoldable pub named_replies : List Answers
named_replies =
    record { numbers = 10 ∷ 5 ∷ 5 ∷ 5 ∷ []; answer = gives (record { distortion = 41; source = 6; channel = 6; unused = 0 ∷ [] }) }
    ∷ record { numbers = 10 ∷ 5 ∷ 5 ∷ 5 ∷ []; answer = gives (record { distortion = 42; source = 6; channel = 6; unused = 0 ∷ [] }) }
    ∷ record { numbers = replicate 4 5; answer = refused 2 }
    ∷ record { numbers = replicate 4 5; answer = refused 2 }
    ∷ record { numbers = replicate 4 5; answer = refused 1 }
    ∷ []

-- Job A by the number of the order: early, then late
unfoldable pub order_reply : ℕ → Answer Totals
order_reply order = (session_call bytes_a [] 0 order [] (replicate 80 9) (replicate 9 7)).planned.answer

unfoldable pub order_replies : List (Answer Totals)
order_replies =
    gives (record { distortion = 50; source = 6; channel = 8; unused = 0 ∷ [] })
    ∷ gives (record { distortion = 50; source = 6; channel = 6; unused = 2 ∷ [] })
    ∷ refused 2
    ∷ []

-- the same calls without planning
unfoldable pub calls_reply : List ℕ → Ended PinTotals
calls_reply calls = calls_call bytes_a calls (replicate 4 5)

unfoldable pub calls_replies : List (Ended PinTotals)
calls_replies =
    record { answer = gives (record { count = 1; size = 4; distortion = 10 }); list = 10 ∷ 0 ∷ 9 ∷ 8 ∷ [] }
    ∷ record { answer = gives (record { count = 0; size = 0; distortion = 0 }); list = 0 ∷ 0 ∷ 5 ∷ 5 ∷ [] }
    ∷ record { answer = gives (record { count = 2; size = 9; distortion = 22 }); list = 0 ∷ 0 ∷ 5 ∷ 5 ∷ [] }
    ∷ record { answer = refused 2; list = replicate 4 5 }
    ∷ record { answer = refused 1; list = replicate 4 5 }
    ∷ record { answer = refused 12; list = replicate 4 5 }
    ∷ []

-- one computed test of each table
pub record Cases : Type 0 where
  pub commands : map command records ≡ record_replies
  pub inputs_are : map input_reply inputs ≡ input_replies
  pub sessions_are : map session_reply sessions ≡ session_replies
  pub named_are : map named_reply named_sessions ≡ named_replies
  pub orders_are : map order_reply (0 ∷ 1 ∷ 2 ∷ []) ≡ order_replies
  pub calls_are : map calls_reply sessions ≡ calls_replies
