-- What the exported calls answer and leave: the inner calls' answers as a number, 0 where a call is not refused, and values in a list.
use Rattle.std.specs.Prelude.{ℕ, ◌+◌, Bool, true, List, [], ◌∷◌, leb, eqb, length, if◌then◌else◌}
use Rattle.std.proofs.Math.Option.{Option}
use Rattle.base.specs.Answer.{Answer, refused, gives}
use Rattle.base.specs.Refusals.{Test, test, refusal, unless, first, guarded}
use Rattle.base.specs.Lent.{Ended, over, put}
use Rattle.model.specs.Pins.{PinTotals}
use Rattle.format.specs.Parser.{on_took}
use Rattle.format.specs.JobBytes.{header_of, header_in, Door, parse}
use Rattle.replaying.specs.Calls.{Replayed, report_call}
use Rattle.replaying.specs.Former.{turn_call}
use Rattle.writing.specs.Calls.{write_refusal, write_call}
use Rattle.trials.specs.Calls.{trial_refusal, trial_call}
use Rattle.calling.specs.Sessions.{calls_refusal, calls_call, Session, plan_refusal, session_call, replay_refusal, replay_session}
use Rattle.values.specs.Lists.{buckets_in, opened_values, pins_list, totals_list, replayed_list}

-- 0, or the number of the refusal
unfoldable pub number_of : {A : Type 0} → Answer A → ℕ
number_of (refused n) = n
number_of (gives a) = 0

-- 12: a list has room for so many values
abbrev pub room_for : ℕ → List ℕ → List Test
room_for n values = test 12 (leb n (length values)) ∷ []

pub record Opened : Type 0 where
  pub number : ℕ
  pub values : List ℕ

abbrev pub opened : ℕ → List ℕ → Opened
opened n values = record { number = n; values = values }

-- the job by its door, 1 to 5 and 17, then 12
unfoldable pub open_export : Door → List ℕ → List ℕ → Opened
open_export d b values = on_took (λ n. opened n values) (parse d b) (λ j k. guarded (λ n. opened n values) (room_for 4 values) (opened 0 (over (opened_values k (header_in j)) values)))

pub record Called : Type 0 where
  pub number : ℕ
  pub answers : List ℕ
  pub values : List ℕ

abbrev pub called : ℕ → List ℕ → List ℕ → Called
called n answers values = record { number = n; answers = answers; values = values }

unfoldable pub after_calls : Ended PinTotals → List ℕ → Called
after_calls r values = called (number_of r.answer) r.list (put r.answer pins_list values)

-- what refuses the calls, then 12 for the values, then the calls
unfoldable pub calls_export : List ℕ → List ℕ → List ℕ → List ℕ → Called
calls_export b calls answers values =
    unless (λ n. called n answers values) (first (calls_refusal b calls (length answers)) (refusal (room_for 3 values)))
    (after_calls (calls_call b calls answers) values)

pub record Planned : Type 0 where
  pub number : ℕ
  pub answers : List ℕ
  pub table : List ℕ
  pub entries : List ℕ
  pub values : List ℕ

abbrev pub planned : ℕ → List ℕ → List ℕ → List ℕ → List ℕ → Planned
planned n answers table entries values = record { number = n; answers = answers; table = table; entries = entries; values = values }

unfoldable pub after_session : Session → List ℕ → Planned
after_session r values = planned (number_of r.planned.answer) r.answers r.planned.table r.planned.entries (put r.planned.answer totals_list values)

unfoldable pub plan_export : List ℕ → List ℕ → ℕ → ℕ → List ℕ → List ℕ → List ℕ → List ℕ → Planned
plan_export b calls aim order answers table entries values =
    unless (λ n. planned n answers table entries values) (first (plan_refusal b calls aim order (length answers) (length table) (length entries)) (refusal (room_for (3 + buckets_in b) values)))
    (after_session (session_call b calls aim order answers table entries) values)

pub record Played : Type 0 where
  pub number : ℕ
  pub levels : List ℕ
  pub values : List ℕ

abbrev pub replayed : ℕ → List ℕ → List ℕ → Played
replayed n levels values = record { number = n; levels = levels; values = values }

unfoldable pub after_replay : ℕ → Ended Replayed → List ℕ → Played
after_replay k r values = replayed (number_of r.answer) r.list (put r.answer (replayed_list k) values)

unfoldable pub replay_export : List ℕ → List ℕ → List ℕ → List ℕ → List ℕ → Played
replay_export b calls entries levels values =
    unless (λ n. replayed n levels values) (first (replay_refusal b calls entries (length levels)) (refusal (room_for (5 + buckets_in b) values)))
    (after_replay (buckets_in b) (replay_session b calls entries levels) values)

-- a call that fills a list and answers no more than that it did
pub record Filled : Type 0 where
  pub number : ℕ
  pub list : List ℕ

abbrev pub filled : ℕ → List ℕ → Filled
filled n list = record { number = n; list = list }

unfoldable pub done_export : Ended (Unit {0}) → Filled
done_export e = filled (number_of e.answer) e.list

abbrev pub report_export : List ℕ → List ℕ → List ℕ → Filled
report_export b entries sums = done_export (report_call b entries sums)

abbrev pub turn_export : List ℕ → List ℕ → List ℕ → Filled
turn_export b old entries = done_export (turn_call b old entries)

pub record Written : Type 0 where
  pub number : ℕ
  pub job : List ℕ
  pub values : List ℕ

abbrev pub written : ℕ → List ℕ → List ℕ → Written
written n job values = record { number = n; job = job; values = values }

-- how many bytes the job took
unfoldable pub after_write : Ended ℕ → List ℕ → Written
after_write r values = written (number_of r.answer) r.list (put r.answer (λ taken. taken ∷ []) values)

-- nine fields are a header, or twelve
unfoldable pub header_fields : ℕ → Bool
header_fields n = if eqb n 12 then true else eqb n 9

-- a job is made of a header's fields: such as are neither nine nor twelve are no header; then what refuses the job itself, then room for the value
unfoldable pub job_export : List ℕ → Option ℕ → Ended ℕ → List ℕ → List ℕ → Written
job_export fields looked made job values =
    guarded (λ n. written n job values) (test 3 (header_fields (length fields)) ∷ [])
    (unless (λ n. written n job values) (first looked (refusal (room_for 1 values))) (after_write made values))

abbrev pub write_export : List ℕ → List ℕ → List ℕ → List ℕ → List ℕ → List ℕ → Written
write_export fields rates sizes distortions job values = job_export fields (write_refusal (header_of fields) rates sizes distortions (length job)) (write_call (header_of fields) rates sizes distortions job) job values

abbrev pub trial_export : List ℕ → ℕ → List ℕ → List ℕ → Written
trial_export fields state job values = job_export fields (trial_refusal (header_of fields) (length job)) (trial_call (header_of fields) state job) job values
