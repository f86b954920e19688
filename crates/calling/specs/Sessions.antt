-- A session of calls in one call: pins and lifts in turn from the set that opening answers, refused ones included, and what comes after them: nothing more, planning, or a replay. And what the program reads: a job with commands behind it, and planning.
use Rattle.std.specs.Prelude.{ℕ, ◌*◌, ◌/◌, List, [], ◌∷◌, ◌++◌, map, leb, eqb, length, if◌then◌else◌}
use Rattle.std.proofs.Math.Option.{Option, none, some}
use Rattle.base.specs.Answer.{gives}
use Rattle.base.specs.Refusals.{Test, test, unless, guarded}
use Rattle.base.specs.Lent.{Ended, over, put}
use Rattle.base.specs.Lent as lent
use Rattle.model.specs.Job.{Job, intervals}
use Rattle.model.specs.Pins.{PinTotals}
use Rattle.model.specs.Best.{Order, late, early, Aim, total, even}
use Rattle.model.specs.Table.{words}
use Rattle.format.specs.Parser.{on_read, refusal_in}
use Rattle.format.specs.JobBytes.{parse, Door, opening, archive}
use Rattle.pinning.specs.PinSet.{PinSet}
use Rattle.pinning.specs.Check.{checked}
use Rattle.pinning.specs.Calls.{CallsMade, open_call, run}
use Rattle.replaying.specs.Entries.{entry_size}
use Rattle.replaying.specs.Calls.{Replayed, replay_tests, replay_call}
use Rattle.planning.specs.Calls.{Planned, plan_tests, plan_call}
use Rattle.planning.specs.Calls as plan
use Rattle.calling.specs.Commands.{commands_call, calls_of, calls_tests}

-- the calls, made in turn on the set that a door answers
unfoldable pub made : Door → List ℕ → List ℕ → CallsMade
made d b calls = run b (open_call d b).set (calls_of calls)

-- 0 for a call that was taken, else the number that refused it
unfoldable pub answer_number : Option ℕ → ℕ
answer_number none = 0
answer_number (some n) = n

unfoldable pub numbers : List ℕ → List ℕ → List ℕ
numbers b calls = map answer_number (made opening b calls).answers

-- The calls alone: each one's number goes to a list, and the answer has the totals of the set that they leave.
unfoldable pub answers_tests : List ℕ → ℕ → List Test
answers_tests calls answers = calls_tests calls ++ (test 12 (leb (length calls / 3) answers) ∷ [])

unfoldable pub calls_refusal : List ℕ → List ℕ → ℕ → Option ℕ
calls_refusal b calls answers = refusal_in (parse opening b) (λ j. answers_tests calls answers)

unfoldable pub calls_call : List ℕ → List ℕ → List ℕ → Ended PinTotals
calls_call b calls answers = on_read (lent.refuse answers) (parse opening b) (λ j. guarded (lent.refuse answers) (answers_tests calls (length answers)) (record { answer = gives (made opening b calls).set.totals; list = over (numbers b calls) answers }))

-- Aim and order as numbers: 0 names the total and 1 even pictures (document 02, E7), 0 early and 1 late (E10); no other number names one.
unfoldable pub aim_named : ℕ → Aim
aim_named n = if eqb n 1 then even else total

unfoldable pub order_named : ℕ → Order
order_named n = if eqb n 1 then late else early

-- a number that names no aim, then one that names no order is 2
abbrev pub named_tests : ℕ → ℕ → List Test
named_tests aim order = test 2 (leb aim 1) ∷ test 2 (leb order 1) ∷ []

-- what is asked, by numbers: aim and order, 2, then the calls, 2 or 1
unfoldable pub asked_tests : List ℕ → ℕ → ℕ → List Test
asked_tests calls aim order = named_tests aim order ++ calls_tests calls

-- The calls and the planning after them: what planning answers and leaves, and the list for the calls' numbers.
pub record Session : Type 0 where
  pub answers : List ℕ
  pub planned : Planned

-- a refusal writes nothing
unfoldable pub refuse : List ℕ → List ℕ → List ℕ → ℕ → Session
refuse answers table entries n = record { answers = answers; planned = plan.refuse table entries n }

-- all that is looked at before a call is made: what is asked, then the table, 11, then the lists for the numbers and the entries, 12
unfoldable pub session_tests : Job → List ℕ → ℕ → ℕ → ℕ → ℕ → ℕ → List Test
session_tests j calls aim order answers table entries = asked_tests calls aim order ++ (test 11 (leb (words j) table) ∷ test 12 (leb (length calls / 3) answers) ∷ test 12 (leb (entry_size * intervals j) entries) ∷ [])

unfoldable pub plan_refusal : List ℕ → List ℕ → ℕ → ℕ → ℕ → ℕ → ℕ → Option ℕ
plan_refusal b calls aim order answers table entries = refusal_in (parse opening b) (λ j. session_tests j calls aim order answers table entries)

-- the numbers are written where there is a plan: "no plan" writes the table alone
unfoldable pub planned_after : List ℕ → List ℕ → ℕ → ℕ → List ℕ → List ℕ → List ℕ → Session
planned_after b calls aim order answers table entries = record {
  answers = put (plan_call b (made opening b calls).set (aim_named aim) (order_named order) table entries).answer (λ t. numbers b calls) answers;
  planned = plan_call b (made opening b calls).set (aim_named aim) (order_named order) table entries;
}

unfoldable pub session_call : List ℕ → List ℕ → ℕ → ℕ → List ℕ → List ℕ → List ℕ → Session
session_call b calls aim order answers table entries = on_read (refuse answers table entries) (parse opening b) (λ j. guarded (refuse answers table entries) (session_tests j calls aim order (length answers) (length table) (length entries)) (planned_after b calls aim order answers table entries))

-- a replay after calls is refused by the calls, 2 or 1, then by what replay is tested for
unfoldable pub replay_refusal : List ℕ → List ℕ → List ℕ → ℕ → Option ℕ
replay_refusal b calls entries levels = refusal_in (parse archive b) (λ j. calls_tests calls ++ replay_tests j entries levels)

-- The calls and a replay after them, of any job that the archive takes: the job, 1 to 5, then the calls, 2 or 1, then as replay does.
unfoldable pub replay_session : List ℕ → List ℕ → List ℕ → List ℕ → Ended Replayed
replay_session b calls entries levels = on_read (lent.refuse levels) (parse archive b) (λ j. guarded (lent.refuse levels) (calls_tests calls) (replay_call b (made archive b calls).set entries levels))

-- how many bytes the program takes
abbrev pub input_size : ℕ
input_size = 32768

-- what the program plans: 15 first, then a job and commands to the end of the bytes, the first refusal ending it, then planning for the least total, in the early order (document 02, E10)
unfoldable pub input_call : List ℕ → List ℕ → List ℕ → Planned
input_call b table entries = guarded (plan.refuse table entries) (test 15 (leb (length b) input_size) ∷ []) (unless (plan.refuse table entries) (commands_call b).refused (plan_call b (commands_call b).set total early table entries))

-- With a set in place of calls: what refuses planning before the search, and a replay: the job by its door, the set, 6, aim and order, 2, then the lists.
unfoldable pub set_plan_tests : Job → ℕ → ℕ → ℕ → ℕ → List Test
set_plan_tests j aim order table entries = named_tests aim order ++ plan_tests j 0 table entries

unfoldable pub set_plan_refusal : List ℕ → PinSet → ℕ → ℕ → ℕ → ℕ → Option ℕ
set_plan_refusal b s aim order table entries = refusal_in (checked opening b s) (λ j. set_plan_tests j aim order table entries)

unfoldable pub set_replay_refusal : List ℕ → PinSet → List ℕ → ℕ → Option ℕ
set_replay_refusal b s entries levels = refusal_in (checked archive b s) (λ j. replay_tests j entries levels)
