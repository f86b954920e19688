-- What is claimed of the exported calls: in which order each is refused, that a refusal writes nothing, 13 the table alone, and demands 2 and 3 of the call itself. Each claim is a type, which a theorem of proofs/ inhabits.
use Rattle.std.specs.Prelude.{ℕ, ◌+◌, ◌*◌, ◌/◌, ◌≤◌, ◌≡◌, ◌↔◌, ◌⊎◌, List, [], ◌∷◌, ◌++◌, length, replicate}
use Rattle.base.specs.Answer.{gives}
use Rattle.base.specs.Refusals.{Condition, condition, InOrder}
use Rattle.base.specs.Lent.{Ended, over}
use Rattle.model.specs.Job.{Job, Entry, intervals}
use Rattle.model.specs.Pins.{pin_totals}
use Rattle.model.specs.Replay.{Totals}
use Rattle.model.specs.Admissible.{Violation, Admissible}
use Rattle.model.specs.Table.{words}
use Rattle.format.specs.Parser.{Looks}
use Rattle.format.specs.Parser as P
use Rattle.format.specs.JobBytes.{header_of, Door, opening, archive, parse}
use Rattle.replaying.specs.Entries.{plan_of}
use Rattle.replaying.specs.Calls.{Replayed, totals_are, violated}
use Rattle.replaying.specs.Claims.{InShape, DemandTwo, Reported, WasPlan, Turned}
use Rattle.writing.specs.Claims.{Asks, Written}
use Rattle.trials.specs.Claims as trials
use Rattle.trials.specs.Claims.{Tried}
use Rattle.calling.specs.Sessions.{Session}
use Rattle.calling.specs.Claims.{Either, AllKinds, Whole, book_numbers, book_pins, archive_pins, SessionClaim}
use Rattle.values.specs.Lists.{pins_list, violation_number}
use Rattle.exporting.specs.Exports as x
use Rattle.exporting.specs.Exports.{opened, open_export, called, calls_export, planned, after_session, plan_export, replayed, after_replay, replay_export, Filled, filled, report_export, turn_export, written, write_export, trial_export}

-- the calls as numbers, before one is made
abbrev pub CallConditions : List ℕ → List Condition
CallConditions calls = condition 2 (AllKinds calls) ∷ condition 1 (Whole calls) ∷ []

-- opening by either door: the job, 1 to 5 and 17, then room for the four values: the bytes taken, N, T and the table's words
abbrev pub Opening : Type 0
Opening = (d : Door) (b values : List ℕ) → ((n : ℕ) → parse d b ≡ P.refused n → open_export d b values ≡ opened n values) × ((j : Job) (k : ℕ) → parse d b ≡ P.took j k → InOrder (open_export d b values) (λ n. opened n values) (condition 12 (4 ≤ length values) ∷ []) (open_export d b values ≡ opened 0 (over (k ∷ length j.units ∷ intervals j ∷ words j ∷ []) values)))

-- the calls alone: what the book answers each, and the totals of the book's lines
abbrev pub Calling : Type 0
Calling = (b calls answers values : List ℕ) → Looks (calls_export b calls answers values) (λ n. called n answers values) (parse opening b) (λ j. CallConditions calls ++ (condition 12 (length calls / 3 ≤ length answers) ∷ condition 12 (3 ≤ length values) ∷ [])) (λ j. calls_export b calls answers values ≡ called 0 (over (book_numbers j calls) answers) (over (pins_list (pin_totals j (book_pins j calls))) values))

-- planning after calls, of a job that opening takes, from lists that are long enough: the numbers are those of a session of which demand 3 holds
pub record Planning (j : Job) (calls : List ℕ) (aim order : ℕ) (answers table entries values : List ℕ) (r : x.Planned) : Type 0 where
  pub session : Session
  pub claim : SessionClaim j calls aim order answers table entries session
  pub is : r ≡ after_session session values
  -- the lists are the session's, and the values of a plan are its totals
  pub lists : (r.answers ≡ session.answers) × (r.table ≡ session.planned.table) × (r.entries ≡ session.planned.entries)
  pub values_are : (t : Totals) → session.planned.answer ≡ gives t → r.values ≡ over (t.distortion ∷ t.source ∷ t.channel ∷ t.unused) values
  -- so 13 is answered exactly where no plan is admissible, and then nothing but the table is written; else the answer is 0
  pub none_iff : (r.number ≡ 13) ↔ ((p : List Entry) → Admissible j (book_pins j calls) 0 j.start p → ⊥)
  pub none_kept : r.number ≡ 13 → (r.answers ≡ answers) × (r.entries ≡ entries) × (r.values ≡ values)
  pub else_done : (r.number ≡ 13 → ⊥) → r.number ≡ 0

abbrev pub PlanConditions : Job → List ℕ → ℕ → ℕ → List ℕ → List ℕ → List ℕ → List Condition
PlanConditions j calls aim order answers table entries = condition 2 (Either aim) ∷ condition 2 (Either order) ∷ CallConditions calls ++ (condition 11 (words j ≤ length table) ∷ condition 12 (length calls / 3 ≤ length answers) ∷ condition 12 (3 * intervals j ≤ length entries) ∷ [])

abbrev pub Plans : Type 0
Plans = (b calls : List ℕ) (aim order : ℕ) (answers table entries values : List ℕ) → Looks (plan_export b calls aim order answers table entries values) (λ n. planned n answers table entries values) (parse opening b) (λ j. PlanConditions j calls aim order answers table entries ++ (condition 12 (3 + length j.line.buckets ≤ length values) ∷ [])) (λ j. Planning j calls aim order answers table entries values (plan_export b calls aim order answers table entries values))

-- what is exported of a replay: the levels are the replay's, and the values are two zeros and the totals, or the violation's number, its interval and zeros
pub record ReplayTold (j : Job) (values : List ℕ) (replay : Ended Replayed) (r : x.Played) : Type 0 where
  pub levels_are : r.levels ≡ replay.list
  pub clean_values : (t : Totals) → replay.answer ≡ gives (totals_are t) → r.values ≡ over (0 ∷ 0 ∷ t.distortion ∷ t.source ∷ t.channel ∷ t.unused) values
  pub violated_values : (n : ℕ) (v : Violation) → replay.answer ≡ gives (violated n v) → r.values ≡ over (violation_number v ∷ n ∷ replicate (3 + length j.line.buckets) 0) values

-- a replay after calls, of a job that the archive takes: the numbers are those of a replay of which demand 2 holds; a violation is no refusal
pub record Replaying (j : Job) (calls entries levels values : List ℕ) (r : x.Played) : Type 0 where
  pub replay : Ended Replayed
  pub claim : DemandTwo j (archive_pins j calls) (plan_of j entries) levels replay
  pub is : r ≡ after_replay (length j.line.buckets) replay values
  pub told : ReplayTold j values replay r

abbrev pub ReplayConditions : Job → List ℕ → List ℕ → List ℕ → List Condition
ReplayConditions j calls entries levels = CallConditions calls ++ (condition 14 (InShape j entries) ∷ condition 12 ((1 + length j.line.buckets) * intervals j ≤ length levels) ∷ [])

abbrev pub Replays : Type 0
Replays = (b calls entries levels values : List ℕ) → Looks (replay_export b calls entries levels values) (λ n. replayed n levels values) (parse archive b) (λ j. ReplayConditions j calls entries levels ++ (condition 12 (5 + length j.line.buckets ≤ length values) ∷ [])) (λ j. Replaying j calls entries levels values (replay_export b calls entries levels values))

-- the report: the sums of (6)
pub record Reporting (j : Job) (entries sums : List ℕ) (r : Filled) : Type 0 where
  pub report : Ended (Unit {0})
  pub claim : Reported j (plan_of j entries) sums report
  pub is : r ≡ filled 0 report.list

abbrev pub Reports : Type 0
Reports = (b entries sums : List ℕ) → Looks (report_export b entries sums) (λ n. filled n sums) (parse archive b) (λ j. condition 14 (InShape j entries) ∷ condition 12 (length j.units + 1 ≤ length sums) ∷ []) (λ j. Reporting j entries sums (report_export b entries sums))

-- turning an old plan
pub record Turning (j : Job) (old entries : List ℕ) (r : Filled) : Type 0 where
  pub turn : Ended (Unit {0})
  pub claim : Turned j old entries turn
  pub is : r ≡ filled 0 turn.list

abbrev pub Turns : Type 0
Turns = (b old entries : List ℕ) → Looks (turn_export b old entries) (λ n. filled n entries) (parse archive b) (λ j. condition 14 (WasPlan j old) ∷ condition 12 (3 * intervals j ≤ length entries) ∷ []) (λ j. Turning j old entries (turn_export b old entries))

-- a job that is made of a header's fields: such as are neither nine nor twelve are no header; then what it asks itself, then room for the value, which is how many bytes the job took
pub record Making (Holds : ℕ → List ℕ → Type 0) (values : List ℕ) (r : x.Written) : Type 0 where
  pub taken : ℕ
  pub holds : Holds taken r.job
  pub is : r ≡ written 0 r.job (over (taken ∷ []) values)

abbrev pub Makes : List ℕ → List ℕ → List ℕ → x.Written → List Condition → (ℕ → List ℕ → Type 0) → Type 0
Makes fields job values r asks Holds = InOrder r (λ n. written n job values) (condition 3 ((length fields ≡ 9) ⊎ (length fields ≡ 12)) ∷ (asks ++ (condition 12 (1 ≤ length values) ∷ []))) (Making Holds values r)

-- writing, in the writer's own order
abbrev pub Writes : Type 0
Writes = (fields rates sizes distortions job values : List ℕ) → Makes fields job values (write_export fields rates sizes distortions job values) (Asks (header_of fields) rates sizes distortions job) (Written (header_of fields) rates sizes distortions job)

-- a trial job
abbrev pub Trials : Type 0
Trials = (fields : List ℕ) (state : ℕ) (job values : List ℕ) → Makes fields job values (trial_export fields state job values) (trials.Asks (header_of fields) job) (Tried (header_of fields) state job)
