-- What is claimed of the exported calls with a set as numbers: in which order each is refused, that a refusal writes nothing, 13 the table alone, and what it leaves else. Each claim is a type, which a theorem of proofs/ inhabits. What the numbers of a set are, and that any others are 6, is claimed in `pinning`.
use Rattle.std.specs.Prelude.{ℕ, ◌+◌, ◌*◌, ◌≤◌, ◌≡◌, ◌↔◌, List, [], ◌∷◌, ◌++◌, length}
use Rattle.base.specs.Answer.{gives}
use Rattle.base.specs.Refusals.{condition}
use Rattle.base.specs.Lent.{Ended, over}
use Rattle.model.specs.Job.{Job, Entry, intervals}
use Rattle.model.specs.Pins.{Call}
use Rattle.model.specs.Admissible.{Admissible}
use Rattle.model.specs.Replay.{Totals}
use Rattle.model.specs.Table.{words, word_at}
use Rattle.format.specs.Parser.{Looks}
use Rattle.format.specs.Parser as P
use Rattle.format.specs.JobBytes.{header_in, Door, opening, archive, parse}
use Rattle.pinning.specs.PinSet.{fresh}
use Rattle.pinning.specs.Check.{Matches}
use Rattle.pinning.specs.Calls.{called}
use Rattle.pinning.specs.Claims.{Asks}
use Rattle.pinning.specs.Numbers.{set_numbers, set_in}
use Rattle.replaying.specs.Entries.{plan_of}
use Rattle.replaying.specs.Calls.{Replayed}
use Rattle.replaying.specs.Claims.{InShape, DemandTwo}
use Rattle.planning.specs.Calls as planning
use Rattle.planning.specs.Claims.{PlanClaim}
use Rattle.planning.specs.See as sight
use Rattle.planning.specs.Seeing.{pins_of, SeeClaim}
use Rattle.calling.specs.Sessions.{aim_named, order_named}
use Rattle.calling.specs.Claims.{Either}
use Rattle.exporting.specs.Exports.{filled, Played, replayed, after_replay}
use Rattle.exporting.specs.Claims.{ReplayTold}
use Rattle.exporting.specs.Sets.{set_export, call_export, Seen, seen, see_export, SetPlanned, set_planned, after_plan, set_plan_export, set_replay_export}

-- the set without a pin, by either door: the job, 1 to 5 and 17, then room for its numbers
abbrev pub SetOpening : Type 0
SetOpening = (d : Door) (b set : List ℕ) → Looks (set_export d b set) (λ n. filled n set) (parse d b) (λ j. condition 12 (528 ≤ length set) ∷ []) (λ j. set_export d b set ≡ filled 0 (over (set_numbers (fresh (header_in j))) set))

-- a pin or a lift: the job, then what it asks of set, unit and choice; where nothing refuses it, the numbers of the new set are written
abbrev pub SetCalls : Type 0
SetCalls = (b set : List ℕ) (k : Call) → Looks (call_export b set k) (λ n. filled n set) (parse opening b) (λ j. Asks j (set_in set) k) (λ j. call_export b set k ≡ filled 0 (over (set_numbers (called j (set_in set) k)) set))

-- pin and see, lift and see: the table, 11, behind what the call asks, then room for the value; else the numbers of the new set, the table and its word
pub record SetSeen (j : Job) (set : List ℕ) (k : Call) (table values : List ℕ) (r : Seen) : Type 0 where
  pub see : sight.Seen
  pub claim : SeeClaim j (set_in set) k table see
  pub is : r ≡ seen 0 (over (set_numbers (called j (set_in set) k)) set) see.table (over (word_at j see.table 0 j.start ∷ []) values)

abbrev pub SetSees : Type 0
SetSees = (b set : List ℕ) (k : Call) (table values : List ℕ) → Looks (see_export b set k table values) (λ n. seen n set table values) (parse opening b) (λ j. Asks j (set_in set) k ++ (condition 11 (words j ≤ length table) ∷ condition 12 (1 ≤ length values) ∷ [])) (λ j. SetSeen j set k table values (see_export b set k table values))

-- planning with the pins of a set: demand 3
pub record SetPlanning (j : Job) (set : List ℕ) (aim order : ℕ) (table entries values : List ℕ) (r : SetPlanned) : Type 0 where
  pub planned : planning.Planned
  pub claim : PlanClaim j (pins_of j (set_in set)) (aim_named aim) (order_named order) 0 j.start table entries planned
  pub is : r ≡ after_plan planned values
  pub lists : (r.table ≡ planned.table) × (r.entries ≡ planned.entries)
  pub values_are : (t : Totals) → planned.answer ≡ gives t → r.values ≡ over (t.distortion ∷ t.source ∷ t.channel ∷ t.unused) values
  -- 13 is answered exactly where no plan is admissible, and then nothing but the table is written; else the answer is 0
  pub none_iff : (r.number ≡ 13) ↔ ((p : List Entry) → Admissible j (pins_of j (set_in set)) 0 j.start p → ⊥)
  pub none_kept : r.number ≡ 13 → (r.entries ≡ entries) × (r.values ≡ values)
  pub else_done : (r.number ≡ 13 → ⊥) → r.number ≡ 0

abbrev pub SetPlans : Type 0
SetPlans = (b set : List ℕ) (aim order : ℕ) (table entries values : List ℕ) → Looks (set_plan_export b set aim order table entries values) (λ n. set_planned n table entries values) (parse opening b) (λ j. condition 6 (Matches j (set_in set)) ∷ condition 2 (Either aim) ∷ condition 2 (Either order) ∷ condition 11 (words j ≤ length table) ∷ condition 12 (3 * intervals j ≤ length entries) ∷ condition 12 (3 + length j.line.buckets ≤ length values) ∷ []) (λ j. SetPlanning j set aim order table entries values (set_plan_export b set aim order table entries values))

-- a replay with them, of any job that the archive takes: demand 2
pub record SetReplaying (j : Job) (set entries levels values : List ℕ) (r : Played) : Type 0 where
  pub replay : Ended Replayed
  pub claim : DemandTwo j (pins_of j (set_in set)) (plan_of j entries) levels replay
  pub is : r ≡ after_replay (length j.line.buckets) replay values
  pub told : ReplayTold j values replay r

abbrev pub SetReplays : Type 0
SetReplays = (b set entries levels values : List ℕ) → Looks (set_replay_export b set entries levels values) (λ n. replayed n levels values) (parse archive b) (λ j. condition 6 (Matches j (set_in set)) ∷ condition 14 (InShape j entries) ∷ condition 12 ((1 + length j.line.buckets) * intervals j ≤ length levels) ∷ condition 12 (5 + length j.line.buckets ≤ length values) ∷ []) (λ j. SetReplaying j set entries levels values (set_replay_export b set entries levels values))
