-- What the exported change of contract answers and leaves (document 02, E12): the inner call's answer as a number, 0 where it is not refused, and its totals in a list that is lent; and what is claimed of it.
use Rattle.std.specs.Prelude.{ℕ, ◌+◌, ◌≤◌, ◌≡◌, ◌↔◌, List, [], ◌∷◌, ◌++◌, length}
use Rattle.std.proofs.Math.Option.{Option}
use Rattle.base.specs.Answer.{gives}
use Rattle.base.specs.Refusals.{Test, refusal, unless, first, Condition, condition}
use Rattle.base.specs.Lent.{over}
use Rattle.model.specs.Job.{Job, Entry}
use Rattle.model.specs.Pins.{PinMap}
use Rattle.model.specs.Admissible.{Admissible}
use Rattle.model.specs.Replay.{Totals}
use Rattle.format.specs.Parser.{refusal_in, Looks}
use Rattle.format.specs.JobBytes.{opening, parse}
use Rattle.pinning.specs.PinSet.{PinSet, lines}
use Rattle.pinning.specs.Check.{Matches, checked}
use Rattle.pinning.specs.Numbers.{set_in}
use Rattle.planning.specs.Calls as planning
use Rattle.planning.specs.Seeing.{pins_of}
use Rattle.changing.specs.NewContract.{Contract, under}
use Rattle.changing.specs.Calls.{change_tests, change_call}
use Rattle.changing.specs.Claims.{Asks, ChangeClaim}
use Rattle.calling.specs.Sessions.{order_named, named_tests}
use Rattle.calling.specs.Claims.{Either}
use Rattle.values.specs.Lists.{buckets_in}
use Rattle.exporting.specs.Exports.{room_for}
use Rattle.exporting.specs.Sets.{SetPlanned, set_planned, after_plan}

-- what is asked of a job that the set matches: a number that names no order is 2, before all that a change is tested for; there is no aim but the total, which is 0
unfoldable pub change_asked : Job → PinMap → ℕ → List ℕ → ℕ → Contract → ℕ → ℕ → List Test
change_asked j m order old s c table entries = named_tests 0 order ++ change_tests j m old s c table entries

-- what refuses a change before the search: the job, 1 to 5 and 17, the set, 6, then the above
unfoldable pub set_change_refusal : List ℕ → PinSet → ℕ → List ℕ → ℕ → Contract → ℕ → ℕ → Option ℕ
set_change_refusal b p order old s c table entries = refusal_in (checked opening b p) (λ j. change_asked j (lines (length j.units) p.pins) order old s c table entries)

-- then 12 for the values, then the change
unfoldable pub change_export : List ℕ → List ℕ → List ℕ → ℕ → Contract → ℕ → List ℕ → List ℕ → List ℕ → SetPlanned
change_export b set old s c order table entries values =
    unless (λ n. set_planned n table entries values) (first (set_change_refusal b (set_in set) order old s c (length table) (length entries)) (refusal (room_for (3 + buckets_in b) values)))
    (after_plan (change_call b (set_in set) old s c (order_named order) table entries) values)

-- where nothing of these refuses: the numbers are those of a change of which the claim of `changing` holds
pub record Changing (j : Job) (set old : List ℕ) (s : ℕ) (c : Contract) (order : ℕ) (table entries values : List ℕ) (r : SetPlanned) : Type 0 where
  pub planned : planning.Planned
  pub claim : ChangeClaim j (pins_of j (set_in set)) old s c (order_named order) table entries planned
  pub is : r ≡ after_plan planned values
  pub lists : (r.table ≡ planned.table) × (r.entries ≡ planned.entries)
  pub values_are : (t : Totals) → planned.answer ≡ gives t → r.values ≡ over (t.distortion ∷ t.source ∷ t.channel ∷ t.unused) values
  -- 13 is answered exactly where no continuation is admissible, and then nothing but the table is written; else the answer is 0
  pub none_iff : (r.number ≡ 13) ↔ ((p : List Entry) → Admissible (under j c) (pins_of j (set_in set)) s claim.at p → ⊥)
  pub none_kept : r.number ≡ 13 → (r.entries ≡ entries) × (r.values ≡ values)
  pub else_done : (r.number ≡ 13 → ⊥) → r.number ≡ 0

-- what the call asks of a job that opens, the values aside
abbrev pub ChangeConditions : Job → List ℕ → List ℕ → ℕ → Contract → ℕ → List ℕ → List ℕ → List Condition
ChangeConditions j set old s c order table entries = condition 6 (Matches j (set_in set)) ∷ condition 2 (Either order) ∷ Asks j (pins_of j (set_in set)) old s c table entries

abbrev pub Changes : Type 0
Changes = (b set old : List ℕ) (s : ℕ) (c : Contract) (order : ℕ) (table entries values : List ℕ) → Looks (change_export b set old s c order table entries values) (λ n. set_planned n table entries values) (parse opening b) (λ j. ChangeConditions j set old s c order table entries ++ (condition 12 (3 + length j.line.buckets ≤ length values) ∷ [])) (λ j. Changing j set old s c order table entries values (change_export b set old s c order table entries values))
