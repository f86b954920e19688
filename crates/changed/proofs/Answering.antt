-- What a change of contract with a set as numbers answers and leaves, from what the calls within it answered, that there is room for its values, and what refuses it.
use Prim.Native.Nat.{ℕ, ◌+◌, ◌<◌, ◌≤◌}
use mathlib.Core.Path.{◌≡◌, sym, ◌∙◌, ap}
use mathlib.Core.Option.{Option, none, some}
use mathlib.Core.List.{List}
use lib.ListN.{length}
use Rattle.base.specs.Refusals.{refusal, unless, first}
use Rattle.base.proofs.Refusals.{refusal_join, unless_some, unless_none}
use Rattle.model.specs.Pins.{PinMap}
use Rattle.model.specs.Best.{Order}
use Rattle.format.specs.Parser as P
use Rattle.format.specs.Parser.{refusal_in}
use Rattle.format.specs.JobBytes.{Header, job_in, opening}
use Rattle.format.proofs.Opened.{units_are}
use Rattle.job.proofs.Answers.{Held}
use Rattle.pinning.specs.PinSet.{PinSet, lines}
use Rattle.pinning.specs.Check.{checked}
use Rattle.pinning.specs.Numbers.{set_in}
use Rattle.pinset.proofs.Answering.{ready, ready_took}
use Rattle.std.specs.Prelude.{Result}
use Rattle.interval.specs.declared.Totals.{Totals}
use Rattle.header.specs.declared.refusal.Refusal.{Refusal}
use Rattle.header.specs.Refusals.{code}
use Rattle.planner.specs.Answers as planner
use Rattle.changing.specs.NewContract.{Contract}
use Rattle.changing.specs.Calls.{change_tests, change_call}
use Rattle.calling.specs.Sessions.{order_named, named_tests}
use Rattle.values.specs.Lists.{buckets_in}
use Rattle.exporting.specs.Exports.{room_for}
use Rattle.exporting.specs.Sets.{set_planned, after_plan}
use Rattle.exporting.specs.Changes.{change_asked, set_change_refusal, change_export}
use Rattle.exporting.proofs.Rooms.{before, few, behind}
use Rattle.exporting.proofs.Counts.{change_counts}
use Rattle.planned.specs.Answers.{Room, Told}
use Rattle.planned.proofs.Answering.{found_room, found_told}

module _ (job l : List ℕ) (own : PinSet) (named : own ≡ set_in l) (old : List ℕ) (s : ℕ) (c : Contract) (order : ℕ) (table entries values : List ℕ) where
  abbrev O : Option ℕ
  O = set_change_refusal job own order old s c (length table) (length entries)

  export_is : change_export job l old s c order table entries values ≡ unless (λ n. set_planned n table entries values) (first O (refusal (room_for (3 + buckets_in job) values))) (after_plan (change_call job own old s c (order_named order) table entries) values)
  unfolding change_export
  export_is = rw named

  pub change_before : (n : ℕ) → some n ≡ O → set_planned n table entries values ≡ change_export job l old s c order table entries values
  change_before n e = before (λ n. set_planned n table entries values) O (3 + buckets_in job) values _ n e ∙ sym export_is

  module _ (e : none ≡ O) where
    pub change_12 : length values < 3 + buckets_in job → set_planned 12 table entries values ≡ change_export job l old s c order table entries values
    change_12 h = few (λ n. set_planned n table entries values) O (3 + buckets_in job) values _ e h ∙ sym export_is

    pub change_told : 3 + buckets_in job ≤ length values → (o : Order) → o ≡ order_named order → (x : Result Totals Refusal) (t p : List ℕ) → planner.planned x t p ≡ change_call job own old s c o table entries → (r : Result (Unit {0}) Refusal) (new : List ℕ) → Told x values r new → set_planned (code r) t p new ≡ change_export job l old s c order table entries values
    change_told room o q x t p i r new h = found_told x t p _ i values r new h ∙ ap (λ (o : Order). after_plan (change_call job own old s c o table entries) values) q ∙ sym (export_is ∙ behind (λ n. set_planned n table entries values) O (3 + buckets_in job) values _ e room)

-- there is room for the values that the code writes
pub change_room : (b : List ℕ) (own : PinSet) (old : List ℕ) (s : ℕ) (c : Contract) (o : Order) (table entries : List ℕ) (x : Result Totals Refusal) (t p : List ℕ) → planner.planned x t p ≡ change_call b own old s c o table entries → (n : ℕ) → 3 + buckets_in b ≤ n → Room x n
change_room b own old s c o table entries x t p i = found_room (buckets_in b) x t p _ i (change_counts b own old s c o table entries)

-- what refuses it
module _ (b : List ℕ) (p : PinSet) (order : ℕ) (old : List ℕ) (s : ℕ) (c : Contract) (table entries : ℕ) where
  pub not_read : (n : ℕ) → checked opening b p ≡ P.refused n → some n ≡ set_change_refusal b p order old s c table entries
  unfolding set_change_refusal refusal_in
  not_read n e = rw e

  module _ (h : Header) (k : ℕ) (held : Held (checked opening b p) h k) (full : length p.pins ≡ 512) where
    abbrev m : PinMap
    m = lines (length (job_in b).units) p.pins

    on_job : set_change_refusal b p order old s c table entries ≡ first (refusal (named_tests 0 order)) (refusal (change_tests (job_in b) m old s c table entries))
    unfolding set_change_refusal refusal_in change_asked
    on_job = rw (ready_took opening b p h k held full) (refusal_join (named_tests 0 order) (change_tests (job_in b) m old s c table entries))

    pub by_order : (n : ℕ) → some n ≡ refusal (named_tests 0 order) → some n ≡ set_change_refusal b p order old s c table entries
    by_order n e = sym (on_job ∙ unless_some some (refusal (named_tests 0 order)) n _ (sym e))

    pub by_change : none ≡ refusal (named_tests 0 order) → (o : Option ℕ) → o ≡ refusal (change_tests (job_in b) (lines h.units p.pins) old s c table entries) → o ≡ set_change_refusal b p order old s c table entries
    by_change e o q = sym (on_job ∙ unless_none some (refusal (named_tests 0 order)) _ (sym e) ∙ ap (λ (n : ℕ). refusal (change_tests (job_in b) (lines n p.pins) old s c table entries)) (units_are b h (ready opening b p h k held full).opens) ∙ sym q)
