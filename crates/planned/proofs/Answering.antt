-- What planning after calls or with a set answers and leaves, from what the calls within it answered, that there is room for its values, and what refuses it.
use Prim.Native.Nat.{ℕ, ◌+◌, ◌-◌, ◌*◌, ◌<◌, ◌≤◌}
use mathlib.Core.Path.{◌≡◌, sym, ◌∙◌, ap}
use mathlib.Core.Option.{Option, none, some}
use mathlib.Core.List.{List, [], ◌∷◌}
use native.Mathlib.Omega.{arith}
use lib.Dec.{leb}
use lib.ListN.{length}
use borrow.Author.Tests.{lt-leb, le-leb}
use Rattle.base.specs.Refusals.{test, refusal, unless, first}
use Rattle.base.proofs.Refusals.{refusal_join, refusal_past, refusal_here, refusal_last, unless_some, unless_none}
use Rattle.model.specs.Job.{Job, intervals}
use Rattle.model.specs.Best.{Order, Aim}
use Rattle.model.specs.Table.{words}
use Rattle.format.specs.Parser as P
use Rattle.format.specs.Parser.{refusal_in}
use Rattle.format.specs.JobBytes.{Header, job_in, Opens, opening}
use Rattle.format.proofs.Opened.{intervals_are}
use Rattle.job.proofs.Answers.{Held}
use Rattle.pinning.specs.PinSet.{PinSet}
use Rattle.pinning.specs.Check.{checked}
use Rattle.pinning.specs.Numbers.{set_in}
use Rattle.pinset.proofs.Answering.{ready, ready_took}
use Rattle.replaying.specs.Entries.{entry_size}
use Rattle.interval.specs.Answers.{totals_of}
use Rattle.table.specs.Answers.{table_words}
use Rattle.table.proofs.Words.{words_are}
use Rattle.planning.specs.Calls as planning
use Rattle.planning.specs.Calls.{plan_tests, plan_call}
use Rattle.std.specs.Prelude.{Result}
use Rattle.interval.specs.declared.Totals.{Totals}
use Rattle.header.specs.declared.refusal.Refusal.{Refusal}
use Rattle.header.specs.Refusals.{code}
use Rattle.planner.specs.Answers as planner
use Rattle.calling.specs.Sessions.{Session, plan_refusal, session_call, aim_named, order_named, named_tests, set_plan_tests, set_plan_refusal}
use Rattle.session.specs.Answers.{session_is}
use Rattle.values.specs.Lists.{buckets_in, totals_list, totals_values}
use Rattle.exporting.specs.Exports.{room_for, planned, after_session, plan_export}
use Rattle.exporting.specs.Sets.{set_planned, after_plan, set_plan_export}
use Rattle.exporting.proofs.Rooms.{before, few, behind}
use Rattle.exporting.proofs.Counts.{FewCounts, plan_counts, session_counts}
use Rattle.planned.specs.Answers.{Room, Told}

module _ (job ks : List ℕ) (aim order : ℕ) (answers table entries values : List ℕ) where
  pub plan_before : (n : ℕ) → some n ≡ plan_refusal job ks aim order (length answers) (length table) (length entries) → planned n answers table entries values ≡ plan_export job ks aim order answers table entries values
  unfolding plan_export
  plan_before = before (λ n. planned n answers table entries values) (plan_refusal job ks aim order (length answers) (length table) (length entries)) (3 + buckets_in job) values _

  module _ (e : none ≡ plan_refusal job ks aim order (length answers) (length table) (length entries)) where
    pub plan_12 : length values < 3 + buckets_in job → planned 12 answers table entries values ≡ plan_export job ks aim order answers table entries values
    unfolding plan_export
    plan_12 = few (λ n. planned n answers table entries values) (plan_refusal job ks aim order (length answers) (length table) (length entries)) (3 + buckets_in job) values _ e

    module _ (room : 3 + buckets_in job ≤ length values) (x : Result Totals Refusal) (a t p : List ℕ) (i : session_is x a t p ≡ session_call job ks aim order answers table entries) where
      on_plan : plan_export job ks aim order answers table entries values ≡ after_session (session_is x a t p) values
      unfolding plan_export
      on_plan = behind (λ n. planned n answers table entries values) (plan_refusal job ks aim order (length answers) (length table) (length entries)) (3 + buckets_in job) values _ e room ∙ rw (← i)

      pub plan_told : (r : Result (Unit {0}) Refusal) (new : List ℕ) → Told x values r new → planned (code r) a t p new ≡ plan_export job ks aim order answers table entries values
      unfolding after_session session_is planner.planned
      plan_told r new h = sym (on_plan ∙ rw (h.number, h.values))

-- there is room for the values that the code writes
pub plan_room : (b calls : List ℕ) (aim order : ℕ) (answers table entries : List ℕ) (x : Result Totals Refusal) (a t e : List ℕ) → session_is x a t e ≡ session_call b calls aim order answers table entries → (n : ℕ) → 3 + buckets_in b ≤ n → Room x n
unfolding session_is planner.planned totals_values totals_list
plan_room b calls aim order answers table entries x a t e i n h best q =
    let c : length (totals_of best).unused ≡ buckets_in b = session_counts b calls aim order answers table entries (totals_of best) (sym (ap (λ (y : Session). y.planned.answer) i) ∙ rw q) in
    omega arith

-- the same of a plan that was found, by however many values its totals have
pub found_room : (k : ℕ) (x : Result Totals Refusal) (t p : List ℕ) (found : planning.Planned) → planner.planned x t p ≡ found → FewCounts k found.answer → (n : ℕ) → 3 + k ≤ n → Room x n
unfolding planner.planned totals_values totals_list
found_room k x t p found i few n h best q =
    let c : length (totals_of best).unused ≤ k = few (totals_of best) (sym (ap (λ (y : planning.Planned). y.answer) i) ∙ rw q) in
    omega arith

-- and what is told of it
pub found_told : (x : Result Totals Refusal) (t p : List ℕ) (found : planning.Planned) → planner.planned x t p ≡ found → (values : List ℕ) (r : Result (Unit {0}) Refusal) (new : List ℕ) → Told x values r new → set_planned (code r) t p new ≡ after_plan found values
unfolding after_plan planner.planned
found_told x t p found i values r new h = rw (← i, h.number, h.values)

-- with a set in place of calls
module _ (job l : List ℕ) (own : PinSet) (named : own ≡ set_in l) (aim order : ℕ) (table entries values : List ℕ) where
  abbrev O : Option ℕ
  O = set_plan_refusal job own aim order (length table) (length entries)

  export_is : set_plan_export job l aim order table entries values ≡ unless (λ n. set_planned n table entries values) (first O (refusal (room_for (3 + buckets_in job) values))) (after_plan (plan_call job own (aim_named aim) (order_named order) table entries) values)
  unfolding set_plan_export
  export_is = rw named

  pub set_before : (n : ℕ) → some n ≡ O → set_planned n table entries values ≡ set_plan_export job l aim order table entries values
  set_before n e = before (λ n. set_planned n table entries values) O (3 + buckets_in job) values _ n e ∙ sym export_is

  module _ (e : none ≡ O) where
    pub set_12 : length values < 3 + buckets_in job → set_planned 12 table entries values ≡ set_plan_export job l aim order table entries values
    set_12 h = few (λ n. set_planned n table entries values) O (3 + buckets_in job) values _ e h ∙ sym export_is

    pub set_told : 3 + buckets_in job ≤ length values → (x : Result Totals Refusal) (t p : List ℕ) → planner.planned x t p ≡ plan_call job own (aim_named aim) (order_named order) table entries → (r : Result (Unit {0}) Refusal) (new : List ℕ) → Told x values r new → set_planned (code r) t p new ≡ set_plan_export job l aim order table entries values
    set_told room x t p i r new h = found_told x t p _ i values r new h ∙ sym (export_is ∙ behind (λ n. set_planned n table entries values) O (3 + buckets_in job) values _ e room)

pub set_room : (b : List ℕ) (own : PinSet) (a : Aim) (o : Order) (table entries : List ℕ) (x : Result Totals Refusal) (t p : List ℕ) → planner.planned x t p ≡ plan_call b own a o table entries → (n : ℕ) → 3 + buckets_in b ≤ n → Room x n
set_room b own a o table entries x t p i = found_room (buckets_in b) x t p _ i (λ t e. omega (arith, plan_counts b own a o table entries t e))

-- what refuses it, test by test
module _ (b : List ℕ) (s : PinSet) (aim order table entries : ℕ) where
  pub not_read : (n : ℕ) → checked opening b s ≡ P.refused n → some n ≡ set_plan_refusal b s aim order table entries
  unfolding set_plan_refusal refusal_in
  not_read n e = rw e

  module _ (h : Header) (k : ℕ) (held : Held (checked opening b s) h k) (full : length s.pins ≡ 512) where
    abbrev j : Job
    j = job_in b

    opens : Opens b h
    opens = (ready opening b s h k held full).opens

    on_job : set_plan_refusal b s aim order table entries ≡ first (refusal (named_tests aim order)) (refusal (plan_tests j 0 table entries))
    unfolding set_plan_refusal refusal_in set_plan_tests
    on_job = rw (ready_took opening b s h k held full) (refusal_join (named_tests aim order) (plan_tests j 0 table entries))

    pub by_names : (n : ℕ) → some n ≡ refusal (named_tests aim order) → some n ≡ set_plan_refusal b s aim order table entries
    by_names n e = sym (on_job ∙ unless_some some (refusal (named_tests aim order)) n _ (sym e))

    module _ (e : none ≡ refusal (named_tests aim order)) where
      on_lists : set_plan_refusal b s aim order table entries ≡ refusal (plan_tests j 0 table entries)
      on_lists = on_job ∙ unless_none some (refusal (named_tests aim order)) _ (sym e)

      pub by_table : table < table_words h → some 11 ≡ set_plan_refusal b s aim order table entries
      unfolding plan_tests
      by_table l = sym (on_lists ∙ refusal_here _ _ (lt-leb (words j) table (omega (arith, words_are b h opens))))

      module _ (room : table_words h ≤ table) where
        past_table : set_plan_refusal b s aim order table entries ≡ refusal (test 12 (leb (entry_size * (intervals j - 0)) entries) ∷ [])
        unfolding plan_tests
        past_table = on_lists ∙ refusal_past _ _ (le-leb (words j) table (omega (arith, words_are b h opens)))

        pub by_entries : entries < entry_size * (h.units + h.delay) → some 12 ≡ set_plan_refusal b s aim order table entries
        by_entries l = sym (past_table ∙ refusal_here _ _ (lt-leb (entry_size * (intervals j - 0)) entries (omega (arith, intervals_are b h opens))))

        pub not_refused : entry_size * (h.units + h.delay) ≤ entries → none ≡ set_plan_refusal b s aim order table entries
        not_refused l = sym (past_table ∙ refusal_last _ (le-leb (entry_size * (intervals j - 0)) entries (omega (arith, intervals_are b h opens))))
