-- What a replay after calls or with a set answers and leaves, from what the calls within it answered, that there is room for its values, and what refuses it.
use Prim.Native.Nat.{ℕ, suc, ◌+◌, ◌*◌, ◌<◌, ◌≤◌}
use mathlib.Core.Path.{◌≡◌, sym, ◌∙◌, ap, ap₂}
use mathlib.Core.Bool.{true, false}
use mathlib.Core.Option.{Option, none, some}
use mathlib.Core.List.{List, [], ◌∷◌}
use native.Mathlib.Omega.{arith}
use lib.Dec.{leb}
use lib.ListN.{length, replicate, length-replicate}
use borrow.Author.Tests.{lt-leb, le-leb}
use Rattle.base.specs.Lent.{Ended, over, put}
use Rattle.base.specs.Refusals.{test, refusal, unless, first}
use Rattle.base.proofs.Refusals.{refusal_past, refusal_here, refusal_last}
use Rattle.model.specs.Job.{Job}
use Rattle.format.specs.Parser as P
use Rattle.format.specs.Parser.{refusal_in}
use Rattle.format.specs.JobBytes.{Header, job_in, Opens, archive}
use Rattle.job.proofs.Answers.{Held}
use Rattle.pinning.specs.PinSet.{PinSet}
use Rattle.pinning.specs.Check.{checked}
use Rattle.pinning.specs.Numbers.{set_in}
use Rattle.pinset.proofs.Answering.{ready, ready_took}
use Rattle.interval.specs.declared.Totals.{Totals}
use Rattle.interval.specs.Answers.{totals_of}
use Rattle.parts.specs.declared.Violation.{Violation}
use Rattle.parts.specs.Answers.{violation}
use Rattle.replaying.specs.Entries.{shaped}
use Rattle.replaying.specs.Calls as replaying
use Rattle.replaying.specs.Calls.{level_count, replay_tests, replay_call}
use Rattle.std.specs.Prelude.{Result, Ok}
use Rattle.header.specs.declared.refusal.Refusal.{Refusal}
use Rattle.header.specs.Refusals.{code}
use Rattle.replay.specs.declared.Replayed.{Replayed}
use Rattle.replay.specs.declared.Replayed.TheVariants as replays
use Rattle.replay.specs.Answers as told
use Rattle.replay.specs.Answers.{ended}
use Rattle.replay.proofs.Answering.{levels_are}
use Rattle.calling.specs.Sessions.{replay_refusal, replay_session, set_replay_refusal}
use Rattle.values.specs.Lists.{buckets_in, totals_list, totals_values, violation_number, replayed_list}
use Rattle.values.proofs.Buckets.{few_buckets}
use Rattle.exporting.specs.Exports.{number_of, room_for, replayed, after_replay, replay_export}
use Rattle.exporting.specs.Sets.{set_replay_export}
use Rattle.exporting.proofs.Rooms.{before, few, behind}
use Rattle.exporting.proofs.Counts.{set_counts, replay_counts}
use Rattle.played.specs.Answers.{Room, Told}

module _ (job ks entries levels values : List ℕ) where
  pub replay_before : (n : ℕ) → some n ≡ replay_refusal job ks entries (length levels) → replayed n levels values ≡ replay_export job ks entries levels values
  unfolding replay_export
  replay_before = before (λ n. replayed n levels values) (replay_refusal job ks entries (length levels)) (5 + buckets_in job) values _

  module _ (e : none ≡ replay_refusal job ks entries (length levels)) where
    pub replay_12 : length values < 5 + buckets_in job → replayed 12 levels values ≡ replay_export job ks entries levels values
    unfolding replay_export
    replay_12 = few (λ n. replayed n levels values) (replay_refusal job ks entries (length levels)) (5 + buckets_in job) values _ e

    module _ (room : 5 + buckets_in job ≤ length values) (x : Result Replayed Refusal) (l : List ℕ) (i : ended x l ≡ replay_session job ks entries levels) where
      on_replay : replay_export job ks entries levels values ≡ after_replay (buckets_in job) (ended x l) values
      unfolding replay_export
      on_replay = behind (λ n. replayed n levels values) (replay_refusal job ks entries (length levels)) (5 + buckets_in job) values _ e room ∙ rw (← i)

      pub replay_told : (r : Result (Unit {0}) Refusal) (new : List ℕ) → Told x (buckets_in job) values r new → replayed (code r) l new ≡ replay_export job ks entries levels values
      unfolding after_replay ended
      replay_told r new h = sym (on_replay ∙ rw (h.number, h.values))

-- there is room for the values that the code writes
pub replay_room : (b calls entries levels : List ℕ) (x : Result Replayed Refusal) (l : List ℕ) → ended x l ≡ replay_session b calls entries levels → (n : ℕ) → 5 + buckets_in b ≤ n → Room x (buckets_in b) n
unfolding ended told.replayed totals_values totals_list
replay_room b calls entries levels x l i n h = record {
  some_bucket = few_buckets b;
  totals = λ t q.
      let c : length (totals_of t).unused ≡ buckets_in b = replay_counts b calls entries levels (totals_of t) (sym (ap (λ (y : Ended replaying.Replayed). y.answer) i) ∙ rw q) in
      omega arith;
  zeros = h;
}

-- and for zeros
pub zero_room : (t : Totals) (k n : ℕ) → totals_values t ≡ replicate (3 + k) 0 → 5 + k ≤ n → 2 + length (totals_values t) ≤ n
zero_room t k n e h = let c : length (totals_values t) ≡ 3 + k = ap length e ∙ length-replicate (3 + k) 0 in omega arith

-- what is told of a violation
pub violated_told : (x : Result Replayed Refusal) (n : ℕ) (v : Violation) → x ≡ Ok (replays.Violated n v) → (buckets k : ℕ) → k ≡ violation_number (violation v) → (t : Totals) → totals_values t ≡ replicate (3 + buckets) 0 → (old new : List ℕ) → new ≡ over (k ∷ n ∷ totals_values t) old → Told x buckets old (Ok tt) new
unfolding number_of told.replayed put replayed_list
violated_told x n v q buckets k f t z old new w = record { number = rw q; values = rw (q, w, f, z) }

-- with a set in place of calls
module _ (job l : List ℕ) (own : PinSet) (named : own ≡ set_in l) (entries levels values : List ℕ) where
  abbrev O : Option ℕ
  O = set_replay_refusal job own entries (length levels)

  export_is : set_replay_export job l entries levels values ≡ unless (λ n. replayed n levels values) (first O (refusal (room_for (5 + buckets_in job) values))) (after_replay (buckets_in job) (replay_call job own entries levels) values)
  unfolding set_replay_export
  export_is = rw named

  pub set_before : (n : ℕ) → some n ≡ O → replayed n levels values ≡ set_replay_export job l entries levels values
  set_before n e = before (λ n. replayed n levels values) O (5 + buckets_in job) values _ n e ∙ sym export_is

  module _ (e : none ≡ O) where
    pub set_12 : length values < 5 + buckets_in job → replayed 12 levels values ≡ set_replay_export job l entries levels values
    set_12 h = few (λ n. replayed n levels values) O (5 + buckets_in job) values _ e h ∙ sym export_is

    pub set_told : 5 + buckets_in job ≤ length values → (x : Result Replayed Refusal) (new_levels : List ℕ) → ended x new_levels ≡ replay_call job own entries levels → (r : Result (Unit {0}) Refusal) (new : List ℕ) → Told x (buckets_in job) values r new → replayed (code r) new_levels new ≡ set_replay_export job l entries levels values
    unfolding after_replay ended
    set_told room x new_levels i r new h = sym (export_is ∙ behind (λ n. replayed n levels values) O (5 + buckets_in job) values _ e room ∙ rw (← i, h.number, h.values))

pub set_room : (b : List ℕ) (own : PinSet) (entries levels : List ℕ) (x : Result Replayed Refusal) (l : List ℕ) → ended x l ≡ replay_call b own entries levels → (n : ℕ) → 5 + buckets_in b ≤ n → Room x (buckets_in b) n
unfolding ended told.replayed totals_values totals_list
set_room b own entries levels x l i n h = record {
  some_bucket = few_buckets b;
  totals = λ t q.
      let c : length (totals_of t).unused ≡ buckets_in b = set_counts b own entries levels (totals_of t) (sym (ap (λ (y : Ended replaying.Replayed). y.answer) i) ∙ rw q) in
      omega arith;
  zeros = h;
}

-- what refuses it, test by test
module _ (b : List ℕ) (s : PinSet) (entries : List ℕ) (levels : ℕ) where
  pub not_read : (n : ℕ) → checked archive b s ≡ P.refused n → some n ≡ set_replay_refusal b s entries levels
  unfolding set_replay_refusal refusal_in
  not_read n e = rw e

  module _ (h : Header) (k : ℕ) (held : Held (checked archive b s) h k) (full : length s.pins ≡ 512) where
    abbrev j : Job
    j = job_in b

    pub opens : Opens b h
    opens = (ready archive b s h k held full).opens

    on_job : set_replay_refusal b s entries levels ≡ refusal (test 14 (shaped h entries) ∷ test 12 (leb (level_count j) levels) ∷ [])
    unfolding set_replay_refusal refusal_in replay_tests
    on_job = rw (ready_took archive b s h k held full, opens.header_is)

    pub by_plan : shaped h entries ≡ false → some 14 ≡ set_replay_refusal b s entries levels
    by_plan e = sym (on_job ∙ refusal_here _ _ e)

    -- so many numbers an interval, and so many intervals
    module _ (e : shaped h entries ≡ true) (each total : ℕ) (each_is : each ≡ suc (length h.buckets)) (total_is : total ≡ h.units + h.delay) where
      level_numbers : level_count j ≡ each * total
      level_numbers = levels_are b h opens ∙ sym (ap₂ ◌*◌ each_is total_is)

      pub by_levels : levels < each * total → some 12 ≡ set_replay_refusal b s entries levels
      by_levels l = sym (on_job ∙ refusal_past _ _ e ∙ refusal_here _ _ (lt-leb (level_count j) levels (omega (arith, level_numbers))))

      pub not_refused : each * total ≤ levels → none ≡ set_replay_refusal b s entries levels
      not_refused l = sym (on_job ∙ refusal_past _ _ e ∙ refusal_last _ (le-leb (level_count j) levels (omega (arith, level_numbers))))
