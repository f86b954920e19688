-- A change of contract, with any set and after any list of pins and lifts: `ChangeCalls`, `ChangesAfter` and `ChangeKeeps`.
use Prim.Native.Nat.{ℕ, ◌+◌, ◌-◌, ◌*◌, ◌≤◌, ◌<◌}
use mathlib.Core.Path.{◌≡◌, refl, sym, ap, ap₂, ◌∙◌, subst}
use mathlib.Core.Logic.{◌↔◌}
use mathlib.Core.Bool.{true}
use mathlib.Core.Option.{Option, none, some}
use mathlib.Core.List.{List, ◌++◌}
use native.Mathlib.Omega.{arith}
use lib.ListN.{length, take, drop, length-append, length-drop}
use lib.Seq.{length-take-le, take-append-add, drop-append-add, drop-drop}
use lib.Dec.{leb}
use borrow.Author.Tests.{leb-true, le-leb}
use Rattle.base.specs.Answer.{Answer, refused, gives}
use Rattle.base.specs.Refusals.{guarded, InOrder}
use Rattle.base.proofs.Answers.{not_refused}
use Rattle.base.proofs.Refusals.{Following, none_left, then_one, in_turn}
use Rattle.model.specs.Job.{Levels, Job, on_line, intervals}
use Rattle.model.specs.Levels.{bucket_levels}
use Rattle.model.specs.Pins.{PinMap}
use Rattle.model.specs.Admissible.{AllWithin, Shows, ending, SoundFor}
use Rattle.model.specs.Step.{overfull}
use Rattle.model.specs.Replay.{Totals, totals, plus}
use Rattle.model.specs.Best.{Order, Open, unlimited, least_total, total, open_for}
use Rattle.model.specs.Table.{words}
use Rattle.model.proofs.Lines.{intervals_on}
use Rattle.format.specs.Choices.{no_choice}
use Rattle.format.specs.Parser.{on_read}
use Rattle.format.specs.JobBytes.{opening}
use Rattle.format.specs.Claims.{InLimits}
use Rattle.format.proofs.Bounds.{limited, start_inside}
use Rattle.format.proofs.Places.{well_read}
use Rattle.pinning.specs.PinSet.{lines}
use Rattle.pinning.specs.Check.{checked}
use Rattle.pinning.proofs.Agree.{checked_refused, matched, unmatched}
use Rattle.pinning.proofs.History.{history}
use Rattle.replaying.specs.Entries.{entry_size, entry_at, plan_from, plan_of}
use Rattle.replaying.specs.Claims.{InShape}
use Rattle.replaying.proofs.Entries.{shapes}
use Rattle.planning.specs.Words.{table_from}
use Rattle.planning.specs.Calls.{Planned, refuse, searched, search_in}
use Rattle.planning.specs.Claims.{BestWritten, PlanClaim, Keeping}
use Rattle.planning.proofs.Layers.{from_table}
use Rattle.planning.proofs.DemandThree.{search_claim}
use Rattle.planning.proofs.Refusals.{guarded_keeps, read_keeps, search_keeps}
use Rattle.changing.specs.NewContract.{Contract, line_under, under}
use Rattle.changing.specs.Calls.{remaining, carried, none_over, rest_tests, change_tests, both_totals, all_entries, behind, change_in, change_call}
use Rattle.changing.specs.Claims.{Offers, Asks, Counted, Continued, ChangeClaim, ChangeCalls, ChangesAfter, ChangeKeeps}
use Rattle.changing.proofs.Conditions.{offers_iff, draining_iff, rising_iff, within_iff, within_is}
use Rattle.changing.proofs.Front.{entries_take, read_both, count, sound_iff, carried_shows, carried_inside}
use Rattle.changing.proofs.Unders.{unders}
use Rattle.changing.proofs.Counted.{counted}

-- room for so much, as a test
room_iff : (n k : ℕ) → (leb n k ≡ true) ↔ (n ≤ k)
room_iff n k = (leb-true n k, le-leb n k)

-- the answer of both parts is refused where the search's is
refused_iff : (before : Totals) (n : ℕ) (a : Answer Totals) → (both_totals before a ≡ refused n) ↔ (a ≡ refused n)
unfolding both_totals
refused_iff before n (refused k) = (λ e. e, λ e. e)
refused_iff before n (gives t) = (λ e. absurd (not_refused e), λ e. absurd (not_refused e))

-- the table of a search, whatever it found
search_table : (j : Job) (k : Open) (o : Order) (s : ℕ) (start : Levels) (r : Option ℕ) (table entries : List ℕ) → (searched j k o s start r table entries).table ≡ table_from ◌+◌ j k s table
unfolding searched
search_table j k o s start none table entries = refl
search_table j k o s start (some v) table entries = refl

module _ (j : Job) (m : PinMap) (old : List ℕ) (s : ℕ) (c : Contract) (o : Order) (table entries : List ℕ) where
  abbrev J : Job
  J = under j c

  abbrev at : Levels
  at = carried j m s old

  abbrev found : Planned
  found = search_in J m total o s at table (drop (entry_size * s) entries)

  abbrev before : Totals
  before = totals j 0 j.start (remaining j m s old)

  abbrev first : List ℕ
  first = take (entry_size * s) old

  length_under : intervals J ≡ intervals j
  length_under = intervals_on j (line_under j c)

  module _ (few : j.choices ≤ no_choice) (shape : InShape j old) (offers : Offers (length j.line.buckets) c) (some_entry : 1 ≤ s) (less : s < intervals j) (room : words J ≤ length table) (space : 3 * intervals j ≤ length entries) (fills : length j.start.buckets ≡ length j.line.buckets) (levels : length at.buckets ≡ length j.line.buckets) where
    claim : PlanClaim J m total o s at table (drop (entry_size * s) entries) found
    claim = search_claim J m total o s at (unfold on_line in few) (unfold on_line line_under in (omega (arith, offers.few_rates))) (omega (arith, length_under)) table (drop (entry_size * s) entries) room (omega (arith, length-drop (entry_size * s) entries, length_under))

    first_long : length first ≡ 3 * s
    first_long = length-take-le (entry_size * s) old (omega (arith, shape.size))

    module _ (w : BestWritten J m total o s at table (drop (entry_size * s) entries) found) where
      abbrev all : List ℕ
      all = first ++ found.entries

      cut : 3 * intervals j ≡ length first + 3 * (intervals J - s)
      cut = omega (arith, first_long, length_under)

      whole : entry_size * s + 3 * (intervals J - s) ≡ 3 * intervals j
      whole = omega (arith, length_under)

      taken : take s (plan_of j old) ≡ plan_from old 0 s
      unfolding plan_of
      taken = entries_take (entry_at old) 0 s (intervals j) (omega arith)

      both_counted : Counted j c at (remaining j m s old) w.plan (plus before (totals J s at w.plan))
      both_counted = subst (λ (n : ℕ). Counted j c at (remaining j m s old) w.plan (plus before (totals J n at w.plan))) (count j m old s some_entry less) (counted j c at (remaining j m s old) w.plan fills (unders j c offers).count levels)

      both : (a : Answer Totals) → a ≡ gives (totals J s at w.plan) → (both_totals before a ≡ gives (plus before (totals J s at w.plan))) × (all_entries a first found.entries entries ≡ all)
      unfolding both_totals all_entries
      both a e = (rw e, rw e)

      continued : Continued j m old s c o table entries at (behind before first entries found)
      unfolding behind
      continued =
          let b = both found.answer w.totals_are in
          record {
            rest = w.plan;
            best = w.best;
            bytes = rw (b.1, cut) (take-append-add first found.entries (3 * (intervals J - s)) ∙ ap (λ (l : List ℕ). first ++ l) w.bytes);
            read_back =
                let n : intervals j ≡ s + (intervals J - s) = omega (arith, length_under) in
                rw b.1 (ap (plan_from all 0) n ∙ read_both old found.entries s (intervals J - s) (omega (arith, shape.size)) ∙ ap₂ ◌++◌ (sym taken) w.read_back);
            whole = plus before (totals J s at w.plan);
            totals_are = b.0;
            parts = refl;
            counted = both_counted;
            entries_rest = rw b.1 (ap (λ (n : ℕ). drop n all) cut ∙ drop-append-add first found.entries (3 * (intervals J - s)) ∙ w.rest ∙ drop-drop (3 * (intervals J - s)) (entry_size * s) entries ∙ ap (λ (n : ℕ). drop n entries) whole);
            size = rw b.1 (length-append first found.entries ∙ omega (arith, first_long, w.size, length-drop (entry_size * s) entries));
          }

    kept : (a : Answer Totals) → a ≡ refused 13 → all_entries a first found.entries entries ≡ entries
    unfolding all_entries
    kept a e = rw e

    changed : Shows (ending j m 0 j.start (plan_of j old) s) at → ChangeClaim j m old s c o table entries (change_in j (under j c) m old s o table entries)
    unfolding change_in behind
    changed shows = record {
      at = at;
      at_is = shows;
      none_iff = (λ e. claim.none_iff.0 ((refused_iff before 13 found.answer).0 e), λ f. (refused_iff before 13 found.answer).1 (claim.none_iff.1 f));
      none_kept = λ e. kept found.answer ((refused_iff before 13 found.answer).0 e);
      else_best = λ f. continued (claim.else_best (λ e. f ((refused_iff before 13 found.answer).1 e)));
      table_is = unfold search_in open_for in (rw (search_table J (unlimited m) o s at (least_total J (unlimited m) s at) table (drop (entry_size * s) entries)) (from_table J (unlimited m) s table (omega (arith, length_under)) room));
      table_before = claim.table_before;
      table_rest = claim.table_rest;
      table_size = claim.table_size;
    }

-- what is asked, in order, of a job that opens
module _ (j : Job) (l : InLimits j) (m : PinMap) (old : List ℕ) (s : ℕ) (c : Contract) (o : Order) (table entries : List ℕ) where
  few_choices : j.choices ≤ no_choice
  few_choices = omega (arith, l.choices)

  abbrev n : ℕ
  n = length j.line.buckets

  some_bucket : 1 ≤ n
  some_bucket = omega (arith, l.buckets)

  few_buckets : n ≤ 2
  few_buckets = omega (arith, l.buckets)

  some_interval : 1 ≤ intervals j
  unfolding intervals
  some_interval = omega (arith, l.units)

  carried_iff : Shows (ending j m 0 j.start (plan_of j old) s) (carried j m s old) → (none_over (overfull (under j c).line.buckets (carried j m s old).buckets) ≡ true) ↔ AllWithin (under j c).line.buckets (bucket_levels j 0 (plan_of j old) j.line.buckets j.start.buckets s)
  carried_iff shows = rw shows.buckets (unfold ending in (within_is (under j c).line.buckets _))

  shown : (1 ≤ s) × (s < intervals j) → SoundFor j m 0 j.start (plan_of j old) s → Shows (ending j m 0 j.start (plan_of j old) s) (carried j m s old)
  shown w f = carried_shows j m old s w.0 w.1 ((sound_iff j m old s w.0 w.1).1 f)

  inside_count : (1 ≤ s) × (s < intervals j) → SoundFor j m 0 j.start (plan_of j old) s → length (carried j m s old).buckets ≡ length j.line.buckets
  inside_count w f = (carried_inside j m old s w.0 w.1 (start_inside j l) ((sound_iff j m old s w.0 w.1).1 f)).count

  pub follows : Following (change_tests j m old s c (length table) (length entries)) (Asks j m old s c table entries)
  unfolding change_tests rest_tests
  follows =
      then_one refl ((shapes j few_choices (omega (arith, l.rates))).shaped_iff old)
      (λ shape. then_one refl (offers_iff n some_bucket few_buckets c)
      (λ offers. then_one refl (draining_iff n some_bucket few_buckets c offers)
      (λ drains. then_one refl (rising_iff c)
      (λ rises. then_one refl (within_iff (intervals j) s some_interval)
      (λ within. then_one refl (sound_iff j m old s within.0 within.1)
      (λ sound. then_one refl (carried_iff (shown within sound))
      (λ fits. then_one refl (room_iff _ _)
      (λ room. then_one refl (room_iff _ _) (λ space. none_left)))))))))

  pub asked : (q : Planned) → q ≡ guarded (refuse table entries) (change_tests j m old s c (length table) (length entries)) (change_in j (under j c) m old s o table entries) → InOrder q (refuse table entries) (Asks j m old s c table entries) (ChangeClaim j m old s c o table entries q)
  asked q e = in_turn (refuse table entries) follows (ChangeClaim j m old s c o table entries) (change_in j (under j c) m old s o table entries) q e
      (λ h. changed j m old s c o table entries few_choices h.0 h.1.0 h.1.1.1.1.0.0 h.1.1.1.1.0.1 h.1.1.1.1.1.1.1.0 h.1.1.1.1.1.1.1.1.0 l.buckets.2 (inside_count h.1.1.1.1.0 h.1.1.1.1.1.0) (shown h.1.1.1.1.0 h.1.1.1.1.1.0))

-- the call of a job that the set matches, or not
pub change_calls : ChangeCalls
unfolding change_call on_read
change_calls b p old s c o table entries = (
  λ n e. rw (checked_refused opening b p n e),
  λ j k e. (
    λ f. rw (unmatched opening b j k e p f),
    λ f. asked j (limited j (well_read opening b j k e).well_formed) (lines (length j.units) p.pins) old s c o table entries _ (rw (matched opening b j k e p f)),
  ),
)

pub changes_after : ChangesAfter
unfolding change_call on_read
changes_after b j n parsed clicks old s c o table entries =
    let h = history b j n parsed clicks in
    rw (h.passes, h.pins) (asked j (limited j (well_read opening b j n parsed).well_formed) _ old s c o table entries _ refl)

-- a refusal of the search keeps the entries, and any but 13 the table
behind_keeps : (before : Totals) (first rest entries table : List ℕ) (r : Planned) → Keeping table rest r → Keeping table entries (behind before first entries r)
unfolding behind
behind_keeps before first rest entries table r k = record {
  entries_kept = λ n e. kept r.answer n ((refused_iff before n r.answer).0 e);
  table_kept = λ n e f. k.table_kept n ((refused_iff before n r.answer).0 e) f;
}
  where
    kept : (a : Answer Totals) (n : ℕ) → a ≡ refused n → all_entries a first r.entries entries ≡ entries
    kept a n e = unfold all_entries in (rw e)

in_keeps : (j : Job) (m : PinMap) (old : List ℕ) (s : ℕ) (c : Contract) (o : Order) (table entries : List ℕ) → Keeping table entries (change_in j (under j c) m old s o table entries)
unfolding change_in
in_keeps j m old s c o table entries = behind_keeps _ _ _ entries table _ (search_keeps table (drop (entry_size * s) entries) (under j c) m total o s (carried j m s old))

pub change_keeps : ChangeKeeps
unfolding change_call
change_keeps b p old s c o table entries =
    read_keeps table entries _ (checked opening b p)
    (λ j. guarded_keeps table entries (change_tests j (lines (length j.units) p.pins) old s c (length table) (length entries)) _ (in_keeps j (lines (length j.units) p.pins) old s c o table entries))
