-- An old plan is tested for what it was, and turned into entries that are that plan: `Turns`; and these replay as it did: `TurnedReplays`.
use Prim.Native.Nat.{ℕ, suc, ◌+◌, ◌*◌, ◌<◌, ◌≤◌}
use mathlib.Core.Path.{◌≡◌, refl, sym, ◌∙◌, ap}
use mathlib.Core.Logic.{◌↔◌}
use mathlib.Core.Bool.{Bool, true}
use mathlib.Core.List.{List, [], ◌∷◌}
use native.Mathlib.Decide.{ℕ_discrete}
use native.Mathlib.Omega.{arith}
use lib.Dec.{ltb}
use lib.ListN.{length, get_or, take, drop}
use lib.Seq.{take_at, ext_get_or}
use borrow.Author.Tests.{eqb-true, eq-eqb, ltb-true, ltb-false, lt-ltb, leb-true, le-leb}
use Rattle.base.specs.Lent.{over, refuse}
use Rattle.base.specs.Refusals.{condition}
use Rattle.base.proofs.Tests.{branch, both_true, true_both}
use Rattle.base.proofs.All.{all_each, each_all}
use Rattle.base.proofs.Lent.{over_length, over_rest}
use Rattle.base.proofs.Refusals.{no_more, one_more}
use Rattle.model.specs.Job.{Job, Entry, intervals, PlanFits}
use Rattle.model.specs.Levels.{no_entry, entry_of}
use Rattle.format.specs.JobBytes.{header_in, parse, archive}
use Rattle.format.specs.Parser.{took}
use Rattle.format.proofs.Parsing.{looks_read}
use Rattle.format.proofs.Choices.{under_mark, under_choice}
use Rattle.replaying.specs.Entries.{entry_under, plan_of, fits_under, entries_fit, entry_bytes}
use Rattle.replaying.specs.Former.{former_mark, former_rate, former_choice, former_entry, former_plan, former_shaped, turn_tests, turned, turn_call}
use Rattle.replaying.specs.Claims.{WasPlan, Was, Turned, Turns, TurnedReplays}
use Rattle.replaying.proofs.Entries.{entries_fit_iff, entries_length, entries_at, entries_eq, bytes_size, plan_bytes}
use Rattle.replaying.proofs.Reports.{replay_calls}

-- the entry in a place, in words and as it is tested
record InRange (j : Job) (old : List ℕ) (i : ℕ) : Type 0 where
  rate : get_or old (2 * i) 0 < length j.line.rates
  early : i < j.delay → get_or old (2 * i + 1) 0 ≡ 255
  late : j.delay ≤ i → get_or old (2 * i + 1) 0 < j.choices

module _ (j : Job) (old : List ℕ) (i : ℕ) where
  fits_range : fits_under former_mark (header_in j) i (former_rate old i) (former_choice old i) ≡ true → InRange j old i
  unfolding fits_under header_in former_rate former_choice
  fits_range e =
      let p = both_true _ _ e in
      let x = get_or old (2 * i + 1) 0 in
      branch (λ (t : Bool). t ≡ true → InRange j old i) (ltb i j.delay)
      (λ q r. record { rate = ltb-true _ _ p.0; early = λ h. eqb-true x 255 r; late = λ h. absurd (omega (arith, ltb-true i j.delay q)) })
      (λ q r. record { rate = ltb-true _ _ p.0; early = λ h. absurd (omega (arith, ltb-false i j.delay q)); late = λ h. ltb-true x j.choices r }) p.1

  range_fits : InRange j old i → fits_under former_mark (header_in j) i (former_rate old i) (former_choice old i) ≡ true
  unfolding fits_under header_in former_rate former_choice
  range_fits r =
      let x = get_or old (2 * i + 1) 0 in
      true_both _ _ (lt-ltb _ _ r.rate)
      (branch (λ (t : Bool). t ≡ true) (ltb i j.delay)
      (λ q. eq-eqb x 255 (r.early (ltb-true i j.delay q)))
      (λ q. lt-ltb x j.choices (r.late (ltb-false i j.delay q))))

was_plan : (j : Job) (old : List ℕ) → (former_shaped (header_in j) old ≡ true) ↔ WasPlan j old
unfolding former_shaped entries_fit header_in intervals
was_plan j old = (forth, back)
  where
    forth : former_shaped (header_in j) old ≡ true → WasPlan j old
    forth e =
        let p = both_true _ _ e in
        let q = both_true _ _ p.1 in
        let each : (i : ℕ) → i < intervals j → InRange j old i = λ i l. fits_range j old i (all_each _ (intervals j) q.1 i l) in
        record {
          few = leb-true _ _ p.0;
          size = eqb-true _ _ q.0;
          rate = λ i l. (each i l).rate;
          early = λ i l. (each i (omega arith)).early l;
          late = λ i h l. (each i l).late h;
        }

    back : WasPlan j old → former_shaped (header_in j) old ≡ true
    back w = true_both _ _ (le-leb _ _ w.few) (true_both _ _ (eq-eqb _ _ w.size) (each_all _ (intervals j) (λ i l. range_fits j old i (record { rate = w.rate i l; early = w.early i; late = λ h. w.late i h l }))))

-- the plan that the bytes were, and no other is
module _ (j : Job) (old : List ℕ) where
  entry_was : (i : ℕ) → i < intervals j → entry_of (former_plan j old) (suc i) ≡ entry_under former_mark (get_or old (2 * i) 0) (get_or old (2 * i + 1) 0)
  unfolding former_plan former_entry former_rate former_choice entry_of
  entry_was i l = let z : 0 + i ≡ i = omega arith in entries_at (former_entry old) 0 (intervals j) i l ∙ rw z

  former_was : Was j old (former_plan j old)
  unfolding former_plan entry_under
  former_was = record {
    count = entries_length _ 0 (intervals j);
    rate = λ i l. ap (λ (e : Entry). e.rate) (entry_was i l);
    no_unit = λ i l e. ap (λ (e : Entry). e.choice) (entry_was i l) ∙ rw e (under_mark former_mark);
    unit = λ i l n. ap (λ (e : Entry). e.choice) (entry_was i l) ∙ under_choice former_mark _ n;
  }

  was_one : (p q : List Entry) → Was j old p → Was j old q → p ≡ q
  unfolding entry_of
  was_one p q a b = ext_get_or no_entry p q (a.count ∙ sym b.count) (λ i l. let k : i < intervals j = omega (arith, a.count) in same i k (ℕ_discrete (get_or old (2 * i + 1) 0) 255))
    where
      same : (i : ℕ) → i < intervals j → Dec (get_or old (2 * i + 1) 0 ≡ 255) → get_or p i no_entry ≡ get_or q i no_entry
      same i k (yes e) = entries_eq (a.rate i k ∙ sym (b.rate i k)) (a.no_unit i k e ∙ sym (b.no_unit i k e))
      same i k (no n) = entries_eq (a.rate i k ∙ sym (b.rate i k)) (a.unit i k n ∙ sym (b.unit i k n))

-- turned, in a list that is long enough
module _ (b : List ℕ) (j : Job) (n : ℕ) (e : parse archive b ≡ took j n) (old entries : List ℕ) (w : WasPlan j old) (room : 3 * intervals j ≤ length entries) where
  in_range : PlanFits j 0 (former_plan j old)
  unfolding former_plan former_entry former_shaped header_in intervals
  in_range = (entries_fit_iff j former_mark (omega (arith, w.few)) (former_rate old) (former_choice old)).0 (both_true _ _ (both_true _ _ ((was_plan j old).1 w)).1).1

  size : length (entry_bytes (former_plan j old)) ≡ 3 * intervals j
  size = bytes_size (former_plan j old) ∙ omega (arith, (former_was j old).count)

  first : take (3 * intervals j) (over (entry_bytes (former_plan j old)) entries) ≡ entry_bytes (former_plan j old)
  unfolding over
  first = take_at (entry_bytes (former_plan j old)) (drop (length (entry_bytes (former_plan j old))) entries) (3 * intervals j) size

  turned_claim : Turned j old entries (turned j old entries)
  unfolding turned
  turned_claim =
      let written = (plan_bytes b j n e).written (former_plan j old) in_range in
      let fits : length (entry_bytes (former_plan j old)) ≤ length entries = omega (arith, size) in
      record {
        given = refl;
        shape = rw first (((plan_bytes b j n e).shaped_iff _).0 written.0);
        plan = rw (first, written.1) (former_was j old);
        rest = over_rest (entry_bytes (former_plan j old)) entries fits (3 * intervals j) size;
        size = over_length (entry_bytes (former_plan j old)) entries fits;
      }

pub turns : Turns
unfolding turn_call turn_tests
turns b old entries =
    looks_read (refuse entries) (parse archive b) (λ j. turn_tests j old (length entries)) (λ j. condition 14 (WasPlan j old) ∷ condition 12 (3 * intervals j ≤ length entries) ∷ []) (λ j. turned j old entries) (λ j r. Turned j old entries r)
    (λ j k e. (one_more refl (was_plan j old) (one_more refl (leb-true (3 * intervals j) (length entries), le-leb (3 * intervals j) (length entries)) no_more), λ h. turned_claim b j k e old entries h.0 h.1.0))

pub turned_replays : TurnedReplays
turned_replays b old entries j n e w room p was s levels matches long =
    let t = (((turns b old entries).1 j n e).1 w).1 room in
    let now = take (3 * intervals j) (turn_call b old entries).list in
    let d = ((((replay_calls b s now levels).1 j n e).1 matches).1 t.shape).1 long in
    rw (← was_one j old (plan_of j now) p t.plan was) d
