-- The entries that remain, interval after interval: what those still left come to is what all of them come to.
use Prim.Native.Nat.{ℕ, zero, suc, ◌+◌, ◌-◌, ◌<◌, ◌≤◌}
use mathlib.Core.Path.{◌≡◌, refl, sym, ◌∙◌, ap}
use mathlib.Core.List.{List, ◌∷◌}
use native.Mathlib.Numerals.{add-one}
use native.Mathlib.Omega.{arith}
use lib.ListN.{length, take}
use Rattle.model.specs.Job as model
use Rattle.model.specs.Job.{Bucket, bucket_at, Job, Entry, intervals, sends}
use Rattle.model.specs.Pins.{PinMap}
use Rattle.model.specs.Admissible as v
use Rattle.model.specs.Step.{violates, reaches, after_sending, outcome}
use Rattle.model.specs.Replay.{totals, written, go_on, replay, last_levels}
use Rattle.model.proofs.Steps.{reaches_after_sending}
use Rattle.replaying.specs.Entries.{entry_at, entries_from, plan_from, plan_of}
use Rattle.changing.specs.Calls.{remaining, front, carried, is_clean}
use Rattle.interval.specs.declared.Interval.{Interval}
use Rattle.interval.specs.declared.Levels.{Levels}
use Rattle.interval.specs.declared.Totals.{Totals}
use Rattle.interval.specs.Answers.{levels_of, totals_of, added, no_totals}
use Rattle.interval.proofs.Adding.{Added, added_start, added_on, added_end}
use Rattle.course.specs.Answers.{IsInterval}
use Rattle.front.specs.Answers.{FrontOf, leads, breaks}
use Rattle.std.specs.Prelude.{Some, None}

-- the first entries of a plan are fewer entries from the same place on
first_entries : (f : ℕ → Entry) (i n c : ℕ) → c ≤ n → take c (entries_from f i n) ≡ entries_from f i c
unfolding entries_from
first_entries f i n zero few = refl
first_entries f i zero (suc c) few = absurd (omega arith)
first_entries f i (suc n) (suc c) few = ap (λ (p : List Entry). f i ∷ p) (first_entries f (suc i) n c (omega arith))

module _ (j : Job) (m : PinMap) (count : ℕ) (entries : List ℕ) where
  abbrev left : ℕ → List Entry
  left i = plan_from entries i (count - i)

  -- i intervals are done, without a violation
  pub record Going (i : ℕ) (at : Levels) (sum : Totals) : Type 0 where
    pub ends : (front j m count entries).result ≡ (replay j m i (levels_of at) (left i)).result
    pub carries : carried j m count entries ≡ last_levels (levels_of at) (replay j m i (levels_of at) (left i)).levels
    pub sums : Added j (totals j 0 j.start (remaining j m count entries)) i at sum (left i)

  pub going_start : count ≤ intervals j → length j.start.buckets ≡ length j.line.buckets → (at : Levels) → levels_of at ≡ j.start → (sum : Totals) (ks : List Bucket) → ks ≡ j.line.buckets → totals_of sum ≡ no_totals ks → Going 0 at sum
  unfolding plan_of front carried
  going_start few fills at e sum ks same q =
      let z : count - 0 ≡ count = omega arith in
      let p = first_entries (entry_at entries) 0 (intervals j) count few in
      record {
        ends = rw (e, z, p);
        carries = rw (e, z, p);
        sums = rw (z, p) (added_start j _ 0 at sum (plan_from entries 0 count) (q ∙ ap no_totals same) (ap (λ (l : model.Levels). length l.buckets) e ∙ fills) (rw e));
      }

  left_more : (i : ℕ) → i < count → left i ≡ entry_at entries i ∷ left (suc i)
  unfolding entries_from
  left_more i more = let e : count - i ≡ suc (count - suc i) = omega arith in rw e

  module _ (i : ℕ) (at : Levels) (sum : Totals) (g : Going i at sum) where
    module _ (more : i < count) where
      -- an interval that reaches levels
      pub going_on : (next : Levels) → outcome j m (suc i) (levels_of at) (entry_at entries i) ≡ reaches (levels_of next) → (x : Interval) (sum' : Totals) (ks : List Bucket) → ks ≡ j.line.buckets → IsInterval j m entries i x → totals_of sum' ≡ added (totals_of sum) ks (levels_of at).buckets x → ((k : ℕ) → k < length j.line.buckets → (bucket_at j.line.buckets k).drain ≤ 4095) → Going (i + 1) next sum'
      unfolding replay go_on written last_levels outcome
      going_on next o x sum' ks same d e most =
          let sent_on : (levels_of next).buckets ≡ after_sending (sends j (entry_at entries i)) j.line.buckets (levels_of at).buckets = reaches_after_sending j.line _ _ _ _ (levels_of at) (levels_of next) o in
          rw (add-one i) (record {
            ends = g.ends ∙ rw (left_more i more, o);
            carries = g.carries ∙ rw (left_more i more, o);
            sums = added_on j _ i at sum (entry_at entries i) (left (suc i)) next x sum' (rw (left_more i more) at g.sums) d.does sent_on (e ∙ ap (λ (bs : List Bucket). added (totals_of sum) bs (levels_of at).buckets x) same) most;
          })

      -- an interval with a violation ends it
      pub going_stop : (w : v.Violation) → outcome j m (suc i) (levels_of at) (entry_at entries i) ≡ violates w → FrontOf j m count entries None
      unfolding replay go_on is_clean
      going_stop w o = breaks (ap is_clean g.ends ∙ rw (left_more i more, o))

    -- all are done
    pub going_end : i ≡ count → FrontOf j m count entries (Some (record { at = at; sum = sum }))
    unfolding replay entries_from last_levels is_clean
    going_end q =
        let n : count - i ≡ 0 = omega arith in
        let s = g.sums in
        leads
        (ap is_clean g.ends ∙ rw n)
        (sym (rw n at g.carries))
        s.levels
        (added_end j _ i at sum (rw n at g.sums))
        (rw (← q) (record { distortion = s.small.0; source = s.small.1; channel = s.small.2; unused = s.unused_small }))
