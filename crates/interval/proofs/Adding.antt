-- Totals added up interval after interval, as replay and planning do: what is added and what is left.
use Prim.Native.Nat.{ℕ, zero, suc, ◌+◌, ◌*◌, ◌<◌, ◌≤◌}
use mathlib.Core.Path.{◌≡◌, refl, sym, ◌∙◌, ap}
use mathlib.Core.List.{List, [], ◌∷◌, map, zip_with}
use native.Mathlib.Omega.{arith}
use lib.ListN.{length, get_or, length-map}
use Rattle.model.specs.Job.{Bucket, bucket_at, Job, Entry, sends}
use Rattle.model.specs.Levels.{unused_totals}
use Rattle.base.specs.Lists.{sum, gathered}
use Rattle.model.specs.Step.{bucket_step, after_sending}
use Rattle.model.specs.Replay.{total_distortion, totals}
use Rattle.model.specs.Replay as r
use Rattle.model.proofs.Drains.{zip_length}
use Rattle.model.specs.Replay.{plus_each, plus}
use Rattle.model.proofs.Sums.{totals_same, plus_assoc, unused, first_totals, totals_first}
use Rattle.interval.specs.declared.Interval.{Interval}
use Rattle.interval.specs.declared.Levels.{Levels}
use Rattle.interval.specs.declared.Totals.{Totals}
use Rattle.interval.specs.Answers.{levels_of, totals_of, no_totals, added, Does}

-- i intervals are added up, and the entries of the others are left, from the levels `at`: together they come to the whole
pub record Added (j : Job) (whole : r.Totals) (i : ℕ) (at : Levels) (sum : Totals) (left : List Entry) : Type 0 where
  pub sums : whole ≡ plus (totals_of sum) (totals j i (levels_of at) left)
  pub levels : length (levels_of at).buckets ≡ length j.line.buckets
  pub count : length (totals_of sum).unused ≡ length j.line.buckets
  pub small : (sum.distortion ≤ i * 1000000) × (sum.source ≤ i * 4095) × (sum.channel ≤ i * 4095)
  pub unused_small : (k : ℕ) → get_or (totals_of sum).unused k 0 ≤ i * 4095

-- numbers, one for each bucket
each_count : (us vs : List ℕ) → length us ≡ length vs → length (plus_each us vs) ≡ length vs
unfolding plus_each zip_with
each_count [] [] e = refl
each_count [] (v ∷ vs) e = absurd (omega arith)
each_count (u ∷ us) [] e = absurd (omega arith)
each_count (u ∷ us) (v ∷ vs) e = ap suc (each_count us vs (omega arith))

zero_each : (f : Bucket → ℕ → ℕ) (ks : List Bucket) (ls : List ℕ) → plus_each (map (λ k. 0) ks) (zip_with f ks ls) ≡ zip_with f ks ls
unfolding plus_each zip_with
zero_each f [] ls = refl
zero_each f (k ∷ ks) [] = refl
zero_each f (k ∷ ks) (l ∷ ls) = let q : 0 + f k l ≡ f k l = omega arith in let ih = zero_each f ks ls in cc

each_zero : (us : List ℕ) (ks : List Bucket) (ls : List ℕ) → length us ≡ length ks → length ls ≡ length ks → plus_each us (zip_with (λ (k : Bucket) (l : ℕ). 0) ks ls) ≡ us
unfolding plus_each zip_with
each_zero [] ks ls e h = refl
each_zero (u ∷ us) [] ls e h = absurd (omega arith)
each_zero (u ∷ us) (k ∷ ks) [] e h = absurd (omega arith)
each_zero (u ∷ us) (k ∷ ks) (l ∷ ls) e h = let q : u + 0 ≡ u = omega arith in let ih = each_zero us ks ls (omega arith) (omega arith) in cc

-- what an interval leaves unused is at most the drain
each_most : (c m i : ℕ) (us : List ℕ) (ks : List Bucket) (ls : List ℕ) → ((k : ℕ) → get_or us k 0 ≤ m) → ((k : ℕ) → k < length ks → (bucket_at ks k).drain ≤ 4095) → get_or (plus_each us (unused c ks ls)) i 0 ≤ m + 4095
unfolding plus_each unused zip_with bucket_step
each_most c m i [] ks ls h d = omega arith
each_most c m i (u ∷ us) [] ls h d = omega arith
each_most c m i (u ∷ us) (k ∷ ks) [] h d = omega arith
each_most c m zero (u ∷ us) (k ∷ ks) (l ∷ ls) h d = omega (arith, h 0, d 0 (omega arith))
each_most c m (suc i) (u ∷ us) (k ∷ ks) (l ∷ ls) h d = each_most c m i us ks ls (λ x. h (suc x)) (λ x y. d (suc x) (omega arith))

all_zero : (ks : List Bucket) (i : ℕ) → ◌≡◌ {A = ℕ} (get_or (map (λ (k : Bucket). 0) ks) i 0) 0
all_zero [] i = refl
all_zero (k ∷ ks) zero = refl
all_zero (k ∷ ks) (suc i) = all_zero ks i

module _ (j : Job) (whole : r.Totals) where
  pub added_start : (i : ℕ) (at : Levels) (zero_sum : Totals) (p : List Entry) → totals_of zero_sum ≡ no_totals j.line.buckets → length (levels_of at).buckets ≡ length j.line.buckets → whole ≡ totals j i (levels_of at) p → Added j whole i at zero_sum p
  unfolding plus totals unused_totals no_totals
  added_start i at z p q h e =
      let u : (totals_of z).unused ≡ map (λ k. 0) j.line.buckets = ap (λ (t : r.Totals). t.unused) q in
      record {
        sums = e ∙ rw q (totals_same (omega arith) (omega arith) (omega arith) (sym (zero_each _ j.line.buckets (levels_of at).buckets)));
        levels = h;
        count = ap length u ∙ length-map j.line.buckets (λ k. 0);
        small = unfold totals_of in (omega (arith, ap (λ (t : r.Totals). t.distortion) q), omega (arith, ap (λ (t : r.Totals). t.source) q), omega (arith, ap (λ (t : r.Totals). t.channel) q));
        unused_small = λ k. rw u (omega (arith, all_zero j.line.buckets k));
      }

  -- what an interval adds
  one_more : (t : ℕ) (e : Entry) (at : Levels) (sum sum' : Totals) (x : Interval) → Does j t e x → totals_of sum' ≡ added (totals_of sum) j.line.buckets (levels_of at).buckets x → plus (totals_of sum) (first_totals j t (levels_of at) e) ≡ totals_of sum'
  unfolding plus first_totals added plus_each unused
  one_more t e at sum sum' x d q = rw (← d.sent, ← d.size, ← d.distortion) (sym q)

  pub added_on : (i : ℕ) (at : Levels) (sum : Totals) (e : Entry) (left : List Entry) (next : Levels) (x : Interval) (sum' : Totals) → Added j whole i at sum (e ∷ left) → Does j (suc i) e x → (levels_of next).buckets ≡ after_sending (sends j e) j.line.buckets (levels_of at).buckets → totals_of sum' ≡ added (totals_of sum) j.line.buckets (levels_of at).buckets x → ((k : ℕ) → k < length j.line.buckets → (bucket_at j.line.buckets k).drain ≤ 4095) → Added j whole (suc i) next sum' left
  added_on i at sum e left next x sum' a d n q most =
      let g = a.small in
      let m = d.limits in
      let z : length (unused x.sent j.line.buckets (levels_of at).buckets) ≡ length j.line.buckets = unfold unused in (zip_length (λ k l. (bucket_step k.drain l x.sent).unused) j.line.buckets (levels_of at).buckets a.levels) in
      let u : (totals_of sum').unused ≡ plus_each (totals_of sum).unused (unused x.sent j.line.buckets (levels_of at).buckets) = unfold plus_each unused added in (ap (λ (t : r.Totals). t.unused) q) in
      record {
        sums =
            a.sums
            ∙ ap (plus (totals_of sum)) (totals_first j i e left (levels_of at) (levels_of next) n)
            ∙ sym (plus_assoc (totals_of sum) (first_totals j (suc i) (levels_of at) e) (totals j (suc i) (levels_of next) left))
            ∙ ap (λ (t : r.Totals). plus t (totals j (suc i) (levels_of next) left)) (one_more (suc i) e at sum sum' x d q);
        levels = ap length n ∙ unfold after_sending in (zip_length (λ k l. (bucket_step k.drain l (sends j e)).level) j.line.buckets (levels_of at).buckets a.levels);
        count = ap length u ∙ each_count (totals_of sum).unused (unused x.sent j.line.buckets (levels_of at).buckets) (a.count ∙ sym z) ∙ z;
        small = unfold totals_of added in (omega (arith, ap (λ (t : r.Totals). t.distortion) q), omega (arith, ap (λ (t : r.Totals). t.source) q), omega (arith, ap (λ (t : r.Totals). t.channel) q));
        unused_small = λ k. rw u (omega (arith, each_most x.sent (i * 4095) k (totals_of sum).unused j.line.buckets (levels_of at).buckets a.unused_small most));
      }

  pub added_end : (i : ℕ) (at : Levels) (sum : Totals) → Added j whole i at sum [] → totals_of sum ≡ whole
  unfolding plus totals total_distortion unused_totals gathered
  added_end i at sum a = sym (a.sums ∙ totals_same (omega arith) (omega arith) (omega arith) (each_zero (totals_of sum).unused j.line.buckets (levels_of at).buckets a.count a.levels))
