-- The totals of both parts, counted over the whole plan: `Counted`.
use Prim.Native.Nat.{ℕ, zero, suc, ◌+◌, ◌<◌}
use mathlib.Core.Path.{◌≡◌, refl, sym, ap, ap₂, ◌∙◌}
use mathlib.Core.List.{List, [], ◌∷◌, ◌++◌, zip_with}
use native.Mathlib.Omega.{arith}
use lib.ListN.{length, get_or, get_or-append}
use lib.Seq.{get_or-append-add}
use Rattle.base.specs.Lists.{sum, gathered}
use Rattle.model.specs.Job.{Bucket, bucket_at, Levels, Job, Entry, takes, distorts}
use Rattle.model.specs.Levels.{no_entry, entry_of, taken, distorted, unused_drain, unused_totals}
use Rattle.model.specs.Replay.{total_distortion, totals, plus_each, plus}
use Rattle.model.proofs.Lines.{coding_on}
use Rattle.changing.specs.NewContract.{Contract, line_under, under}
use Rattle.changing.specs.Claims.{Counted}

-- a sum in two parts
sum_split : (f g h : ℕ → ℕ) (a b : ℕ) → ((i : ℕ) → i < a → f (suc i) ≡ g (suc i)) → ((i : ℕ) → i < b → f (suc (a + i)) ≡ h (suc i)) → sum f (a + b) ≡ sum g a + sum h b
unfolding gathered
sum_split f g h zero zero p q = omega arith
sum_split f g h (suc a) zero p q =
    let z : suc a + 0 ≡ suc a = omega arith in
    let y : a + 0 ≡ a = omega arith in
    rw z (omega (arith, rw y at (sum_split f g h a zero (λ i l. p i (omega arith)) (λ i l. absurd (omega arith))), p a (omega arith)))
sum_split f g h a (suc b) p q =
    let z : a + suc b ≡ suc (a + b) = omega arith in
    rw z (omega (arith, sum_split f g h a b p (λ i l. q i (omega arith)), q b (omega arith)))

-- the entries of two lists, one behind the other
entry_first : (p q : List Entry) (i : ℕ) → i < length p → entry_of (p ++ q) (suc i) ≡ entry_of p (suc i)
unfolding entry_of
entry_first p q i h = get_or-append p q no_entry i h

entry_rest : (p q : List Entry) (i : ℕ) → entry_of (p ++ q) (suc (length p + i)) ≡ entry_of q (suc i)
unfolding entry_of
entry_rest p q i = get_or-append-add p q i no_entry

module _ (j : Job) (c : Contract) (p q : List Entry) where
  abbrev K : Job
  K = under j c

  distortions : sum (distorted j 0 (p ++ q)) (length p + length q) ≡ total_distortion j 0 p + total_distortion K (length p) q
  unfolding total_distortion distorted
  distortions = sum_split _ _ _ (length p) (length q) (λ i h. ap (distorts j (0 + suc i)) (entry_first p q i h)) (λ i h. later i)
    where
      later : (i : ℕ) → distorts j (0 + suc (length p + i)) (entry_of (p ++ q) (suc (length p + i))) ≡ distorts K (length p + suc i) (entry_of q (suc i))
      later i =
          let z : 0 + suc (length p + i) ≡ length p + suc i = omega arith in
          rw (z, entry_rest p q i) (unfold distorts in (sym (ap (λ k. k.distortion) (coding_on j (line_under j c) (length p + suc i) (entry_of q (suc i)).choice))))

  sources : sum (taken j 0 (p ++ q)) (length p + length q) ≡ sum (taken j 0 p) (length p) + sum (taken K (length p) q) (length q)
  unfolding taken
  sources = sum_split _ _ _ (length p) (length q) (λ i h. ap (takes j (0 + suc i)) (entry_first p q i h)) (λ i h. later i)
    where
      later : (i : ℕ) → takes j (0 + suc (length p + i)) (entry_of (p ++ q) (suc (length p + i))) ≡ takes K (length p + suc i) (entry_of q (suc i))
      later i =
          let z : 0 + suc (length p + i) ≡ length p + suc i = omega arith in
          rw (z, entry_rest p q i) (unfold takes in (sym (ap (λ k. k.size) (coding_on j (line_under j c) (length p + suc i) (entry_of q (suc i)).choice))))

-- numbers for each bucket
zip_count : (f : Bucket → ℕ → ℕ) (ks : List Bucket) (ls : List ℕ) (n : ℕ) → length ks ≡ n → length ls ≡ n → length (zip_with f ks ls) ≡ n
unfolding zip_with
zip_count f [] ls n e h = e
zip_count f (k ∷ ks) [] n e h = absurd (omega arith)
zip_count f (k ∷ ks) (l ∷ ls) n e h = ap suc (zip_count f ks ls (length ks) refl (omega arith)) ∙ e

zip_at : (f : Bucket → ℕ → ℕ) (ks : List Bucket) (ls : List ℕ) (i : ℕ) → i < length ks → length ls ≡ length ks → get_or (zip_with f ks ls) i 0 ≡ f (bucket_at ks i) (get_or ls i 0)
unfolding zip_with
zip_at f [] ls i h e = absurd (omega arith)
zip_at f (k ∷ ks) [] i h e = absurd (omega arith)
zip_at f (k ∷ ks) (l ∷ ls) zero h e = refl
zip_at f (k ∷ ks) (l ∷ ls) (suc i) h e = zip_at f ks ls i (omega arith) (omega arith)

plus_count : (us vs : List ℕ) (n : ℕ) → length us ≡ n → length vs ≡ n → length (plus_each us vs) ≡ n
unfolding plus_each zip_with
plus_count [] vs n e h = e
plus_count (u ∷ us) [] n e h = absurd (omega arith)
plus_count (u ∷ us) (v ∷ vs) n e h = ap suc (plus_count us vs (length us) refl (omega arith)) ∙ e

plus_at : (us vs : List ℕ) (i : ℕ) → i < length us → length vs ≡ length us → get_or (plus_each us vs) i 0 ≡ get_or us i 0 + get_or vs i 0
unfolding plus_each zip_with
plus_at [] vs i h e = absurd (omega arith)
plus_at (u ∷ us) [] i h e = absurd (omega arith)
plus_at (u ∷ us) (v ∷ vs) zero h e = refl
plus_at (u ∷ us) (v ∷ vs) (suc i) h e = plus_at us vs i (omega arith) (omega arith)

module _ (j : Job) (c : Contract) (at : Levels) (p q : List Entry) (fills : length j.start.buckets ≡ length j.line.buckets) (count : length (under j c).line.buckets ≡ length j.line.buckets) (levels : length at.buckets ≡ length j.line.buckets) where
  abbrev n : ℕ
  n = length j.line.buckets

  abbrev us : List ℕ
  us = unused_totals j 0 p j.line.buckets j.start.buckets (length p)

  abbrev vs : List ℕ
  vs = unused_totals (under j c) (length p) q (under j c).line.buckets at.buckets (length q)

  us_count : length us ≡ n
  unfolding unused_totals
  us_count = zip_count _ j.line.buckets j.start.buckets n refl fills

  vs_count : length vs ≡ n
  unfolding unused_totals
  vs_count = zip_count _ (under j c).line.buckets at.buckets n count levels

  us_at : (i : ℕ) → i < n → get_or us i 0 ≡ sum (unused_drain j 0 p (bucket_at j.line.buckets i) (get_or j.start.buckets i 0)) (length p)
  unfolding unused_totals
  us_at i h = zip_at _ j.line.buckets j.start.buckets i h fills

  vs_at : (i : ℕ) → i < n → get_or vs i 0 ≡ sum (unused_drain (under j c) (length p) q (bucket_at (under j c).line.buckets i) (get_or at.buckets i 0)) (length q)
  unfolding unused_totals
  vs_at i h = zip_at _ (under j c).line.buckets at.buckets i (omega (arith, count)) (levels ∙ sym count)

  pub counted : Counted j c at p q (plus (totals j 0 j.start p) (totals (under j c) (length p) at q))
  unfolding plus totals
  counted = record {
    distortion = sym (distortions j c p q);
    source = sym (sources j c p q);
    channel = refl;
    unused_count = plus_count us vs n us_count vs_count;
    unused = λ i h. plus_at us vs i (omega (arith, us_count)) (vs_count ∙ sym us_count) ∙ ap₂ ◌+◌ (us_at i h) (vs_at i h);
  }
