-- Sums over the intervals of a plan, and the greatest number: of its first entry, and of the rest from the levels that the first entry leads to.
use Prim.Native.Nat.{ℕ, zero, suc, ◌+◌}
use mathlib.Core.Path.{◌≡◌, refl, sym, ◌∙◌, ap₂}
use mathlib.Core.List.{List, [], ◌∷◌, zip_with}
use native.Mathlib.Numerals.{add-one}
use native.Mathlib.Omega.{arith}
use lib.ListN.{length}
use Rattle.trellis.specs.Trellis.{Combines}
use Rattle.trellis.proofs.Optimality.{sum_combines}
use Rattle.model.specs.Job.{Bucket, Levels, Job, Entry, sends, takes, distorts}
use Rattle.model.specs.Levels.{entry_of, sent, taken, distorted, bucket_level, unused_drain, unused_totals}
use Rattle.base.specs.Lists.{sum, gathered}
use Rattle.model.specs.Step.{bucket_step, after_sending}
use Rattle.model.specs.Replay.{plus_each, plus, Totals, total_distortion, totals}
use Rattle.model.proofs.Levels.{taken_rest, bucket_rest}

-- the first number and the rest, which another function gives
pub gathered_first : (◌⊕◌ : ℕ → ℕ → ℕ) → Combines ◌⊕◌ → (f g : ℕ → ℕ) → ((i : ℕ) → f (suc (suc i)) ≡ g (suc i)) → (n : ℕ) → gathered ◌⊕◌ f (suc n) ≡ ◌⊕◌ (f 1) (gathered ◌⊕◌ g n)
unfolding gathered
gathered_first ◌⊕◌ c f g e zero = c.left_zero (f 1) ∙ sym (c.right_zero (f 1))
gathered_first ◌⊕◌ c f g e (suc n) =
    ap₂ ◌⊕◌ (gathered_first ◌⊕◌ c f g e n) (e n) ∙ c.associates (f 1) (gathered ◌⊕◌ g n) (g (suc n))

pub sum_first : (f g : ℕ → ℕ) → ((i : ℕ) → f (suc (suc i)) ≡ g (suc i)) → (n : ℕ) → sum f (suc n) ≡ f 1 + sum g n
sum_first = gathered_first ◌+◌ sum_combines

-- totals one after the other
each_assoc : (a b c : List ℕ) → plus_each (plus_each a b) c ≡ plus_each a (plus_each b c)
unfolding plus_each zip_with
each_assoc [] b c = refl
each_assoc (x ∷ a) [] c = refl
each_assoc (x ∷ a) (y ∷ b) [] = refl
each_assoc (x ∷ a) (y ∷ b) (z ∷ c) = let q : x + y + z ≡ x + (y + z) = omega arith in let ih = each_assoc a b c in cc

pub totals_same : {a b c a' b' c' : ℕ} {d d' : List ℕ} → a ≡ a' → b ≡ b' → c ≡ c' → d ≡ d' → ◌≡◌ {A = Totals} (record { distortion = a; source = b; channel = c; unused = d }) (record { distortion = a'; source = b'; channel = c'; unused = d' })
totals_same p q z w = cc

pub plus_assoc : (a b c : Totals) → plus (plus a b) c ≡ plus a (plus b c)
unfolding plus
plus_assoc a b c = totals_same (omega arith) (omega arith) (omega arith) (each_assoc a.unused b.unused c.unused)

-- what the steps of all buckets leave unused where c is sent
unfoldable pub unused : ℕ → List Bucket → List ℕ → List ℕ
unused c ks ls = zip_with (λ k l. (bucket_step k.drain l c).unused) ks ls

-- what one entry adds in interval t, from the levels before it
unfoldable pub first_totals : Job → ℕ → Levels → Entry → Totals
first_totals j t start e = record {
  distortion = distorts j t e;
  source = takes j t e;
  channel = sends j e;
  unused = unused (sends j e) j.line.buckets start.buckets;
}

module _ (j : Job) (s : ℕ) (e : Entry) (p : List Entry) where
  distorted_rest : (n : ℕ) → distorted j s (e ∷ p) (suc (suc n)) ≡ distorted j (suc s) p (suc n)
  unfolding distorted entry_of
  distorted_rest n = let q : s + suc (suc n) ≡ suc s + suc n = omega arith in rw q

  pub distortions_first : (◌⊕◌ : ℕ → ℕ → ℕ) → Combines ◌⊕◌ → gathered ◌⊕◌ (distorted j s (e ∷ p)) (suc (length p)) ≡ ◌⊕◌ (distorts j (suc s) e) (gathered ◌⊕◌ (distorted j (suc s) p) (length p))
  distortions_first ◌⊕◌ c = gathered_first ◌⊕◌ c (distorted j s (e ∷ p)) (distorted j (suc s) p) distorted_rest (length p) ∙ unfold distorted entry_of in rw add-one

  distortion_first : total_distortion j s (e ∷ p) ≡ distorts j (suc s) e + total_distortion j (suc s) p
  unfolding total_distortion
  distortion_first = distortions_first ◌+◌ sum_combines

  unused_rest : (k : Bucket) (l n : ℕ) → unused_drain j s (e ∷ p) k l (suc (suc n)) ≡ unused_drain j (suc s) p k (bucket_step k.drain l (sends j e)).level (suc n)
  unfolding unused_drain sent entry_of
  unused_rest k l n = rw (bucket_rest j s e p k l n)

  unused_one : (k : Bucket) (l : ℕ) → unused_drain j s (e ∷ p) k l 1 ≡ (bucket_step k.drain l (sends j e)).unused
  unfolding unused_drain bucket_level bucket_step sent entry_of
  unused_one k l = refl

  unused_first : (ks : List Bucket) (ls : List ℕ) (n : ℕ) → unused_totals j s (e ∷ p) ks ls (suc n) ≡ plus_each (unused (sends j e) ks ls) (unused_totals j (suc s) p ks (after_sending (sends j e) ks ls) n)
  unfolding unused_totals unused after_sending plus_each zip_with
  unused_first [] ls n = refl
  unused_first (k ∷ ks) [] n = refl
  unused_first (k ∷ ks) (l ∷ ls) n =
      let h = sum_first (unused_drain j s (e ∷ p) k l) (unused_drain j (suc s) p k (bucket_step k.drain l (sends j e)).level) (unused_rest k l) n in
      let ih = unused_first ks ls n in
      rw (h, ih, unused_one k l)

  -- the first entry leads to the levels l
  pub totals_first : (start l : Levels) → l.buckets ≡ after_sending (sends j e) j.line.buckets start.buckets → totals j s start (e ∷ p) ≡ plus (first_totals j (suc s) start e) (totals j (suc s) l p)
  unfolding totals plus first_totals
  totals_first start l h =
      totals_same
      distortion_first
      (sum_first (taken j s (e ∷ p)) (taken j (suc s) p) (taken_rest j s e p) (length p) ∙ unfold taken entry_of in rw add-one)
      (sum_first (sent j (e ∷ p)) (sent j p) (λ i. unfold sent entry_of in refl) (length p) ∙ unfold sent entry_of in refl)
      (rw h (unused_first j.line.buckets start.buckets (length p)))
