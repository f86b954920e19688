-- The fields of a header by their place: how many there are, and those of the buckets behind the first.
use Prim.Native.Nat.{ℕ, zero, suc, ◌+◌, ◌*◌, ◌<◌}
use mathlib.Core.Path.{◌≡◌, refl, ap, ◌∙◌}
use mathlib.Core.List.{List, [], ◌∷◌, ◌++◌}
use native.Mathlib.Omega.{arith}
use lib.ListN.{length, get_or, drop, length-drop}
use lib.Seq.{get_or-append-add, get_or-drop}
use Rattle.format.specs.JobBytes.{Policed, Header, further_buckets, no_bucket, bucket_values, nine_values, header_values}

pub bucket_count : (ks : List Policed) → length (bucket_values ks) ≡ 3 * length ks
unfolding bucket_values
bucket_count [] = refl
bucket_count (k ∷ ks) = omega (arith, bucket_count ks)

-- the three of the i-th bucket, one after another
pub record ThreeAt (values : List ℕ) (at : ℕ) (k : Policed) : Type 0 where
  pub size : get_or values at 0 ≡ k.size
  pub drain : get_or values (at + 1) 0 ≡ k.drain
  pub fill : get_or values (at + 2) 0 ≡ k.fill

three_behind : (xs ys : List ℕ) (at n m : ℕ) (k : Policed) → length xs ≡ n → n + at ≡ m → ThreeAt ys at k → ThreeAt (xs ++ ys) m k
three_behind xs ys at n m k e q t = record {
  size = ap (λ (i : ℕ). get_or (xs ++ ys) i 0) (omega arith) ∙ get_or-append-add xs ys at 0 ∙ t.size;
  drain = ap (λ (i : ℕ). get_or (xs ++ ys) i 0) (omega arith) ∙ get_or-append-add xs ys (at + 1) 0 ∙ t.drain;
  fill = ap (λ (i : ℕ). get_or (xs ++ ys) i 0) (omega arith) ∙ get_or-append-add xs ys (at + 2) 0 ∙ t.fill;
}

bucket_at_lem : (ks : List Policed) (i : ℕ) → i < length ks → ThreeAt (bucket_values ks) (3 * i) (get_or ks i no_bucket)
unfolding bucket_values
bucket_at_lem [] i h = absurd (omega arith)
bucket_at_lem (k ∷ ks) zero h = record { size = refl; drain = refl; fill = refl }
bucket_at_lem (k ∷ ks) (suc i) h = three_behind (k.size ∷ k.drain ∷ k.fill ∷ []) (bucket_values ks) (3 * i) 3 (3 * suc i) (get_or ks i no_bucket) refl (omega arith) (bucket_at_lem ks i (omega arith))

module _ (h : Header) where
  -- nine, and three for each further bucket
  pub values_count : length (header_values h) ≡ 9 + 3 * further_buckets h
  unfolding header_values nine_values
  values_count = omega (arith, bucket_count (drop 1 h.buckets), length-drop 1 h.buckets)

  pub further_at : (i : ℕ) → suc i < length h.buckets → ThreeAt (header_values h) (9 + 3 * i) (get_or h.buckets (suc i) no_bucket)
  unfolding header_values nine_values
  further_at i l =
      let first = get_or h.buckets 0 no_bucket in
      let b = bucket_at_lem (drop 1 h.buckets) i (omega (arith, length-drop 1 h.buckets)) in
      let z : 1 + i ≡ suc i = omega arith in
      three_behind (h.units ∷ h.delay ∷ h.decoder ∷ first.size ∷ first.drain ∷ h.level ∷ first.fill ∷ h.rates ∷ h.choices ∷ []) (bucket_values (drop 1 h.buckets)) (3 * i) 9 (9 + 3 * i) (get_or h.buckets (suc i) no_bucket) refl refl (rw (get_or-drop, z) at b)
