-- A contract's buckets, one or two, read off its lists; its limits and drains, bucket by bucket.
use Prim.Native.Nat.{ℕ, ◌+◌, ◌≤◌}
use mathlib.Core.Path.{◌≡◌, refl, sym, ◌∙◌, ap, ap₂}
use mathlib.Core.Bool.{Bool, true, false}
use mathlib.Core.List.{List, [], ◌∷◌, zip_with}
use native.Mathlib.Omega.{arith}
use lib.ListN.{length, get_or, drop}
use Rattle.std.specs.Prelude.{if◌then◌else◌}
use Rattle.base.specs.If.{one_if}
use Rattle.format.specs.Limits.{Limit, limit, kept, each_kept}
use Rattle.format.specs.JobBytes.{Policed, opening, largest_sizes, bucket_limits, drain_limits}
use Rattle.format.specs.Limits.{AllKept}
use Rattle.format.proofs.Limits.{not_true, is_kept, all_fit, fit_all, not_all}
use Rattle.header.specs.declared.Bucket.{Bucket}
use Rattle.header.specs.Answers.{extra, policed_of}
use Rattle.changing.specs.NewContract.{policed_under, contract_limits}
use Rattle.contract.specs.Answers.{contract, empty_bucket}

one_of : (l : List ℕ) → length l ≡ 1 → l ≡ get_or l 0 0 ∷ []
one_of [] e = absurd (omega arith)
one_of (a ∷ []) e = refl
one_of (a ∷ b ∷ l) e = absurd (omega arith)

two_of : (l : List ℕ) → length l ≡ 2 → l ≡ get_or l 0 0 ∷ get_or l 1 0 ∷ []
two_of [] e = absurd (omega arith)
two_of (a ∷ []) e = absurd (omega arith)
two_of (a ∷ b ∷ []) e = refl
two_of (a ∷ b ∷ c ∷ l) e = absurd (omega arith)

pub two_long : (two : Bool) (n : ℕ) → two ≡ true → n ≡ 1 + extra two → n ≡ 2
unfolding extra
two_long two n e h = rw e at h

-- the bucket in a place of the lists
abbrev pub bucket_in : List ℕ → List ℕ → ℕ → Policed
bucket_in sizes drains i = empty_bucket (get_or sizes i 0) (get_or drains i 0)

pub buckets_are : (two : Bool) (rates sizes drains : List ℕ) → length sizes ≡ 1 + extra two → length drains ≡ 1 + extra two → policed_under (contract rates sizes drains) ≡ bucket_in sizes drains 0 ∷ one_if two (bucket_in sizes drains 1)
unfolding policed_under zip_with extra one_if
buckets_are true rates sizes drains m n = ap₂ (λ (s d : List ℕ). policed_under (contract rates s d)) (two_of sizes m) (two_of drains n)
buckets_are false rates sizes drains m n = ap₂ (λ (s d : List ℕ). policed_under (contract rates s d)) (one_of sizes m) (one_of drains n)

-- the second, where there is one
pub second_is : (two : Bool) (rates sizes drains : List ℕ) → length sizes ≡ 1 + extra two → length drains ≡ 1 + extra two → one_if two (bucket_in sizes drains 1) ≡ drop 1 (policed_under (contract rates sizes drains))
second_is two rates sizes drains m n = ap (λ (ks : List Policed). drop 1 ks) (sym (buckets_are two rates sizes drains m n))

pub no_second : (two : Bool) (rates sizes drains : List ℕ) → length sizes ≡ 1 + extra two → length drains ≡ 1 + extra two → two ≡ false → [] ≡ drop 1 (policed_under (contract rates sizes drains))
unfolding one_if
no_second two rates sizes drains m n e = rw (← second_is two rates sizes drains m n, e)

-- the limits of one bucket or two: the first's, then those of the second where there is one
module _ (k l : Policed) (two : Bool) where
  abbrev each : List Limit
  each = bucket_limits largest_sizes (k ∷ one_if two l)

  first_not : false ≡ each_kept (bucket_limits (255 ∷ []) (k ∷ [])) → false ≡ each_kept each
  first_not e = not_all each (λ h. not_true (e ∙ sym (fit_all (bucket_limits (255 ∷ []) (k ∷ [])) (h.0, (h.1.0, (h.1.1.0, tt))))))

  one_fits : true ≡ each_kept (bucket_limits (255 ∷ []) (k ∷ [])) → two ≡ false → true ≡ each_kept each
  unfolding one_if
  one_fits e q = rw q e

  two_fit : true ≡ each_kept (bucket_limits (255 ∷ []) (k ∷ [])) → two ≡ true → (r : Bool) → r ≡ each_kept (bucket_limits (63 ∷ []) (l ∷ [])) → r ≡ each_kept each
  unfolding one_if
  two_fit e q r f = rw q (go (all_fit (bucket_limits (255 ∷ []) (k ∷ [])) (sym e)))
    where
      go : AllKept (bucket_limits (255 ∷ []) (k ∷ [])) → r ≡ each_kept (bucket_limits largest_sizes (k ∷ l ∷ []))
      go h = unfold each_kept in (f ∙ rw (is_kept (limit 3 0 255 k.size) h.0, is_kept (limit 3 0 4095 k.drain) h.1.0, is_kept (limit 3 0 k.size k.fill) h.1.1.0))

-- as many sizes and drains as buckets, and 1 to 16 rates
pub record Counted (two : Bool) (rates sizes drains : List ℕ) : Type 0 where
  pub sizes_count : length sizes ≡ 1 + extra two
  pub drains_count : length drains ≡ 1 + extra two
  pub some : 1 ≤ length rates
  pub few : length rates ≤ 16

-- then the limits of the buckets are what is left
module _ (two : Bool) (rates sizes drains : List ℕ) (t : Counted two rates sizes drains) where
  abbrev limits : List Limit
  limits = contract_limits (1 + extra two) (contract rates sizes drains)

  left : each_kept limits ≡ each_kept (bucket_limits largest_sizes (bucket_in sizes drains 0 ∷ one_if two (bucket_in sizes drains 1)))
  unfolding contract_limits each_kept
  left =
      let n = 1 + extra two in
      rw (is_kept (limit 3 n n (length sizes)) (omega (arith, t.sizes_count), omega (arith, t.sizes_count)), is_kept (limit 3 n n (length drains)) (omega (arith, t.drains_count), omega (arith, t.drains_count)), is_kept (limit 3 1 16 (length rates)) (t.some, t.few))
      (ap (λ (ks : List Policed). each_kept (bucket_limits largest_sizes ks)) (buckets_are two rates sizes drains t.sizes_count t.drains_count))

  module _ (k : Policed) (p : k ≡ bucket_in sizes drains 0) where
    pub first_out : false ≡ each_kept (bucket_limits (255 ∷ []) (k ∷ [])) → false ≡ each_kept limits
    first_out e = first_not _ _ two (e ∙ ap (λ (k : Policed). each_kept (bucket_limits (255 ∷ []) (k ∷ []))) p) ∙ sym left

    pub one_in : true ≡ each_kept (bucket_limits (255 ∷ []) (k ∷ [])) → two ≡ false → true ≡ each_kept limits
    one_in e q = one_fits _ _ two (e ∙ ap (λ (k : Policed). each_kept (bucket_limits (255 ∷ []) (k ∷ []))) p) q ∙ sym left

    pub two_in : true ≡ each_kept (bucket_limits (255 ∷ []) (k ∷ [])) → two ≡ true → (l : Policed) → l ≡ bucket_in sizes drains 1 → (r : Bool) → r ≡ each_kept (bucket_limits (63 ∷ []) (l ∷ [])) → r ≡ each_kept limits
    two_in e q l s r f =
        two_fit _ _ two (e ∙ ap (λ (k : Policed). each_kept (bucket_limits (255 ∷ []) (k ∷ []))) p) q r
        (f ∙ ap (λ (k : Policed). each_kept (bucket_limits (63 ∷ []) (k ∷ []))) s)
        ∙ sym left

-- the drains, of as many sizes and drains as buckets
pub drained_as : (k : Bucket) (s d : ℕ) → policed_of k ≡ empty_bucket s d → kept (limit 17 1 4095 k.drain) ≡ kept (limit 17 1 4095 d)
unfolding policed_of
drained_as k s d e = ap (λ (p : Policed). kept (limit 17 1 4095 p.drain)) e

if_same : (t : Bool) → t ≡ (if t then true else false)
if_same true = refl
if_same false = refl

module _ (two : Bool) (rates sizes drains : List ℕ) (m : length sizes ≡ 1 + extra two) (n : length drains ≡ 1 + extra two) where
  pub first_idle : kept (limit 17 1 4095 (get_or drains 0 0)) ≡ false → false ≡ each_kept (drain_limits opening (policed_under (contract rates sizes drains)))
  unfolding each_kept
  first_idle e = rw (buckets_are two rates sizes drains m n, e)

  module _ (e : kept (limit 17 1 4095 (get_or drains 0 0)) ≡ true) where
    pub one_drains : two ≡ false → true ≡ each_kept (drain_limits opening (policed_under (contract rates sizes drains)))
    unfolding each_kept one_if
    one_drains q = rw (buckets_are two rates sizes drains m n, q, e)

    pub two_drain : two ≡ true → (r : Bool) → r ≡ kept (limit 17 1 4095 (get_or drains 1 0)) → r ≡ each_kept (drain_limits opening (policed_under (contract rates sizes drains)))
    unfolding each_kept one_if
    two_drain q r f = rw (buckets_are two rates sizes drains m n, q, e) (f ∙ if_same (kept (limit 17 1 4095 (get_or drains 1 0))))
