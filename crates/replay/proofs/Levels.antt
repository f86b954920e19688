-- How many levels an interval has, and where they stand in a list.
use Prim.Native.Nat.{ℕ, suc, ◌+◌, ◌*◌, ◌<◌, ◌≤◌}
use mathlib.Core.Path.{◌≡◌, ◌∙◌, ap, ap₂}
use mathlib.Core.List.{List, [], ◌∷◌}
use native.Mathlib.Numerals.{add-one}
use native.Mathlib.Omega.{arith}
use native.Mathlib.Nat.{mul-suc, mul-le-mul_left, mul-le-mul_right}
use borrow.Author.Rules.{Below-set}
use lib.ListN.{length, set, length-map}
use Rattle.std.specs.Prelude.{Some, None}
use Rattle.base.specs.Lent.{over_at}
use Rattle.base.proofs.Lent.{stored_at}
use Rattle.interval.specs.declared.Levels.{Levels}
use Rattle.interval.specs.Answers.{levels_of}
use Rattle.format.specs.JobBytes.{Header, bucket_of, job_in, Opens}
use Rattle.format.proofs.Opened.{job_limits, few_intervals, buckets_are}

module _ (b : List ℕ) (h : Header) (o : Opens b h) where
  -- the job has the header's buckets, one or two
  pub bucket_count : length (job_in b).line.buckets ≡ length h.buckets
  bucket_count = ap length (buckets_are b h o) ∙ length-map h.buckets bucket_of

  -- so that there are at most 3 levels an interval
  pub few_levels : (each total : ℕ) → each ≡ suc (length h.buckets) → total ≡ h.units + h.delay → each * total ≤ 1728
  few_levels each total e q =
      let most : each ≤ 3 = omega (arith, bucket_count, (job_limits b h o).buckets) in
      omega (arith, few_intervals b h o, mul-le-mul_right {m = each} {n = 3} total most)

-- room for the levels of all intervals, by the counts that the code has: n buckets and t intervals are `each` levels and `total`
module _ (each n total t size : ℕ) (each_is : each ≡ suc n) (total_is : total ≡ t) where
  all_levels : each * total ≡ suc n * t
  all_levels = ap₂ ◌*◌ each_is total_is

  pub room_for_all : each * total ≤ size → suc n * t ≤ size
  room_for_all l = omega (arith, all_levels)

  -- and so for those of one interval
  pub room_for_one : (i : ℕ) → i < total → suc n * t ≤ size → each * i + each ≤ size
  room_for_one i l room = omega (arith, all_levels, mul-suc each i, mul-le-mul_left {m = suc i} {n = total} each l)

-- the levels of an interval, of one bucket or two, stored one after another from the place `at` on
module _ (list : List ℕ) (at each : ℕ) (l : Levels) (each_is : each ≡ suc (length (levels_of l).buckets)) (room : at + each ≤ length list) where
  -- what is stored does not matter to the places
  pub second_fits : (a : ℕ) → at + 1 < length (set list at a)
  unfolding levels_of
  second_fits a = Below-set ℕ list (at + 1) at a (omega (arith, each_is))

  -- one bucket
  pub two_stored : l.bucket2 ≡ None → set (set list at l.decoder) (at + 1) l.bucket ≡ over_at at (l.decoder ∷ (levels_of l).buckets) list
  unfolding levels_of
  two_stored t =
      let two : each ≡ 2 = rw t at each_is in
      rw (t, add-one at) (stored_at (l.decoder ∷ l.bucket ∷ []) list at (omega arith))

  -- two buckets
  module _ (k : ℕ) (t : l.bucket2 ≡ Some k) where
    three : each ≡ 3
    unfolding levels_of
    three = rw t at each_is

    pub third_fits : (a b : ℕ) → at + 2 < length (set (set list at a) (at + 1) b)
    third_fits a b = Below-set ℕ (set list at a) (at + 2) (at + 1) b (Below-set ℕ list (at + 2) at a (omega (arith, three)))

    pub three_stored : set (set (set list at l.decoder) (at + 1) l.bucket) (at + 2) k ≡ over_at at (l.decoder ∷ (levels_of l).buckets) list
    unfolding levels_of
    three_stored =
        let last : at + 2 ≡ suc (suc at) = omega arith in
        rw (t, add-one at, last) (stored_at (l.decoder ∷ l.bucket ∷ k ∷ []) list at (omega (arith, three)))
