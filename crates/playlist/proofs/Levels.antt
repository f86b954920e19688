-- The levels of one bucket or two to which the totals of a plan lead.
use Prim.Native.Nat.{ℕ, ◌+◌, ◌-◌, ◌*◌, ◌≤◌, ◌<◌}
use mathlib.Core.Path.{◌≡◌, refl, ap, ap₂}
use mathlib.Core.List.{List, [], ◌∷◌, zip_with}
use native.Mathlib.Nat.{mul-le-mul_left, mul-le-mul_right}
use native.Mathlib.Omega.{arith}
use lib.ListN.{length}
use Rattle.std.specs.Prelude.{Option, Some, None}
use Rattle.std.specs.Option.{option_to_list}
use Rattle.header.specs.declared.Bucket.{Bucket}
use Rattle.header.specs.declared.Header.{Header}
use Rattle.header.specs.Answers.{plain, policed_of}
use Rattle.interval.specs.declared.Totals.{Totals}
use Rattle.interval.specs.Answers.{totals_of}
use Rattle.planner.specs.declared.BucketLevels.{BucketLevels}
use Rattle.planner.specs.Answers.{levels_of_buckets}
use Rattle.playlist.specs.Answers.{led_by, second_led, LeadsTo, Lasts}

-- what a bucket drains in all intervals
pub drained_small : (n d : ℕ) → n ≤ 576 → d ≤ 4095 → n * d < 4294967296
drained_small n d h g = omega (arith, mul-le-mul_right {m = n} {n = 576} d h, mul-le-mul_left {m = d} {n = 4095} 576 g)

-- one is not two
short : ◌≡◌ {A = ℕ} 1 2 → ⊥
short e = omega (arith, e)

-- by the totals of a plan: the first bucket's level stands before the second's, if there is one
module _ (h : Header) (l : BucketLevels) (x : Totals) where
  pub led_first : (r : ℕ) (r2 : Option ℕ) → (h.units + h.delay) * h.first.drain + r ≡ l.bucket + x.channel + x.unused → option_to_list r2 ≡ second_led (plain h) l x → levels_of_buckets (record { bucket = r; bucket2 = r2 }) ≡ led_by (plain h) l x
  unfolding levels_of_buckets led_by plain policed_of totals_of zip_with
  led_first r r2 q e = let k : r ≡ l.bucket + x.channel + x.unused - (h.units + h.delay) * h.first.drain = omega arith in ap₂ (λ (n : ℕ) (ls : List ℕ). n ∷ ls) k e

  pub led_none : h.second ≡ None → [] ≡ second_led (plain h) l x
  unfolding led_by plain levels_of_buckets totals_of zip_with
  led_none e = rw e refl

  module _ (k : Bucket) (e : h.second ≡ Some k) (a : LeadsTo (plain h) l x) where
    more : 1 < length (plain h).buckets
    unfolding plain
    more = rw e (omega arith)

    -- there is a level of it, and a number of what it left unused
    pub level_there : l.bucket2 ≡ None → ⊥
    unfolding plain levels_of_buckets
    level_there q = short (rw (e, q) at a.levels)

    pub unused_there : x.unused2 ≡ None → ⊥
    unfolding plain totals_of
    unused_there q = short (rw (e, q) at a.unused)

    pub drain_two : k.drain ≤ 4095
    unfolding plain policed_of
    drain_two = rw e at (a.drains 1 more)

    module _ (v u : ℕ) (f : l.bucket2 ≡ Some v) (g : x.unused2 ≡ Some u) where
      pub lasts_two : Lasts v x.channel u ((h.units + h.delay) * k.drain)
      unfolding plain policed_of levels_of_buckets totals_of
      lasts_two = rw (e, f, g) at (a.lasts 1 more)

      pub led_two : (r : ℕ) → (h.units + h.delay) * k.drain + r ≡ v + x.channel + u → r ∷ [] ≡ second_led (plain h) l x
      unfolding levels_of_buckets led_by plain policed_of totals_of zip_with
      led_two r q =
          let n : r ≡ v + x.channel + u - (h.units + h.delay) * k.drain = omega arith in
          rw (e, f, g) (ap (λ (i : ℕ). i ∷ []) n)
