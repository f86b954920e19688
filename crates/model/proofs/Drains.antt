-- The drain of a bucket, used and unused: `BucketSteps`, `DrainBalance`, `ReplayBalance`.
use Prim.Native.Nat.{ℕ, zero, suc, ◌+◌, ◌*◌, ◌<◌}
use mathlib.Core.Path.{◌≡◌, refl, ap}
use mathlib.Core.Logic.{◌⊎◌, inl, inr}
use mathlib.Core.List.{List, [], ◌∷◌, zip_with}
use native.Mathlib.Decide.{dec_lt}
use native.Mathlib.Nat.{suc-mul}
use native.Mathlib.Omega.{arith}
use lib.ListN.{length, get_or}
use Rattle.model.specs.Job.{Bucket, bucket_at, Levels, no_levels, Job, Entry}
use Rattle.model.specs.Levels.{bucket_level, bucket_levels, unused_drain, unused_totals}
use Rattle.base.specs.Lists.{sum, gathered}
use Rattle.model.specs.Pins.{PinMap}
use Rattle.model.specs.Admissible.{ending, LevelsOf}
use Rattle.model.specs.Step.{bucket_step}
use Rattle.model.specs.Replay.{totals, replay, last_levels}
use Rattle.model.specs.Claims.{BucketSteps, DrainBalance, ReplayBalance}
use Rattle.model.proofs.DemandTwo.{demand_two}

pub bucket_steps : BucketSteps
unfolding bucket_step
bucket_steps drain l c = record {
  balance = omega arith;
  either = go (dec_lt drain (l + c));
}
  where
    go : Dec (drain < l + c) → ((bucket_step drain l c).level ≡ 0) ⊎ ((bucket_step drain l c).unused ≡ 0)
    go (yes h) = inr (omega arith)
    go (no h) = inl (omega arith)

pub drain_balance : DrainBalance
unfolding gathered bucket_level unused_drain
drain_balance j s p k l zero = omega arith
drain_balance j s p k l (suc n) = let ih = drain_balance j s p k l n in omega (arith, suc-mul n k.drain)

-- a number of each bucket, in its place
pub zip_length : (f : Bucket → ℕ → ℕ) (ks : List Bucket) (ls : List ℕ) → length ls ≡ length ks → length (zip_with f ks ls) ≡ length ks
unfolding zip_with
zip_length f [] ls e = refl
zip_length f (k ∷ ks) [] e = absurd (omega arith)
zip_length f (k ∷ ks) (l ∷ ls) e = ap suc (zip_length f ks ls (omega arith))

each_at : (f : Bucket → ℕ → ℕ) (ks : List Bucket) (ls : List ℕ) → length ls ≡ length ks → (i : ℕ) → i < length ks → get_or (zip_with f ks ls) i 0 ≡ f (bucket_at ks i) (get_or ls i 0)
unfolding zip_with
each_at f [] ls e i h = absurd (omega arith)
each_at f (k ∷ ks) [] e i h = absurd (omega arith)
each_at f (k ∷ ks) (l ∷ ls) e zero h = refl
each_at f (k ∷ ks) (l ∷ ls) e (suc i) h = each_at f ks ls (omega arith) i (omega arith)

last_none : (s : Levels) (ls : List Levels) → length ls ≡ 0 → last_levels s ls ≡ s
unfolding last_levels
last_none s [] e = refl
last_none s (l ∷ ls) e = absurd (omega arith)

last_some : (s : Levels) (ls : List Levels) (n : ℕ) → length ls ≡ suc n → last_levels s ls ≡ get_or ls n no_levels
unfolding last_levels
last_some s [] n e = absurd (omega arith)
last_some s (l ∷ []) zero e = refl
last_some s (l ∷ []) (suc n) e = absurd (omega arith)
last_some s (l ∷ k ∷ ls) zero e = absurd (omega arith)
last_some s (l ∷ k ∷ ls) (suc n) e = last_some l (k ∷ ls) n (omega arith)

module _ (j : Job) (m : PinMap) (s : ℕ) (start : Levels) (p : List Entry) (whole : length start.buckets ≡ length j.line.buckets) (i : ℕ) (h : i < length j.line.buckets) where
  abbrev k : Bucket
  k = bucket_at j.line.buckets i

  abbrev l : ℕ
  l = get_or start.buckets i 0

  pub unused_at : get_or (totals j s start p).unused i 0 ≡ sum (unused_drain j s p k l) (length p)
  unfolding totals unused_totals
  unused_at = each_at _ j.line.buckets start.buckets whole i h

  pub level_at : (n : ℕ) → get_or (bucket_levels j s p j.line.buckets start.buckets n) i 0 ≡ bucket_level j s p k l n
  unfolding bucket_levels
  level_at n = each_at _ j.line.buckets start.buckets whole i h

  last_at : (ls : List Levels) (n : ℕ) → length ls ≡ n → LevelsOf j m s start p ls → get_or (last_levels start ls).buckets i 0 ≡ bucket_level j s p k l n
  unfolding ending bucket_level
  last_at ls zero e f = rw (last_none start ls e)
  last_at ls (suc n) e f = rw (last_some start ls n e, (f n (omega arith)).buckets) (level_at (suc n))

  balanced : (ls : List Levels) → length ls ≡ length p → LevelsOf j m s start p ls → l + (totals j s start p).channel + get_or (totals j s start p).unused i 0 ≡ length p * k.drain + get_or (last_levels start ls).buckets i 0
  unfolding totals
  balanced ls e f = rw (unused_at, last_at ls (length p) e f) (drain_balance j s p k l (length p))

pub replay_balance : ReplayBalance
replay_balance j m s start p whole clean =
    let c = demand_two j m s start p in
    record { balance = λ i h. balanced j m s start p whole i h (replay j m s start p).levels (c.clean_whole clean) c.levels }
