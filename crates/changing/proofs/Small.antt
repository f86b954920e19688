-- Totals of a plan in shape are small: each interval adds at most a drain, a size, a rate and a distortion within their limits.
use Prim.Native.Nat.{ℕ, zero, suc, ◌+◌, ◌*◌, ◌≤◌, ◌<◌}
use mathlib.Core.List.{List, [], ◌∷◌, zip_with}
use native.Mathlib.Omega.{arith}
use native.Mathlib.Nat.{suc-mul}
use lib.ListN.{length, get_or}
use Rattle.base.specs.Lists.{sum, gathered}
use Rattle.model.specs.Job.{Bucket, Line, bucket_at, Levels, Job, Entry, on_line, coding, sends, takes, distorts, PlanFits}
use Rattle.model.specs.Levels.{entry_of, sent, taken, distorted, unused_drain, unused_totals}
use Rattle.model.specs.Replay.{total_distortion, totals}
use Rattle.model.proofs.Lines.{intervals_on, choice_on, coding_on}
use Rattle.model.proofs.Units.{entry_fits}
use Rattle.model.proofs.Walks.{fits_length}
use Rattle.format.specs.Claims.{InLimits}
use Rattle.format.proofs.Bounds.{CodingKept, coding_within}

-- n numbers, each at most b
sum_most : (f : ℕ → ℕ) (b n : ℕ) → ((i : ℕ) → i < n → f (suc i) ≤ b) → sum f n ≤ n * b
unfolding gathered
sum_most f b zero h = omega arith
sum_most f b (suc n) h = omega (arith, sum_most f b n (λ i l. h i (omega arith)), h n (omega arith), suc-mul n b)

module _ (j : Job) (l : InLimits j) (line : Line) (rates : (y : ℕ) → y < length line.rates → get_or line.rates y 0 ≤ 4095) (drains : (i : ℕ) → i < length line.buckets → (bucket_at line.buckets i).drain ≤ 4095) (s : ℕ) (start : Levels) (p : List Entry) (fits : PlanFits (on_line j line) s p) where
  abbrev J : Job
  J = on_line j line

  coding_small : (n : ℕ) → n < length p → CodingKept (coding J (s + suc n) (entry_of p (suc n)).choice)
  coding_small n h = rw (coding_on j line) (coding_within j l (s + suc n) (omega (arith, fits_length fits, intervals_on j line)) _ (choice_on j line (entry_fits fits n h).choice))

  pub distortion_small : (totals J s start p).distortion ≤ length p * 1000000
  unfolding totals total_distortion distorted distorts
  distortion_small = sum_most _ 1000000 (length p) (λ n h. (coding_small n h).distortion)

  pub source_small : (totals J s start p).source ≤ length p * 4095
  unfolding totals taken takes
  source_small = sum_most _ 4095 (length p) (λ n h. (coding_small n h).size)

  pub channel_small : (totals J s start p).channel ≤ length p * 4095
  unfolding totals sent sends on_line
  channel_small = sum_most _ 4095 (length p) (λ n h. rates _ (unfold on_line in (entry_fits fits n h).rate))

  unused_most : (k : Bucket) (x n : ℕ) → k.drain ≤ 4095 → sum (unused_drain J s p k x) n ≤ n * 4095
  unused_most k x n h = sum_most _ 4095 n (λ i less. unfold unused_drain in (omega arith))

  each_most : (ks : List Bucket) (ls : List ℕ) → ((i : ℕ) → i < length ks → (bucket_at ks i).drain ≤ 4095) → (i : ℕ) → get_or (zip_with (λ k x. sum (unused_drain J s p k x) (length p)) ks ls) i 0 ≤ length p * 4095
  unfolding zip_with
  each_most [] ls d i = omega arith
  each_most (k ∷ ks) [] d i = omega arith
  each_most (k ∷ ks) (x ∷ ls) d zero = unused_most k x (length p) (d 0 (omega arith))
  each_most (k ∷ ks) (x ∷ ls) d (suc i) = each_most ks ls (λ i h. d (suc i) (omega arith)) i

  pub unused_small : (i : ℕ) → get_or (totals J s start p).unused i 0 ≤ length p * 4095
  unfolding totals unused_totals on_line
  unused_small i = each_most line.buckets start.buckets drains i
