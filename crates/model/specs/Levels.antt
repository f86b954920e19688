-- The levels of a plan, by the equations of source document 004, the drain that goes unused (document 02, E3), and the effective buffer sizes of (6).
-- A plan here is the entries of the intervals after interval s; s is 0 for a whole job, and n counts intervals from there.
use Rattle.std.specs.Prelude.{ℕ, zero, suc, ◌+◌, ◌-◌, length, get_or, ℤ, pos, ◌+ℤ◌, ◌-ℤ◌}
use Rattle.std.proofs.Math.Option.{none}
use mathlib.Core.List.{List, zip_with}
use Rattle.base.specs.Lists.{build, sum}
use Rattle.model.specs.Job.{Bucket, Job, Entry, sends, takes, distorts}

abbrev pub no_entry : Entry
no_entry = record { rate = 0; choice = none }

-- the entry of the n-th interval, counted from 1
unfoldable pub entry_of : List Entry → ℕ → Entry
entry_of p zero = no_entry
entry_of p (suc n) = get_or p n no_entry

-- C(n), what the interval sends
unfoldable pub sent : Job → List Entry → ℕ → ℕ
sent j p n = sends j (entry_of p n)

module _ (j : Job) (s : ℕ) (p : List Entry) where
  -- R(n), what the interval decodes
  unfoldable pub taken : ℕ → ℕ
  taken n = takes j (s + n) (entry_of p n)

  -- the distortion of the unit that it decodes
  unfoldable pub distorted : ℕ → ℕ
  distorted n = distorts j (s + n) (entry_of p n)

  -- (16), with its sign, from the level b: B(n) = B(n - 1) + C(n) - R(n)
  unfoldable pub decoder_level : ℕ → ℕ → ℤ
  decoder_level b zero = pos b
  decoder_level b (suc n) = (decoder_level b n +ℤ pos (sent j p (suc n))) -ℤ pos (taken (suc n))

  -- its peak, just before the unit leaves: B(n - 1) + C(n), for which the verifier of source document 002 (section 3.3) writes B_f
  unfoldable pub decoder_peak : ℕ → ℕ → ℤ
  decoder_peak b zero = pos b
  decoder_peak b (suc n) = decoder_level b n +ℤ pos (sent j p (suc n))

  -- (17) as Example 1 has it, of a bucket k from the level l: L(n) is the larger of L(n - 1) + C(n) - drain and 0, which subtraction of natural numbers is
  unfoldable pub bucket_level : Bucket → ℕ → ℕ → ℕ
  bucket_level k l zero = l
  bucket_level k l (suc n) = (bucket_level k l n + sent j p (suc n)) - k.drain

  -- of each bucket, from the level in its place
  unfoldable pub bucket_levels : List Bucket → List ℕ → ℕ → List ℕ
  bucket_levels ks ls n = zip_with (λ k l. bucket_level k l n) ks ls

  -- what the n-th interval leaves unused of the bucket's drain: the larger of drain - L(n - 1) - C(n) and 0
  unfoldable pub unused_drain : Bucket → ℕ → ℕ → ℕ
  unused_drain k l zero = 0
  unused_drain k l (suc n) = (k.drain - bucket_level k l n) - sent j p (suc n)

  -- what the first n intervals leave unused, of each bucket
  unfoldable pub unused_totals : List Bucket → List ℕ → ℕ → List ℕ
  unused_totals ks ls n = zip_with (λ k l. sum (unused_drain k l) n) ks ls

module _ (j : Job) (p : List Entry) where
  -- C(i + 1) + ... + C(i + n)
  unfoldable pub sent_after : ℕ → ℕ → ℕ
  sent_after i n = sum (λ k. sent j p (i + k)) n

  -- (6), of a whole job's plan: what the d intervals after interval i send
  unfoldable pub effective_buffer : ℕ → ℕ
  effective_buffer i = sent_after i j.delay

  -- what the first i units take, unit after unit
  unfoldable pub units_taken : ℕ → ℕ
  units_taken i = sum (λ k. taken j 0 p (j.delay + k)) i

-- (6) for i from 0 to N (document 01, the effective buffer report)
unfoldable pub effective_buffers : Job → List Entry → List ℕ
effective_buffers j p = build (suc (length j.units)) (effective_buffer j p)
