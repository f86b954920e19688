-- Two plans that agree in their first entries have the same levels up to there.
use Prim.Native.Nat.{ℕ, zero, suc, ◌+◌, ◌≤◌}
use mathlib.Core.Path.{◌≡◌, refl, ap, ap₂}
use mathlib.Core.List.{List, [], ◌∷◌, zip_with}
use native.Mathlib.Omega.{arith}
use lib.ListN.{length, get_or, take}
use lib.Seq.{get_or-take}
use Rattle.model.specs.Job.{Bucket, Levels, no_levels, Job, Entry, sends, takes}
use Rattle.model.specs.Levels.{no_entry, entry_of, sent, taken, decoder_level, decoder_peak, bucket_level, bucket_levels}
use Rattle.model.specs.Pins.{PinMap}
use Rattle.model.specs.Admissible.{ending}
use Rattle.model.specs.Replay.{last_levels}

zip_cong : (f g : Bucket → ℕ → ℕ) → ((k : Bucket) (l : ℕ) → f k l ≡ g k l) → (ks : List Bucket) (ls : List ℕ) → zip_with f ks ls ≡ zip_with g ks ls
unfolding zip_with
zip_cong f g e [] ls = refl
zip_cong f g e (k ∷ ks) [] = refl
zip_cong f g e (k ∷ ks) (l ∷ ls) = ap₂ ◌∷◌ (e k l) (zip_cong f g e ks ls)

module _ (j : Job) (m : PinMap) (start : Levels) (s : ℕ) (p q : List Entry) (same : (n : ℕ) → n ≤ s → entry_of p n ≡ entry_of q n) where
  sent_same : (n : ℕ) → n ≤ s → sent j p n ≡ sent j q n
  unfolding sent
  sent_same n h = ap (sends j) (same n h)

  taken_same : (n : ℕ) → n ≤ s → taken j 0 p n ≡ taken j 0 q n
  unfolding taken
  taken_same n h = ap (takes j (0 + n)) (same n h)

  decoder_same : (b n : ℕ) → n ≤ s → decoder_level j 0 p b n ≡ decoder_level j 0 q b n
  unfolding decoder_level
  decoder_same b zero h = refl
  decoder_same b (suc n) h = rw (decoder_same b n (omega arith), sent_same (suc n) h, taken_same (suc n) h)

  peak_same : (b n : ℕ) → n ≤ s → decoder_peak j 0 p b n ≡ decoder_peak j 0 q b n
  unfolding decoder_peak
  peak_same b zero h = refl
  peak_same b (suc n) h = rw (decoder_same b n (omega arith), sent_same (suc n) h)

  bucket_same : (k : Bucket) (l n : ℕ) → n ≤ s → bucket_level j 0 p k l n ≡ bucket_level j 0 q k l n
  unfolding bucket_level
  bucket_same k l zero h = refl
  bucket_same k l (suc n) h = rw (bucket_same k l n (omega arith), sent_same (suc n) h)

  buckets_same : (ks : List Bucket) (ls : List ℕ) (n : ℕ) → n ≤ s → bucket_levels j 0 p ks ls n ≡ bucket_levels j 0 q ks ls n
  unfolding bucket_levels
  buckets_same ks ls n h = zip_cong _ _ (λ k l. bucket_same k l n h) ks ls

  pub ending_same : (n : ℕ) → n ≤ s → ending j m 0 start p n ≡ ending j m 0 start q n
  unfolding ending
  ending_same n h = rw (peak_same start.decoder n h, decoder_same start.decoder n h, buckets_same j.line.buckets start.buckets n h, same n h)

-- the first entries of a plan are such
pub take_same : (s : ℕ) (p : List Entry) (n : ℕ) → n ≤ s → entry_of (take s p) n ≡ entry_of p n
unfolding entry_of
take_same s p zero h = refl
take_same s p (suc n) h = get_or-take s p n no_entry (omega arith)

-- the levels after the last of n + 1 intervals
pub last_is : (start : Levels) (ls : List Levels) (n : ℕ) → length ls ≡ suc n → last_levels start ls ≡ get_or ls n no_levels
unfolding last_levels
last_is start [] n e = absurd (omega arith)
last_is start (l ∷ []) zero e = refl
last_is start (l ∷ k ∷ ls) zero e = absurd (omega arith)
last_is start (l ∷ []) (suc n) e = absurd (omega arith)
last_is start (l ∷ k ∷ ls) (suc n) e = last_is l (k ∷ ls) n (omega arith)
