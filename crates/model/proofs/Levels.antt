-- The equations from one interval on: what an interval of a plan ends with is what it ends with in the rest of the plan, from the levels that the first entry leads to.
use Prim.Native.Nat.{ℕ, zero, suc, ◌+◌}
use mathlib.Core.Path.{◌≡◌, refl, sym}
use mathlib.Core.List.{List, [], ◌∷◌, zip_with}
use native.Mathlib.Numerals.{add-one}
use native.Mathlib.Omega.{arith}
use lib.IntN.{pos}
use Rattle.model.specs.Job.{Bucket, Levels, Job, Entry, sends, takes}
use Rattle.model.specs.Pins.{PinMap, pin_at}
use Rattle.model.specs.Levels.{entry_of, sent, taken, decoder_level, decoder_peak, bucket_level, bucket_levels}
use Rattle.model.specs.Admissible.{Shows, ending}
use Rattle.model.specs.Step.{bucket_step, after_sending, outcome}
use Rattle.model.proofs.Outcome.{Judged, outcome_judged}

module _ (j : Job) (s : ℕ) (e : Entry) (p : List Entry) where
  pub taken_rest : (n : ℕ) → taken j s (e ∷ p) (suc (suc n)) ≡ taken j (suc s) p (suc n)
  unfolding taken entry_of
  taken_rest n = let q : s + suc (suc n) ≡ suc s + suc n = omega arith in rw q

  decoder_rest : (b c n : ℕ) → pos c ≡ decoder_level j s (e ∷ p) b 1 → decoder_level j s (e ∷ p) b (suc n) ≡ decoder_level j (suc s) p c n
  unfolding decoder_level sent entry_of
  decoder_rest b c zero h = sym h
  decoder_rest b c (suc n) h = let ih = decoder_rest b c n h in let q = taken_rest n in cc

  pub bucket_rest : (k : Bucket) (l n : ℕ) → bucket_level j s (e ∷ p) k l (suc n) ≡ bucket_level j (suc s) p k (bucket_step k.drain l (sends j e)).level n
  unfolding bucket_level bucket_step sent entry_of
  bucket_rest k l zero = refl
  bucket_rest k l (suc n) = let ih = bucket_rest k l n in cc

  buckets_rest : (ks : List Bucket) (ls : List ℕ) (n : ℕ) → bucket_levels j s (e ∷ p) ks ls (suc n) ≡ bucket_levels j (suc s) p ks (after_sending (sends j e) ks ls) n
  unfolding bucket_levels after_sending zip_with
  buckets_rest [] ls n = refl
  buckets_rest (k ∷ ks) [] n = refl
  buckets_rest (k ∷ ks) (l ∷ ls) n = let q = bucket_rest k l n in let ih = buckets_rest ks ls n in cc

  -- the first entry leads to the levels l
  pub ending_rest : (m : PinMap) (start l : Levels) (n : ℕ) → Shows (ending j m s start (e ∷ p) 1) l → ending j m s start (e ∷ p) (suc (suc n)) ≡ ending j m (suc s) l p (suc n)
  unfolding ending entry_of sent decoder_peak bucket_level bucket_levels after_sending bucket_step
  ending_rest m start l n h =
      let q : s + suc (suc n) ≡ suc s + suc n = omega arith in
      let b : l.buckets ≡ after_sending (sends j e) j.line.buckets start.buckets = h.buckets in
      rw (decoder_rest start.decoder l.decoder n h.decoder, decoder_rest start.decoder l.decoder (suc n) h.decoder, buckets_rest j.line.buckets start.buckets (suc n), q, b)

-- the outcome of a plan's first entry
pub first_judged : (j : Job) (m : PinMap) (s : ℕ) (start : Levels) (e : Entry) (p : List Entry) → Judged j.line (ending j m s start (e ∷ p) 1) (outcome j m (suc s) start e)
unfolding ending outcome decoder_level decoder_peak bucket_levels bucket_level sent taken entry_of after_sending bucket_step
first_judged j m s start e p = rw add-one (outcome_judged j.line (pin_at j m (suc s)) e.choice start.decoder start.buckets (sends j e) (takes j (suc s) e))
