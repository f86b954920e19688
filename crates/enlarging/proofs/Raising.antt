-- What it is to change one size or one drain; that raising one gives a line with more room; and that the job over such a line opens exactly where it is within the header's ranges: `Changed`, `SizedJobs`, `RaisedLarger`, `Raising`, `LargerOpens`.
use Prim.Native.Nat.{ℕ, zero, suc, ◌≤◌, ◌<◌}
use mathlib.Core.Path.{◌≡◌, refl, sym, ap, ◌∙◌}
use mathlib.Core.Bool.{Bool, true, false}
use mathlib.Core.List.{List, [], ◌∷◌, ◌++◌}
use native.Mathlib.Omega.{arith}
use native.Mathlib.Nat.{le_refl}
use lib.Dec.{eqb}
use lib.ListN.{length, set, length-set}
use borrow.Author.Tests.{eqb-true, eqb-false}
use Rattle.model.specs.Job.{Bucket, Line, bucket_at, Job, on_line, job_coding}
use Rattle.model.proofs.Lines.{over_line}
use Rattle.format.specs.JobBytes.{opening, encode}
use Rattle.format.specs.Claims.{InLimits, Drains}
use Rattle.format.proofs.Bounds.{limited, within, drains_told, told_drains}
use Rattle.format.proofs.Places.{well_read}
use Rattle.format.proofs.RoundTrip.{parse_encode}
use Rattle.enlarging.specs.Larger.{Larger, with_decoder, with_bucket, with_size, with_drain}
use Rattle.enlarging.specs.Claims.{AlikeBut, Changed, SizedJobs, decoder_raised, size_raised, drain_raised, RaisedLarger, Ranged, Raising, LargerOpens}
use Rattle.enlarging.proofs.Larger.{larger_law}

-- a bucket that is put in a place stands there, and no other is touched
put_there : (ks : List Bucket) (i : ℕ) (k : Bucket) → i < length ks → bucket_at (set ks i k) i ≡ k
put_there [] i k h = absurd (omega arith)
put_there (a ∷ ks) zero k h = refl
put_there (a ∷ ks) (suc i) k h = put_there ks i k (omega arith)

put_elsewhere : (ks : List Bucket) (i n : ℕ) (k : Bucket) → (n ≡ i → ⊥) → bucket_at (set ks i k) n ≡ bucket_at ks n
put_elsewhere [] i n k f = refl
put_elsewhere (a ∷ ks) zero zero k f = absurd (f refl)
put_elsewhere (a ∷ ks) zero (suc n) k f = refl
put_elsewhere (a ∷ ks) (suc i) zero k f = refl
put_elsewhere (a ∷ ks) (suc i) (suc n) k f = put_elsewhere ks i n k (λ e. f (ap suc e))

pub alike : (line : Line) (i : ℕ) (k : Bucket) → AlikeBut i line (with_bucket line i k)
unfolding with_bucket
alike line i k = record { decoder = refl; rates = refl; count = length-set line.buckets i k; others = λ n f. put_elsewhere line.buckets i n k f }

pub changed : Changed
unfolding with_decoder with_size with_drain with_bucket
changed line = record {
  decoder = λ size. (refl, refl, refl);
  size = λ i size h. let b = put_there line.buckets i (record { size = size; drain = (bucket_at line.buckets i).drain }) h in (alike line i _, ap (λ (k : Bucket). k.size) b, ap (λ (k : Bucket). k.drain) b);
  drain = λ i drain h. let b = put_there line.buckets i (record { size = (bucket_at line.buckets i).size; drain = drain }) h in (alike line i _, ap (λ (k : Bucket). k.drain) b, ap (λ (k : Bucket). k.size) b);
}

-- a bucket in place of one that has no more
bucket_raised : (line : Line) (i : ℕ) (k : Bucket) → i < length line.buckets → (bucket_at line.buckets i).size ≤ k.size → (bucket_at line.buckets i).drain ≤ k.drain → Larger line (with_bucket line i k)
unfolding with_bucket
bucket_raised line i k l h g = record {
  rates = refl;
  count = length-set line.buckets i k;
  decoder = le_refl line.decoder;
  size = λ n b. (here_or_not n (eqb n i) refl).0;
  drain = λ n b. (here_or_not n (eqb n i) refl).1;
}
  where
    here_or_not : (n : ℕ) (t : Bool) → eqb n i ≡ t → ((bucket_at line.buckets n).size ≤ (bucket_at (set line.buckets i k) n).size) × ((bucket_at line.buckets n).drain ≤ (bucket_at (set line.buckets i k) n).drain)
    here_or_not n true e = rw (eqb-true n i e, put_there line.buckets i k l) (h, g)
    here_or_not n false e = rw (put_elsewhere line.buckets i n k (eqb-false n i e)) (le_refl (bucket_at line.buckets n).size, le_refl (bucket_at line.buckets n).drain)

pub raised_larger : RaisedLarger
unfolding with_decoder with_size with_drain
raised_larger line b (decoder_raised h) = record { rates = refl; count = refl; decoder = h; size = λ i b. le_refl _; drain = λ i b. le_refl _ }
raised_larger line b (size_raised {i = i} {size = size} l h) = bucket_raised line i (record { size = size; drain = (bucket_at line.buckets i).drain }) l h (le_refl _)
raised_larger line b (drain_raised {i = i} {drain = drain} l h) = bucket_raised line i (record { size = (bucket_at line.buckets i).size; drain = drain }) l (le_refl _) h

pub raising : Raising
raising j line r = larger_law j line (raised_larger j.line line r)

-- within the header's ranges the job stays within the limits
module _ (j : Job) (line : Line) (larger : Larger j.line line) where
  stays : InLimits j → Ranged line → InLimits (on_line j line)
  unfolding on_line job_coding
  stays l r = record {
    units = l.units;
    delay = l.delay;
    decoder = r.decoder;
    level = omega (arith, l.level, larger.decoder);
    buckets = (omega (arith, l.buckets.0, larger.count), omega (arith, l.buckets.1, larger.count), l.buckets.2 ∙ sym larger.count);
    first_size = r.first_size;
    second_size = r.second_size;
    drains = r.drains;
    fills = λ i b. omega (arith, l.fills i (rw larger.count at b), larger.size i (rw larger.count at b));
    rates = rw larger.rates l.rates;
    choices = l.choices;
    rate = rw larger.rates l.rate;
    rise = rw larger.rates l.rise;
    codings = l.codings;
    sizes = l.sizes;
    distortions = l.distortions;
  }

  ranged_in : InLimits (on_line j line) → Ranged line
  unfolding on_line
  ranged_in l = record { decoder = l.decoder; first_size = l.first_size; second_size = l.second_size; drains = l.drains }

  still_drains : Drains opening j → Drains opening (on_line j line)
  unfolding on_line
  still_drains d i b = omega (arith, d i (rw larger.count at b), larger.drain i (rw larger.count at b))

pub larger_opens : LargerOpens
larger_opens b j n parsed line larger rest =
    let f = well_read opening b j n parsed in (
      λ ranged. let l = stays j line larger (limited j f.well_formed) ranged in parse_encode opening (on_line j line) (record { well_formed = within (on_line j line) l; drains = told_drains opening (on_line j line) l (still_drains j line larger (drains_told opening j f)) }) rest,
      λ e. ranged_in j line larger (limited (on_line j line) (well_read opening (encode (on_line j line) ++ rest) (on_line j line) _ e).well_formed),
    )

pub sized_claim : SizedJobs
unfolding on_line
sized_claim j size some_bucket =
    let c = (changed j.line).size 0 size some_bucket in
    record { others = c.0; size = c.1; drain = c.2; over = over_line j (with_size j.line 0 size) }
