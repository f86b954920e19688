-- The job under a new contract, bucket by bucket: `Unders`.
use Prim.Native.Nat.{ℕ, zero, suc, ◌<◌}
use mathlib.Core.Path.{◌≡◌, refl, ap, ◌∙◌}
use mathlib.Core.List.{List, [], ◌∷◌, map, zip_with}
use native.Mathlib.Omega.{arith}
use lib.ListN.{length, get_or}
use Rattle.model.specs.Job.{Bucket, bucket_at, on_line}
use Rattle.format.specs.JobBytes.{bucket_of}
use Rattle.changing.specs.NewContract.{policed_under, line_under}
use Rattle.changing.specs.Claims.{Unders}

-- sizes and drains in turn
abbrev buckets : List ℕ → List ℕ → List Bucket
buckets ss ds = map bucket_of (zip_with (λ s d. record { size = s; drain = d; fill = 0 }) ss ds)

how_many : (ss ds : List ℕ) (n : ℕ) → length ss ≡ n → length ds ≡ n → length (buckets ss ds) ≡ n
unfolding zip_with
how_many [] ds n e f = e
how_many (s ∷ ss) [] n e f = absurd (omega arith)
how_many (s ∷ ss) (d ∷ ds) n e f = ap suc (how_many ss ds (length ss) refl (omega arith)) ∙ e

each : (ss ds : List ℕ) (n : ℕ) → length ss ≡ n → length ds ≡ n → (i : ℕ) → i < n → bucket_at (buckets ss ds) i ≡ record { size = get_or ss i 0; drain = get_or ds i 0 }
unfolding zip_with bucket_of
each [] ds n e f i h = absurd (omega arith)
each (s ∷ ss) [] n e f i h = absurd (omega arith)
each (s ∷ ss) (d ∷ ds) n e f zero h = refl
each (s ∷ ss) (d ∷ ds) n e f (suc i) h = each ss ds (length ss) refl (omega arith) i (omega arith)

pub unders : Unders
unfolding on_line line_under policed_under
unders j c o = record {
  rates = refl;
  count = how_many c.sizes c.drains (length j.line.buckets) o.sizes o.drains;
  size = λ i h. ap (λ (k : Bucket). k.size) (each c.sizes c.drains (length j.line.buckets) o.sizes o.drains i h);
  drain = λ i h. ap (λ (k : Bucket). k.drain) (each c.sizes c.drains (length j.line.buckets) o.sizes o.drains i h);
  decoder = refl;
  delay = refl;
  choices = refl;
  units = refl;
  start = refl;
}
