-- Lines with more room, and a line with one size or one drain changed (document 02, E13).
use Rattle.std.specs.Prelude.{ℕ, ◌≤◌, ◌<◌, ◌≡◌, length, set}
use Rattle.model.specs.Job.{Bucket, Line, bucket_at}

-- a line that is no tighter: the rates and the number of buckets are the same; the decoder's size, each bucket's size and each drain are at least the other's
pub record Larger (a b : Line) : Type 0 where
  pub rates : b.rates ≡ a.rates
  pub count : length b.buckets ≡ length a.buckets
  pub decoder : a.decoder ≤ b.decoder
  pub size : (i : ℕ) → i < length a.buckets → (bucket_at a.buckets i).size ≤ (bucket_at b.buckets i).size
  pub drain : (i : ℕ) → i < length a.buckets → (bucket_at a.buckets i).drain ≤ (bucket_at b.buckets i).drain

-- another decoder size, all else equal
unfoldable pub with_decoder : Line → ℕ → Line
with_decoder line size = record { decoder = size; buckets = line.buckets; rates = line.rates }

-- another bucket in the i-th place, all else equal
unfoldable pub with_bucket : Line → ℕ → Bucket → Line
with_bucket line i k = record { decoder = line.decoder; buckets = set line.buckets i k; rates = line.rates }

-- of which the size alone is another, or the drain
unfoldable pub with_size : Line → ℕ → ℕ → Line
with_size line i size = with_bucket line i (record { size = size; drain = (bucket_at line.buckets i).drain })

unfoldable pub with_drain : Line → ℕ → ℕ → Line
with_drain line i drain = with_bucket line i (record { size = (bucket_at line.buckets i).size; drain = drain })
