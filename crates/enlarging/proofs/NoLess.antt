-- Lines with more room, bucket by bucket: the form in which the laws go through the list.
use Prim.Native.Nat.{ℕ, suc, ◌≤◌, ◌<◌}
use mathlib.Core.Path.{◌≡◌}
use mathlib.Core.List.{List, [], ◌∷◌}
use native.Mathlib.Omega.{arith}
use lib.ListN.{length}
use Rattle.model.specs.Job.{Bucket, Line, bucket_at}
use Rattle.enlarging.specs.Larger.{Larger}

pub data NoLess : List Bucket → List Bucket → Type 0 where
  no_bucket : NoLess [] []
  next_bucket : {k k' : Bucket} {ks ks' : List Bucket} → k.size ≤ k'.size → k.drain ≤ k'.drain → NoLess ks ks' → NoLess (k ∷ ks) (k' ∷ ks')

by_place : (ks ks' : List Bucket) → length ks' ≡ length ks → ((i : ℕ) → i < length ks → (bucket_at ks i).size ≤ (bucket_at ks' i).size) → ((i : ℕ) → i < length ks → (bucket_at ks i).drain ≤ (bucket_at ks' i).drain) → NoLess ks ks'
by_place [] [] e size drain = no_bucket
by_place [] (k' ∷ ks') e size drain = absurd (omega arith)
by_place (k ∷ ks) [] e size drain = absurd (omega arith)
by_place (k ∷ ks) (k' ∷ ks') e size drain = next_bucket (size 0 (omega arith)) (drain 0 (omega arith)) (by_place ks ks' (omega arith) (λ i h. size (suc i) (omega arith)) (λ i h. drain (suc i) (omega arith)))

pub no_less : {a b : Line} → Larger a b → NoLess a.buckets b.buckets
no_less {a = a} {b = b} l = by_place a.buckets b.buckets l.count l.size l.drain
