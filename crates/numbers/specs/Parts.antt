-- The parts of a set's numbers, as the functions read and write them.
use Rattle.std.specs.Prelude.{ℕ, ◌<◌, ◌≤◌, ◌≡◌, true, List, [], ◌∷◌, get_or, Option}
use Rattle.header.specs.declared.Bucket.{Bucket}
use Rattle.header.specs.Answers.{further}
use Rattle.format.specs.JobBytes.{Policed, Header, further_buckets, header_values, header_kind}
use Rattle.pinning.specs.Numbers.{twelve, set_shaped}

-- the kind of a header and its fields
unfoldable pub header_numbers : Header → List ℕ
header_numbers h = header_kind (further_buckets h) ∷ twelve (header_values h)

-- a bucket whose three fields stand in these places
unfoldable pub bucket_at_lem : List ℕ → ℕ → ℕ → ℕ → Policed
bucket_at_lem l size drain fill = record { size = get_or l size 0; drain = get_or l drain 0; fill = get_or l fill 0 }

-- the second bucket, where the kind tells of one
pub record SecondIn (l : List ℕ) (r : Option Bucket) : Type 0 where
  pub two : get_or l 0 0 ≡ 8 → further r ≡ bucket_at_lem l 10 11 12 ∷ []
  pub one : (get_or l 0 0 ≡ 8 → ⊥) → further r ≡ []

-- the place of a field or a pin, in a list that is shaped as a set's numbers
pub record FieldIn (l : List ℕ) (place : ℕ) : Type 0 where
  pub is_shaped : set_shaped l ≡ true
  pub behind_kind : 1 ≤ place
  pub before_totals : place < 525
