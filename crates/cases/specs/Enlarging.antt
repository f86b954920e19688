-- Cases of larger buckets (document 02, E13), worked out by hand: Job A with a decoder of size 8 and first buckets from size 0 on. Plans of three intervals that send 2 2 2, 2 2 4 and 2 4 4 leave at most 0, 2 and 4 in a bucket that drains 2; they carry 6, 8 and 10 grains, enough for choices 0 and 1, 1 and 0, and 0 and 0.
use Rattle.std.specs.Prelude.{ℕ, ◌≡◌, List, [], ◌∷◌, map}
use Rattle.std.proofs.Math.Option.{none, some}
use Rattle.model.specs.Job.{Bucket, Job}
use Rattle.model.specs.Pins.{PinMap}
use Rattle.format.specs.JobA.{job_a}
use Rattle.enlarging.specs.Calls.{least_at}

-- Job A over a line with a decoder of this size, these buckets, all empty at the start, and these rates
unfoldable pub offered : ℕ → List Bucket → List ℕ → Job
offered size buckets rates = record {
  delay = job_a.delay;
  line = record { decoder = size; buckets = buckets; rates = rates };
  start = record { decoder = 0; buckets = map (λ k. 0) buckets };
  choices = job_a.choices;
  units = job_a.units;
}

abbrev pub bucket : ℕ → Bucket
bucket size = record { size = size; drain = 2 }

abbrev pub free : PinMap
free = none ∷ none ∷ []

-- the totals of some sizes
unfoldable pub totals_at : Job → PinMap → List ℕ → List ℕ
totals_at j m sizes = map (least_at j m) sizes

pub record SizeCases : Type 0 where
  -- one bucket
  pub one : totals_at (offered 8 (bucket 0 ∷ []) (0 ∷ 2 ∷ 4 ∷ [])) free (0 ∷ 1 ∷ 2 ∷ 3 ∷ 4 ∷ 5 ∷ []) ≡ 50 ∷ 50 ∷ 42 ∷ 42 ∷ 22 ∷ 22 ∷ []
  -- unit 1 pinned at 1
  pub pinned : totals_at (offered 8 (bucket 0 ∷ []) (0 ∷ 2 ∷ 4 ∷ [])) (some 1 ∷ none ∷ []) (0 ∷ 1 ∷ 2 ∷ 3 ∷ 4 ∷ []) ≡ 70 ∷ 70 ∷ 42 ∷ 42 ∷ 42 ∷ []
  -- a second bucket of size 2 goes on to allow no more than 2 2 4
  pub two : totals_at (offered 8 (bucket 0 ∷ bucket 2 ∷ []) (0 ∷ 2 ∷ 4 ∷ [])) free (0 ∷ 1 ∷ 2 ∷ 3 ∷ 4 ∷ 5 ∷ []) ≡ 50 ∷ 50 ∷ 42 ∷ 42 ∷ 42 ∷ 42 ∷ []
  -- and one that is larger than the first does not stand for it
  pub second : totals_at (offered 8 (bucket 4 ∷ bucket 0 ∷ []) (0 ∷ 2 ∷ 4 ∷ [])) free (4 ∷ 5 ∷ []) ≡ 50 ∷ 50 ∷ []
  -- 4 4 4, the only plan, leaves 6 and needs a decoder that holds 8 in its second interval and 8 in its third
  pub late_plan : totals_at (offered 8 (bucket 0 ∷ []) (4 ∷ [])) free (4 ∷ 5 ∷ 6 ∷ 7 ∷ []) ≡ 4294967295 ∷ 4294967295 ∷ 22 ∷ 22 ∷ []
  -- no size helps where the decoder is short of room
  pub no_plan : totals_at (offered 3 (bucket 0 ∷ []) (4 ∷ [])) free (0 ∷ 6 ∷ 255 ∷ []) ≡ 4294967295 ∷ 4294967295 ∷ 4294967295 ∷ []
