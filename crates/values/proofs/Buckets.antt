-- How many buckets the line of a job has, from what reading the job answered: a job that opens has one or two, and bytes that do not open stand for one.
use Prim.Native.Nat.{ℕ, ◌≤◌}
use mathlib.Core.Path.{◌≡◌, refl, sym, ◌∙◌}
use mathlib.Core.List.{List}
use native.Mathlib.Omega.{arith}
use lib.ListN.{length}
use Rattle.std.specs.Prelude.{Some, None}
use Rattle.header.specs.declared.Bucket.{Bucket}
use Rattle.model.specs.Job.{Job}
use Rattle.format.specs.Parser as P
use Rattle.format.specs.JobBytes.{job_of, archive, parse, job_or_none, job_in}
use Rattle.format.proofs.Places.{well_read}
use Rattle.format.proofs.Bounds.{limited}
use Rattle.format.proofs.Opened.{opens_by, held_job}
use Rattle.header.specs.declared.Header as code
use Rattle.header.specs.Answers.{plain}
use Rattle.job.proofs.Answers.{Held}
use Rattle.replay.proofs.Levels.{bucket_count}
use Rattle.values.specs.Lists.{buckets_in}

module _ (b : List ℕ) where
  pub none_read : (n : ℕ) → parse archive b ≡ P.refused n → 1 ≡ buckets_in b
  unfolding job_in job_or_none job_of
  none_read n e = rw e

  module _ (h : code.Header) (k : ℕ) (held : Held (parse archive b) (plain h) k) where
    told : buckets_in b ≡ length (plain h).buckets
    told = bucket_count b (plain h) (opens_by archive b (plain h) held.job k held.is held.header_is)

    pub two_read : (k : Bucket) → h.second ≡ Some k → 2 ≡ buckets_in b
    unfolding plain
    two_read k e = sym (told ∙ rw e)

    pub one_read : h.second ≡ None → 1 ≡ buckets_in b
    unfolding plain
    one_read e = sym (told ∙ rw e)

  pub few_buckets : (1 ≤ buckets_in b) × (buckets_in b ≤ 2)
  few_buckets = go (parse archive b) refl
    where
      go : (q : P.Result Job) → parse archive b ≡ q → (1 ≤ buckets_in b) × (buckets_in b ≤ 2)
      go (P.refused n) e = (omega (arith, none_read n e), omega (arith, none_read n e))
      go (P.took j k) e = let w = limited_buckets j k e in (omega (arith, w), omega (arith, w))
        where
          limited_buckets : (j : Job) (k : ℕ) → parse archive b ≡ P.took j k → (1 ≤ buckets_in b) × (buckets_in b ≤ 2)
          limited_buckets j k e = rw (held_job archive b j k e) (let l = limited j (well_read archive b j k e).well_formed in (l.buckets.0, l.buckets.1))
