-- A contract that a carrier alters to: rates, and of each bucket a size and a drain (document 02, E12).
use Rattle.std.specs.Prelude.{ℕ, length}
use mathlib.Core.List.{List, ◌∷◌, map, zip_with}
use Rattle.model.specs.Job.{Line, Job, on_line}
use Rattle.format.specs.Limits.{Limit, limit}
use Rattle.format.specs.JobBytes.{Policed, largest_sizes, bucket_limits, bucket_of}

pub record Contract : Type 0 where
  pub rates : List ℕ
  pub sizes : List ℕ
  pub drains : List ℕ

-- its buckets, as a header would tell them of buckets that are empty
unfoldable pub policed_under : Contract → List Policed
policed_under c = zip_with (λ s d. record { size = s; drain = d; fill = 0 }) c.sizes c.drains

-- 3: as many sizes and drains as the job has buckets, each within the header's ranges, and 1 to 16 rates
unfoldable pub contract_limits : ℕ → Contract → List Limit
contract_limits n c =
    limit 3 n n (length c.sizes)
    ∷ limit 3 n n (length c.drains)
    ∷ limit 3 1 16 (length c.rates)
    ∷ bucket_limits largest_sizes (policed_under c)

-- the line of a job under it: the decoder stays
unfoldable pub line_under : Job → Contract → Line
line_under j c = record { decoder = j.line.decoder; buckets = map bucket_of (policed_under c); rates = c.rates }

abbrev pub under : Job → Contract → Job
under j c = on_line j (line_under j c)
