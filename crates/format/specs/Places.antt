-- Where the fields of a job stand, for readers that look up one of them (document 01, "The job's bytes").
use Rattle.std.specs.Prelude.{ℕ, ◌+◌, ◌*◌, ◌-◌, List, leb, length, take, drop, if◌then◌else◌}
use Rattle.model.specs.Job.{Coding}
use Rattle.format.specs.Fields.{number}
use Rattle.format.specs.JobBytes.{Header, further_buckets}

-- the field of this width at a place, 0 where the bytes end before it does
unfoldable pub field_at : ℕ → List ℕ → ℕ → ℕ
field_at w b at = if leb (at + w) (length b) then number (take w (drop at b)) else 0

-- the records' sizes, each with its head of 4 bytes
abbrev pub header_size : Header → ℕ
header_size h = 22 + 6 * further_buckets h

abbrev pub rates_size : ℕ → ℕ
rates_size p = 4 + 2 * p

abbrev pub unit_size : ℕ → ℕ
unit_size m = 4 + 6 * m

-- a whole job
abbrev pub job_size : Header → ℕ
job_size h = header_size h + rates_size h.rates + h.units * unit_size h.choices

-- a rate, by its index
unfoldable pub rate_place : Header → ℕ → ℕ
rate_place h y = header_size h + 4 + 2 * y

unfoldable pub rate_at : List ℕ → Header → ℕ → ℕ
rate_at b h y = field_at 2 b (rate_place h y)

-- a unit, counted from 1, as a choice codes it
unfoldable pub coding_place : Header → ℕ → ℕ → ℕ
coding_place h u x = header_size h + rates_size h.rates + (u - 1) * unit_size h.choices + 4 + 6 * x

unfoldable pub coding_at : List ℕ → Header → ℕ → ℕ → Coding
coding_at b h u x = record {
  size = field_at 2 b (coding_place h u x);
  distortion = field_at 4 b (coding_place h u x + 2);
}
