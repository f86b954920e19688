-- Where a coding stands in a list that goes unit after unit, and whether lists have room for a job.
use Rattle.std.specs.Prelude.{ℕ, ◌+◌, ◌*◌, ◌-◌, ◌≤◌, ◌<◌, ◌≡◌, Bool, ◌&&◌, leb, length}
use Rattle.format.specs.JobBytes.{Header, header_values}
use Rattle.reader.specs.declared.Place.{Place}

-- which of all codings it is, of so many for each unit
abbrev pub index : ℕ → Place → ℕ
index choices p = (p.unit - 1) * choices + p.choice

-- the second stands behind the first
pub record Follows (choices : ℕ) (p q : Place) : Type 0 where
  pub unit : 1 ≤ q.unit
  pub choice : q.choice < choices
  pub next : index choices q ≡ index choices p + 1

-- whether lists of these lengths have room for the fields of a header, its rates, a size and a distortion for each coding, and two values
unfoldable pub roomy : Header → ℕ → ℕ → ℕ → ℕ → ℕ → Bool
roomy h fields rates sizes distortions values =
    leb (length (header_values h)) fields
    && leb h.rates rates
    && leb (h.units * h.choices) sizes
    && leb (h.units * h.choices) distortions
    && leb 2 values
