-- A contract of three lists, and what the functions of this crate say and ask.
use Rattle.std.specs.Prelude.{ℕ, ◌≤◌, ◌≡◌, true, List, map, length}
use Rattle.model.specs.Job as model
use Rattle.format.specs.Limits.{each_kept}
use Rattle.format.specs.JobBytes as format
use Rattle.format.specs.JobBytes.{Policed, bucket_of, rate_limits}
use Rattle.line.specs.declared.Line.{Line}
use Rattle.line.specs.Answers.{line_is, LineFits}
use Rattle.changing.specs.NewContract.{Contract, policed_under, contract_limits}
use Rattle.contract.specs.declared.Contract as code

abbrev pub contract : List ℕ → List ℕ → List ℕ → Contract
contract rates sizes drains = record { rates = rates; sizes = sizes; drains = drains }

abbrev pub contract_is : code.Contract → Contract
contract_is c = contract c.rates.now c.sizes.now c.drains.now

abbrev pub empty_bucket : ℕ → ℕ → Policed
empty_bucket size drain = record { size = size; drain = drain; fill = 0 }

-- a contract that 3 and 4 do not refuse, for a header whose decoder is within its range
pub record Offered (h : format.Header) (c : Contract) : Type 0 where
  pub decoder : h.decoder ≤ 255
  pub limits : each_kept (contract_limits (length h.buckets) c) ≡ true
  pub rising : each_kept (rate_limits 0 c.rates) ≡ true

-- the line with the decoder of a header under a contract
pub record LineUnder (h : format.Header) (c : Contract) (l : Line) : Type 0 where
  pub is : ◌≡◌ {A = model.Line} (line_is l) (record { decoder = h.decoder; buckets = map bucket_of (policed_under c); rates = c.rates })
  pub fits : LineFits l
