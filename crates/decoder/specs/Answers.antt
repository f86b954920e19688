-- How a measure and prices read in the terms of `model`.
use Rattle.std.specs.Prelude.{ℕ, ◌+◌, max, Bool, List, get_or, replicate, if◌then◌else◌}
use Rattle.std.proofs.Math.Option.{Option, none, some}
use Rattle.model.specs.Job as model
use Rattle.model.specs.Table.{mark}
use Rattle.planning.specs.Rule.{Allowed}
use Rattle.planning.specs.Prices.{price_open}
use Rattle.decoder.specs.declared.Measure.{Measure}
use Rattle.decoder.specs.declared.Measure.TheVariants as measure

-- how a distortion and what follows it combine
unfoldable pub combine : Measure → ℕ → ℕ → ℕ
combine measure.Sum = ◌+◌
combine measure.Greatest = max

-- a coding, where its choice is open
unfoldable pub coding_if : Bool → ℕ → ℕ → Option model.Coding
coding_if free size distortion = if free then some (record { size = size; distortion = distortion }) else none

-- the codings that prices stand for, one for each size
unfoldable pub priced : List ℕ → Allowed
priced prices r = price_open r (get_or prices r 0)

-- no size has a price
unfoldable pub no_prices : List ℕ
no_prices = replicate 256 mark
