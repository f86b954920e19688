-- Of the choices of one size only the least distortion counts for a word, and a size above the decoder's never fits: however many choices an interval has, D + 1 prices stand for them all (document 02, E6).
use Rattle.std.specs.Prelude.{ℕ, ltb, eqb, if◌then◌else◌}
use Rattle.std.proofs.Math.Option.{Option, none, some}
use Rattle.model.specs.Job.{Coding}
use Rattle.model.specs.Table.{mark, bound}
use Rattle.planning.specs.Rule.{Allowed}
use Rattle.planning.specs.Passes.{least_below}

-- what a coding costs as a price of the size r: its distortion where it has that size
unfoldable pub price_at : ℕ → Option Coding → ℕ
price_at r none = mark
price_at r (some k) = if eqb k.size r then k.distortion else mark

-- the coding of a size at a price: none where the price is no distortion
unfoldable pub price_open : ℕ → ℕ → Option Coding
price_open size price = if ltb bound price then none else some (record { size = size; distortion = price })

-- the least distortion of size r among n choices
unfoldable pub least_price : ℕ → Allowed → ℕ → ℕ
least_price n allowed r = least_below n (λ x. price_at r (allowed x))

-- one coding for each size, in place of n choices
unfoldable pub priced_by : ℕ → Allowed → Allowed
priced_by n allowed r = price_open r (least_price n allowed r)
