-- The prices of a list stand for the choices of an interval, of a line without a bucket in front and of one with a neutral bucket there: `layer_stands`.
use Prim.Native.Nat.{ℕ, ◌<◌, ◌≤◌}
use mathlib.Core.Path.{◌≡◌, ◌∙◌}
use mathlib.Core.Option.{some}
use mathlib.Core.List.{List}
use native.Mathlib.Omega.{arith}
use lib.ListN.{length, get_or}
use Rattle.model.specs.Job as model
use Rattle.model.specs.Table.{bound}
use Rattle.model.specs.Neutral.{fronted}
use Rattle.planning.specs.Rule.{Allowed, layer_from}
use Rattle.planning.specs.Prices.{price_at, least_price}
use Rattle.planning.proofs.Neutral.{layer_same}
use Rattle.planning.proofs.Prices as few
use Rattle.decoder.specs.declared.Measure.{Measure}
use Rattle.decoder.specs.declared.Measure.TheVariants as measure
use Rattle.decoder.specs.Answers.{combine, priced}
use Rattle.block.specs.Blocks.{LeastOf}

-- both aims grow with a distortion
pub combine_mono : (x : Measure) (a b c : ℕ) → a ≤ b → combine x a c ≤ combine x b c
unfolding combine
combine_mono measure.Sum a b c h = omega arith
combine_mono measure.Greatest a b c h = omega arith

pub prices_stand : (x : Measure) (line : model.Line) (n : ℕ) (allowed : Allowed) (prices next : List ℕ) → line.decoder ≤ 255 → LeastOf 256 n (λ r x. price_at r (allowed x)) prices → ((x : ℕ) (k : model.Coding) → x < n → allowed x ≡ some k → k.distortion ≤ bound) → layer_from (combine x) line 256 (priced prices) next ≡ layer_from (combine x) line n allowed next
unfolding priced least_price
prices_stand x line n allowed prices next top stands small = few.prices_stand (combine x) (combine_mono x) line n allowed 256 (λ r. get_or prices r 0) next (omega arith) stands.each small

-- a line without the neutral bucket, and the choices of an interval
pub layer_stands : (x : Measure) (drain : ℕ) (line : model.Line) (n : ℕ) (allowed : Allowed) (prices next : List ℕ) → ((y : ℕ) → y < length line.rates → get_or line.rates y 0 ≤ drain) → line.decoder ≤ 255 → LeastOf 256 n (λ r x. price_at r (allowed x)) prices → ((x : ℕ) (k : model.Coding) → x < n → allowed x ≡ some k → k.distortion ≤ bound) → layer_from (combine x) (fronted drain line) 256 (priced prices) next ≡ layer_from (combine x) line n allowed next
layer_stands x drain line n allowed prices next h top stands small =
    layer_same drain line h (combine x) 256 (priced prices) next
    ∙ prices_stand x line n allowed prices next top stands small
