-- The best plan: the trellis of a job with its pins, for the theory of the crate `trellis` (document 01, "The best plan"; document 02, E7).
use Rattle.std.specs.Prelude.{ℕ, suc, ◌+◌, ◌-◌, ◌<◌, max, ◌≡◌, ◌⊎◌, List, map, leb, length, if◌then◌else◌}
use Rattle.std.proofs.Math.Option.{Option, none, some}
use Rattle.trellis.specs.Trellis.{Trellis, least, best}
use Rattle.trellis.specs.Limit.{limited}
use Rattle.trellis.specs.Pairs.{Pair, rows}
use Rattle.model.specs.Job.{Levels, Job, Entry, distorts, intervals}
use Rattle.model.specs.Pins.{PinMap}
use Rattle.model.specs.Step.{Outcome, violates, reaches, outcome}

-- which of two plans of equal distortion is preferred at their first difference. `late` is document 01's: the smaller rate index, so that grains go out late; `early` takes the larger (document 02, E10)
pub data Order : Type 0 where
  late : Order
  early : Order

abbrev pub RateBefore : Order → ℕ → ℕ → Type 0
RateBefore late a b = a < b
RateBefore early a b = b < a

pub data ChoiceBefore : Option ℕ → Option ℕ → Type 0 where
  smaller : {x y : ℕ} → x < y → ChoiceBefore (some x) (some y)

-- a's rate index wins, or the rates are one and a's choice index is the smaller
abbrev pub Before : Order → Entry → Entry → Type 0
Before o a b = RateBefore o a.rate b.rate ⊎ ((a.rate ≡ b.rate) × ChoiceBefore a.choice b.choice)

-- of n rate indices, the one in place i of the order
unfoldable pub turn : Order → ℕ → ℕ → ℕ
turn late n i = i
turn early n i = n - suc i

-- the pairs of a rate index and a choice index, in the order
unfoldable pub pairs : Order → ℕ → ℕ → List Pair
pairs o rates choices = rows (turn o rates) rates choices

-- the entry of a pair in interval t
unfoldable pub entry : Job → ℕ → Pair → Entry
entry j t a = record { rate = a.outer; choice = if leb t j.delay then none else some a.inner }

-- how many choices interval t has: one, of no unit, up to the delay
unfoldable pub width : Job → ℕ → ℕ
width j t = if leb t j.delay then 1 else j.choices

-- the entries in range of interval t, in the order
unfoldable pub entries : Order → Job → ℕ → List Entry
entries o j t = map (entry j t) (pairs o (length j.line.rates) (width j t))

unfoldable pub reached : Outcome → Option Levels
reached (violates v) = none
reached (reaches s) = some s

-- states are levels, moves are entries, a step is an interval without a violation, costs are distortions
unfoldable pub all_walks : Job → PinMap → Order → Trellis Levels Entry
all_walks j m o = record {
  moves = entries o j;
  step = λ t s e. reached (outcome j m t s e);
  cost = λ t e. distorts j t e;
}

-- which choices are open to a search: those that hold the pins and, where there is a limit, have a distortion of at most that (document 02, E7)
pub record Open : Type 0 where
  pub pins : PinMap
  pub limit : Option ℕ

abbrev pub unlimited : PinMap → Open
unlimited m = record { pins = m; limit = none }

unfoldable pub trellis_of : Job → Open → Order → Trellis Levels Entry
trellis_of j k o = limited k.limit (all_walks j k.pins o)

-- of the plans for the intervals after s, from the levels there
-- the least that their distortions come to, combined in a way, or none
unfoldable pub least_by : (ℕ → ℕ → ℕ) → Job → Open → ℕ → Levels → Option ℕ
least_by ◌⊕◌ j k s start = least (trellis_of j k late) ◌⊕◌ (intervals j - s) s start

-- the least total distortion
abbrev pub least_total : Job → Open → ℕ → Levels → Option ℕ
least_total j k s start = least_by ◌+◌ j k s start

-- the least greatest distortion that holds the pins
abbrev pub least_greatest : Job → PinMap → ℕ → Levels → Option ℕ
least_greatest j m s start = least_by max j (unlimited m) s start

-- the plan with the least total distortion that is first in the order
unfoldable pub best_plan : Job → Open → ℕ → Levels → Order → List Entry
best_plan j k s start o = best (trellis_of j k o) ◌+◌ (intervals j - s) s start

-- what is to be least (document 02, E7): the total distortion; or, for even pictures, the greatest distortion of a unit, and of the plans in which that is least the total
pub data Aim : Type 0 where
  total : Aim
  even : Aim

-- the choices that an aim leaves open to the search for the least total: for even pictures none above the least greatest distortion. Where no plan holds the pins there is no such distortion, and nothing is left out
unfoldable pub open_for : Aim → Job → PinMap → ℕ → Levels → Open
open_for total j m s start = unlimited m
open_for even j m s start = record { pins = m; limit = least_greatest j m s start }
