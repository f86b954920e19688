-- Replaying a plan: interval by interval, up to the first violation (document 01, "Levels, interval by interval").
use Rattle.std.specs.Prelude.{ℕ, suc, ◌+◌, length}
use mathlib.Core.List.{List, [], ◌∷◌, zip_with}
use Rattle.model.specs.Job.{Levels, Job, Entry}
use Rattle.model.specs.Levels.{sent, taken, distorted, unused_totals}
use Rattle.base.specs.Lists.{sum, greatest}
use Rattle.model.specs.Pins.{PinMap}
use Rattle.model.specs.Admissible.{Violation}
use Rattle.model.specs.Step.{Outcome, violates, reaches, outcome}

-- total distortion, source (the sum of R), channel (the sum of C), and of each bucket the drain that went unused (document 02, E3)
pub record Totals : Type 0 where
  pub distortion : ℕ
  pub source : ℕ
  pub channel : ℕ
  pub unused : List ℕ

-- the total distortion of a plan for the intervals after s
unfoldable pub total_distortion : Job → ℕ → List Entry → ℕ
total_distortion j s p = sum (distorted j s p) (length p)

-- the greatest distortion of a unit in it (document 02, E7); an interval without a unit has 0
unfoldable pub greatest_distortion : Job → ℕ → List Entry → ℕ
greatest_distortion j s p = greatest (distorted j s p) (length p)

-- its totals, from the levels `start` after interval s
unfoldable pub totals : Job → ℕ → Levels → List Entry → Totals
totals j s start p = record {
  distortion = total_distortion j s p;
  source = sum (taken j s p) (length p);
  channel = sum (sent j p) (length p);
  unused = unused_totals j s p j.line.buckets start.buckets (length p);
}

-- the totals of one plan behind another
unfoldable pub plus_each : List ℕ → List ℕ → List ℕ
plus_each = zip_with ◌+◌

unfoldable pub plus : Totals → Totals → Totals
plus a b = record {
  distortion = a.distortion + b.distortion;
  source = a.source + b.source;
  channel = a.channel + b.channel;
  unused = plus_each a.unused b.unused;
}

pub data Result : Type 0 where
  clean : Result
  -- the interval, counted from 1, and what it violates
  stopped : ℕ → Violation → Result

pub record Replay : Type 0 where
  pub levels : List Levels
  pub result : Result

unfoldable pub written : Levels → Replay → Replay
written s r = record { levels = s ∷ r.levels; result = r.result }

unfoldable pub go_on : ℕ → Outcome → (Levels → Replay) → Replay
go_on t (violates v) k = record { levels = []; result = stopped t v }
go_on t (reaches s) k = written s (k s)

-- the entries of the intervals after t, from the levels s
unfoldable pub replay : Job → PinMap → ℕ → Levels → List Entry → Replay
replay j m t s [] = record { levels = []; result = clean }
replay j m t s (e ∷ p) = go_on (suc t) (outcome j m (suc t) s e) (λ s'. replay j m (suc t) s' p)

-- the levels after the last interval, from those before the first
unfoldable pub last_levels : Levels → List Levels → Levels
last_levels s [] = s
last_levels s (l ∷ ls) = last_levels l ls
