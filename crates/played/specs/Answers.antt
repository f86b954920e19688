-- What is told of a replay, and what that asks.
use Rattle.std.specs.Prelude.{ℕ, ◌+◌, ◌≤◌, ◌≡◌, List, length, Result, Ok}
use Rattle.base.specs.Lent.{put}
use Rattle.interval.specs.declared.Totals.{Totals}
use Rattle.replay.specs.declared.Replayed.{Replayed}
use Rattle.replay.specs.declared.Replayed.TheVariants as replays
use Rattle.header.specs.declared.refusal.Refusal.{Refusal}
use Rattle.header.specs.Refusals.{code}
use Rattle.replay.specs.Answers.{answered}
use Rattle.values.specs.Lists.{totals_values, replayed_list}
use Rattle.exporting.specs.Exports.{number_of}

-- one bucket or two, and room for the values of a clean replay or a violated one
pub record Room (x : Result Replayed Refusal) (buckets n : ℕ) : Type 0 where
  pub some_bucket : (1 ≤ buckets) × (buckets ≤ 2)
  pub totals : (t : Totals) → x ≡ Ok (replays.Clean t) → 2 + length (totals_values t) ≤ n
  pub zeros : 5 + buckets ≤ n

-- the number that is answered, and the values
pub record Told (x : Result Replayed Refusal) (buckets : ℕ) (old : List ℕ) (r : Result (Unit {0}) Refusal) (new : List ℕ) : Type 0 where
  pub number : code r ≡ number_of (answered x)
  pub values : new ≡ put (answered x) (replayed_list buckets) old
