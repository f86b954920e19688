-- What is told of a plan, and what that asks.
use Rattle.std.specs.Prelude.{ℕ, ◌≤◌, ◌≡◌, List, length, Result, Ok}
use Rattle.base.specs.Lent.{put}
use Rattle.interval.specs.declared.Totals.{Totals}
use Rattle.header.specs.declared.refusal.Refusal.{Refusal}
use Rattle.header.specs.Refusals.{code}
use Rattle.planner.specs.Answers.{answered}
use Rattle.values.specs.Lists.{totals_list, totals_values}
use Rattle.exporting.specs.Exports.{number_of}

-- there is room for the totals of a plan that was found
abbrev pub Room : Result Totals Refusal → ℕ → Type 0
Room x n = (t : Totals) → x ≡ Ok t → length (totals_values t) ≤ n

-- the number that is answered, and the values
pub record Told (x : Result Totals Refusal) (old : List ℕ) (r : Result (Unit {0}) Refusal) (new : List ℕ) : Type 0 where
  pub number : code r ≡ number_of (answered x)
  pub values : new ≡ put (answered x) totals_list old
