-- What the answers of this crate mean in the terms of `replaying`, case by case, and what its private functions are asked.
use Rattle.std.specs.Prelude.{ℕ, ◌<◌, List, length, Result}
use Rattle.base.specs.Lent.{Ended}
use Rattle.format.specs.JobBytes as format
use Rattle.course.specs.Answers.{Shaped}
use Rattle.header.specs.declared.refusal.Refusal.{Refusal}
use Rattle.header.specs.Answers.{done}

-- the answer of the report and the list that was lent
unfoldable pub reported : Result (Unit {0}) Refusal → List ℕ → Ended (Unit {0})
reported x list = record { answer = done x; list = list }

-- a plan in shape, and a list that is long enough for the sums
pub record Sums (b : List ℕ) (h : format.Header) (entries sums : List ℕ) : Type 0 where
  pub plan : Shaped b h entries
  pub room : h.units < length sums
