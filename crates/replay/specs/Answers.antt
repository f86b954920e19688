-- What the answers of this crate mean in the terms of `replaying`, case by case, and what its private functions are asked.
use Rattle.std.specs.Prelude.{ℕ, suc, ◌+◌, ◌*◌, ◌≤◌, ◌≡◌, List, length, Result}
use Rattle.base.specs.Answer.{Answer}
use Rattle.header.specs.declared.refusal.Refusal.{Refusal}
use Rattle.header.specs.Answers.{answer_by}
use Rattle.base.specs.Lent.{Ended}
use Rattle.format.specs.JobBytes as format
use Rattle.parts.specs.Answers.{violation}
use Rattle.interval.specs.Answers.{totals_of}
use Rattle.replaying.specs.Calls as calls
use Rattle.course.specs.Answers.{Shaped}
use Rattle.replay.specs.declared.Replayed.{Replayed}
use Rattle.replay.specs.declared.Replayed.TheVariants as r

-- what a replay comes to, the answer of the call and the list that was lent
unfoldable pub replayed : Replayed → calls.Replayed
replayed (r.Clean t) = calls.totals_are (totals_of t)
replayed (r.Violated t x) = calls.violated t (violation x)

abbrev pub answered : Result Replayed Refusal → Answer calls.Replayed
answered = answer_by replayed

unfoldable pub ended : Result Replayed Refusal → List ℕ → Ended calls.Replayed
ended x list = record { answer = answered x; list = list }

-- a plan in shape, the pins of a set, and a list that is long enough for its levels
pub record Plays (b : List ℕ) (h : format.Header) (pins entries levels : List ℕ) : Type 0 where
  pub plan : Shaped b h entries
  pub pins_size : length pins ≡ 512
  pub room : suc (length h.buckets) * (h.units + h.delay) ≤ length levels
