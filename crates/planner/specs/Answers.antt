-- What the answers of this crate mean in the terms of `model` and `planning`, case by case, and what its private functions say and ask.
use Rattle.std.specs.Prelude.{ℕ, ◌+◌, ◌-◌, ◌*◌, ◌≤◌, max, ◌≡◌, List, ◌∷◌, length}
use Rattle.std.specs.Prelude.{Option, Result}
use Rattle.std.specs.Option.{option_to_list}
use Rattle.base.specs.Answer.{Answer}
use Rattle.interval.specs.declared.Totals.{Totals}
use Rattle.header.specs.declared.refusal.Refusal.{Refusal}
use Rattle.header.specs.Answers.{answer_by}
use Rattle.model.specs.Job as model
use Rattle.model.specs.Pins.{PinMap}
use Rattle.model.specs.Replay as model_replay
use Rattle.model.specs.Best as model_best
use Rattle.model.specs.Best.{unlimited, total, even, open_for}
use Rattle.model.specs.Table.{InLayer, words}
use Rattle.format.specs.JobBytes as format
use Rattle.interval.specs.Answers.{totals_of}
use Rattle.replaying.specs.Entries.{entry_size}
use Rattle.planning.specs.Words.{table_from}
use Rattle.planning.specs.Calls as calls
use Rattle.planner.specs.declared.BucketLevels.{BucketLevels}
use Rattle.planner.specs.declared.Aim.{Aim}
use Rattle.planner.specs.declared.Aim.TheVariants as aim
use Rattle.line.specs.declared.Line.{Line}
use Rattle.line.specs.Answers.{line_is}
use Rattle.table.specs.Answers.{job_on, open_of, Starts}

-- the answer of planning, and the lists that were lent
abbrev pub answered : Result Totals Refusal → Answer model_replay.Totals
answered = answer_by totals_of

unfoldable pub planned : Result Totals Refusal → List ℕ → List ℕ → calls.Planned
planned x table entries = record { answer = answered x; table = table; entries = entries }

unfoldable pub aim_is : Aim → model_best.Aim
aim_is aim.Total = total
aim_is aim.Even = even

-- the levels of the buckets
unfoldable pub levels_of_buckets : BucketLevels → List ℕ
levels_of_buckets l = l.bucket ∷ option_to_list l.bucket2

-- What the private functions say and ask.

-- a first place and its levels
pub record PlansFrom (b : List ℕ) (h : format.Header) (l : Line) (pins : List ℕ) (first : ℕ) (s : model.Levels) : Type 0 where
  pub starts : Starts b h l pins
  pub few : first ≤ h.units + h.delay
  pub inside : InLayer (line_is l) s

-- and a table that is long enough
pub record Limits (b : List ℕ) (h : format.Header) (l : Line) (pins : List ℕ) (first : ℕ) (s : model.Levels) (table : List ℕ) : Type 0 where
  pub from : PlansFrom b h l pins first s
  pub room : words (job_on b l) ≤ length table

-- and a list that is long enough for the entries
pub record Searches (b : List ℕ) (h : format.Header) (l : Line) (pins : List ℕ) (first : ℕ) (s : model.Levels) (table entries : List ℕ) : Type 0 where
  pub limits : Limits b h l pins first s table
  pub space : entry_size * (h.units + h.delay - first) ≤ length entries

-- the table when the limit is known: for even pictures it was filled by the greatest
unfoldable pub table_for : model_best.Aim → model.Job → PinMap → ℕ → List ℕ → List ℕ
table_for total j m first table = table
table_for even j m first table = table_from max j (unlimited m) first table

-- the limit of a search by an aim
pub record LimitFor (a : model_best.Aim) (j : model.Job) (m : PinMap) (first : ℕ) (s : model.Levels) (old : List ℕ) (r : Option ℕ) (new : List ℕ) : Type 0 where
  pub is : open_of m r ≡ open_for a j m first s
  pub table_is : new ≡ table_for a j m first old
