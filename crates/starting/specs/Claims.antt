-- What is claimed of planning from given levels of the buckets: each claim is a type, which a theorem of proofs/ inhabits. It is demand 3 with these levels in place of the job's, of which planning is the case of the job's own.
use Rattle.std.specs.Prelude.{ℕ, ◌*◌, ◌≤◌, ◌≡◌, List, [], ◌∷◌, length}
use Rattle.base.specs.Refusals.{Condition, condition, InOrder}
use Rattle.model.specs.Job.{Levels, Job, intervals}
use Rattle.model.specs.Pins.{Click, no_pins, clicks_after}
use Rattle.model.specs.Admissible.{AllWithin}
use Rattle.model.specs.Best.{Order, Aim}
use Rattle.model.specs.Table.{words}
use Rattle.format.specs.Parser.{took, Looks}
use Rattle.format.specs.JobBytes.{parse, opening}
use Rattle.pinning.specs.PinSet.{PinSet, lines}
use Rattle.pinning.specs.Check.{Matches}
use Rattle.pinning.specs.Calls.{open_call, run_clicks}
use Rattle.planning.specs.Calls.{refuse, plan_call}
use Rattle.planning.specs.Claims.{PlanClaim, Keeping}
use Rattle.starting.specs.Calls.{start_with, levels_call}

-- a level for each bucket, within it
pub record LevelsFit (j : Job) (ls : List ℕ) : Type 0 where
  pub count : length ls ≡ length j.line.buckets
  pub within : AllWithin j.line.buckets ls

-- what the call asks of a job that the set matches, in order
abbrev pub Asks : Job → List ℕ → List ℕ → List ℕ → List Condition
Asks j ls table entries =
    condition 20 (LevelsFit j ls)
    ∷ condition 11 (words j ≤ length table)
    ∷ condition 12 (3 * intervals j ≤ length entries)
    ∷ []

-- the starting levels are these of the buckets, and the decoder's own
pub record StartClaim (j : Job) (ls : List ℕ) (start : Levels) : Type 0 where
  pub buckets : start.buckets ≡ ls
  pub decoder : start.decoder ≡ j.start.decoder

-- The claims.

abbrev pub Starts : Type 0
Starts = (j : Job) (ls : List ℕ) → StartClaim j ls (start_with j ls)

-- demands 1 and 3, with any set
abbrev pub LevelsCalls : Type 0
LevelsCalls = (b : List ℕ) (s : PinSet) (ls : List ℕ) (a : Aim) (o : Order) (table entries : List ℕ) → Looks (levels_call b s ls a o table entries) (refuse table entries) (parse opening b) (λ j. condition 6 (Matches j s) ∷ Asks j ls table entries) (λ j. PlanClaim j (lines (length j.units) s.pins) a o 0 (start_with j ls) table entries (levels_call b s ls a o table entries))

-- and after every list of pins and lifts from the set that opening answers, by themselves or such as see, refused ones included: with the pins of the book
abbrev pub LevelsAfter : Type 0
LevelsAfter = (b : List ℕ) (j : Job) (n : ℕ) → parse opening b ≡ took j n → (clicks : List Click) (ls : List ℕ) (a : Aim) (o : Order) (table entries : List ℕ) → let m = clicks_after (words j) j.choices (no_pins (length j.units)) clicks in let r = levels_call b (run_clicks b (open_call opening b).set clicks).set ls a o table entries in InOrder r (refuse table entries) (Asks j ls table entries) (PlanClaim j m a o 0 (start_with j ls) table entries r)

-- planning is the case of the job's own levels
abbrev pub OwnLevels : Type 0
OwnLevels = (b : List ℕ) (j : Job) (n : ℕ) → parse opening b ≡ took j n → (s : PinSet) (a : Aim) (o : Order) (table entries : List ℕ) → plan_call b s a o table entries ≡ levels_call b s j.start.buckets a o table entries

-- a refusal leaves both lists as they came, 13 the table aside
abbrev pub LevelsKeep : Type 0
LevelsKeep = (b : List ℕ) (s : PinSet) (ls : List ℕ) (a : Aim) (o : Order) (table entries : List ℕ) → Keeping table entries (levels_call b s ls a o table entries)
