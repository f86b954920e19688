-- What is claimed of sets of pins: each claim is a type, which a theorem of proofs/ inhabits.
use Rattle.std.specs.Prelude.{ℕ, ◌-◌, ◌<◌, ◌≤◌, ◌≡◌, ◌↔◌, true, List, [], ◌∷◌, map, length, get_or}
use Rattle.std.proofs.Math.Option.{Option, none, some}
use Rattle.base.specs.Answer.{gives}
use Rattle.base.specs.Refusals.{Condition, condition}
use Rattle.model.specs.Job.{Job, job_coding}
use Rattle.model.specs.Pins.{PinMap, Call, pin, lift, Click, plain, sees, no_pins, note, note_click, pins_after, answers, clicks_after, click_answers, pin_totals}
use Rattle.model.specs.Table.{words}
use Rattle.format.specs.Parser.{took, Looks}
use Rattle.format.specs.JobBytes.{header_in, Door, opening, archive, parse}
use Rattle.format.specs.Claims.{Drains}
use Rattle.pinning.specs.PinSet.{PinSet, lines, fresh}
use Rattle.pinning.specs.Check.{Matches, fits, checked}
use Rattle.pinning.specs.Calls.{open_call, refuse, take_in, called, call, run, run_clicks, CallsMade}

-- a set after calls from the one that opening answers, with the book beside it, which gave these answers and has these lines
pub record HistoryClaim (b : List ℕ) (j : Job) (n : ℕ) (answers : List (Option ℕ)) (m : PinMap) (r : CallsMade) : Type 0 where
  -- the answers are the book's, one by one
  pub answered : r.answers ≡ answers
  -- the pins are exactly the book's lines
  pub pins : lines (length j.units) r.set.pins ≡ m
  pub past : (i : ℕ) → length j.units ≤ i → i < 512 → get_or r.set.pins i 0 ≡ 65535
  -- the totals are the number of the lines with a choice and the sums of their sizes and distortions in the job
  pub totals : r.set.totals ≡ pin_totals j m
  -- the set passes the check against the job, so that no call after these is refused by 6
  pub passes : checked opening b r.set ≡ took j n

-- what a pin or a lift asks of a job that opens, in order: the set, then its own
abbrev pub CallAsks : Job → PinSet → Call → List Condition
CallAsks j s (pin u x) = condition 7 ((1 ≤ u) × (u ≤ length j.units)) ∷ condition 8 (x < j.choices) ∷ condition 9 (get_or s.pins (u - 1) 0 ≡ 65535) ∷ []
CallAsks j s (lift u) = condition 7 ((1 ≤ u) × (u ≤ length j.units)) ∷ condition 10 (get_or s.pins (u - 1) 0 ≡ 65535 → ⊥) ∷ []

abbrev pub Asks : Job → PinSet → Call → List Condition
Asks j s k = condition 6 (Matches j s) ∷ CallAsks j s k

-- The claims.

-- the part of demand 3 that speaks of pins and lifts, of jobs that opening takes: one claim about every list of clicks, calls by themselves and calls that see
abbrev pub History : Type 0
History = (b : List ℕ) (j : Job) (n : ℕ) → parse opening b ≡ took j n → (clicks : List Click) → HistoryClaim b j n (click_answers (words j) j.choices (no_pins (length j.units)) clicks) (clicks_after (words j) j.choices (no_pins (length j.units)) clicks) (run_clicks b (open_call opening b).set clicks)

-- of calls by themselves the clicks are document 01's: the calls, and the book, which does not know of tables
pub record PlainClicks (calls : List Call) : Type 0 where
  pub made : (b : List ℕ) (s : PinSet) → run_clicks b s (map plain calls) ≡ run b s calls
  pub answered : (words choices : ℕ) (m : PinMap) → click_answers words choices m (map plain calls) ≡ answers choices m calls
  pub noted : (words choices : ℕ) (m : PinMap) → clicks_after words choices m (map plain calls) ≡ pins_after choices m calls

abbrev pub Plain : Type 0
Plain = (calls : List Call) → PlainClicks calls

-- so of every list of pins and lifts
abbrev pub CallHistory : Type 0
CallHistory = (b : List ℕ) (j : Job) (n : ℕ) → parse opening b ≡ took j n → (calls : List Call) → HistoryClaim b j n (answers j.choices (no_pins (length j.units)) calls) (pins_after j.choices (no_pins (length j.units)) calls) (run b (open_call opening b).set calls)

-- a call that sees, lent so many words: what the book answers by itself, and 11 exactly where that is nothing and the words are too few; then no line changes, and else those change that the book changes
pub record SeesClaim (words choices : ℕ) (m : PinMap) (k : Call) (n : ℕ) : Type 0 where
  pub refused_first : (x : ℕ) → (note choices m k).refused ≡ some x → (note_click words choices m (sees k n)).refused ≡ some x
  pub then_11 : (note choices m k).refused ≡ none → ((note_click words choices m (sees k n)).refused ≡ some 11) ↔ (n < words)
  pub short_keeps : n < words → (note_click words choices m (sees k n)).map ≡ m
  pub else_noted : words ≤ n → note_click words choices m (sees k n) ≡ note choices m k

abbrev pub Sees : Type 0
Sees = (words choices : ℕ) (m : PinMap) (k : Call) (n : ℕ) → SeesClaim words choices m k n

-- no trace: two sets that came of clicks which leave the same lines are one set, whatever was pinned and lifted on the way
abbrev pub NoTrace : Type 0
NoTrace = (b : List ℕ) (j : Job) (n : ℕ) → parse opening b ≡ took j n → (clicks others : List Click) → clicks_after (words j) j.choices (no_pins (length j.units)) clicks ≡ clicks_after (words j) j.choices (no_pins (length j.units)) others → (run_clicks b (open_call opening b).set clicks).set ≡ (run_clicks b (open_call opening b).set others).set

-- and of any sets, wherever they came from: two that match one job and have the same pins are one set
abbrev pub OneSet : Type 0
OneSet = (d : Door) (b : List ℕ) (j : Job) (n : ℕ) → parse d b ≡ took j n → (s r : PinSet) → Matches j s → Matches j r → length s.pins ≡ 512 → length r.pins ≡ 512 → lines (length j.units) s.pins ≡ lines (length j.units) r.pins → s ≡ r

-- the test of refusal 6 is what the document says
abbrev pub Checks : Type 0
Checks = (j : Job) (s : PinSet) → length j.units ≤ 512 → (fits (job_coding j) (header_in j) s ≡ true) ↔ Matches j s

-- demand 1, of a pin or a lift: the job, 1 to 5 and 17, then what it asks; where nothing refuses it, it is taken
abbrev pub Refusals : Type 0
Refusals = (b : List ℕ) (s : PinSet) (k : Call) → Looks (call b s k) (refuse s) (parse opening b) (λ j. Asks j s k) (λ j. call b s k ≡ take_in (called j s k))

-- document 02, E8, of a job that the archive takes: the set that it answers has no pin and matches the job, and how many bytes were taken is told; where the job's buckets do not all drain, a pin or a lift with any set is refused by 17, so that any calls leave the set as it was
pub record ArchiveClaim (b : List ℕ) (j : Job) (n : ℕ) : Type 0 where
  pub answers : open_call archive b ≡ record { answer = gives n; set = fresh (header_in j) }
  pub matches : Matches j (open_call archive b).set
  pub no_calls : (Drains opening j → ⊥) → (s : PinSet) (k : Call) → call b s k ≡ refuse s 17
  pub answered : (Drains opening j → ⊥) → (s : PinSet) (calls : List Call) → (run b s calls).answers ≡ map (λ k. some 17) calls
  pub unchanged : (Drains opening j → ⊥) → (s : PinSet) (calls : List Call) → (run b s calls).set ≡ s
  -- a job that opens: the archive answers what opening does
  pub as_opening : Drains opening j → open_call archive b ≡ open_call opening b

abbrev pub Archive : Type 0
Archive = (b : List ℕ) (j : Job) (n : ℕ) → parse archive b ≡ took j n → ArchiveClaim b j n

-- a refused call hands back the set as it came
abbrev pub Refusing : Type 0
Refusing = (b : List ℕ) (s : PinSet) (k : Call) (n : ℕ) → (call b s k).refused ≡ some n → (call b s k).set ≡ s
