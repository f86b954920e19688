-- The order of entries in the terms of `model`, and what the functions of this crate say and ask.
use Rattle.std.specs.Prelude.{ℕ, suc, ◌+◌, ◌-◌, ◌*◌, ◌<◌, ◌≤◌, ◌≡◌, List, ◌∷◌, ltb, length, if◌then◌else◌}
use Rattle.std.proofs.Math.Option.{Option, none, some}
use Rattle.trellis.specs.Pairs.{Pair}
use Rattle.trellis.specs.Table.{first_at}
use Rattle.model.specs.Job as model
use Rattle.model.specs.Step.{reaches, after_sending}
use Rattle.model.specs.Replay as model_replay
use Rattle.model.specs.Best as model_best
use Rattle.model.specs.Best.{late, early, Open, pairs, least_total, best_plan}
use Rattle.model.specs.Table.{InLayer, layer_words, words, layer_of, word_in}
use Rattle.format.specs.Choices.{choice_of}
use Rattle.format.specs.JobBytes as format
use Rattle.pinning.specs.PinSet.{lines}
use Rattle.interval.specs.declared.Buffers.{Buffers}
use Rattle.interval.specs.declared.Totals.{Totals}
use Rattle.interval.specs.declared.Levels.{Levels}
use Rattle.interval.specs.declared.Interval.{Interval}
use Rattle.interval.specs.Answers.{levels_of, totals_of, Does}
use Rattle.replaying.specs.Entries.{entry_size, entry_bytes}
use Rattle.base.specs.Lent.{over}
use Rattle.planning.specs.Rule.{Allowed, pair_offer}
use Rattle.planning.specs.Words.{layer}
use Rattle.line.specs.declared.Line.{Line}
use Rattle.best.specs.declared.Order.{Order}
use Rattle.best.specs.declared.Order.TheVariants as o
use Rattle.table.specs.declared.Choices.{Choices}
use Rattle.std.specs.Prelude as std
use Rattle.best.specs.declared.Move.{Move}
use Rattle.line.specs.Answers.{line_is, LineFits, step_of}
use Rattle.table.specs.Answers.{job_on, open_of, allowed_is, ChoicesFit, Starts}

unfoldable pub order_is : Order → model_best.Order
order_is o.Late = late
order_is o.Early = early

-- What the functions say and ask.

-- a whole next layer, for offers from levels of the line's buckets
pub record Offers (next : List ℕ) (l : Line) (b : List ℕ) (h : format.Header) (c : Choices) (s : model.Levels) : Type 0 where
  pub line : LineFits l
  pub choices : ChoicesFit b h c
  pub whole : length next ≡ layer_words (line_is l)
  pub count : length s.buckets ≡ length (line_is l).buckets

-- some pair attains the word
pub record Attained (o : model_best.Order) (line : model.Line) (n : ℕ) (allowed : Allowed) (next : List ℕ) (s : model.Levels) (word : ℕ) : Type 0 where
  pub pick : Pair
  pub first : first_at (pair_offer ◌+◌ line allowed (word_in line next) s) word (pairs o (length line.rates) n) ≡ some pick

-- the layers on both sides of an interval, and levels whose word an entry attains
pub record Layered (o : model_best.Order) (table : List ℕ) (l : Line) (b : List ℕ) (h : format.Header) (c : Choices) (place : ℕ) (s : model.Levels) : Type 0 where
  pub line : LineFits l
  pub choices : ChoicesFit b h c
  pub few : place < 600
  pub room : (place + 2) * layer_words (line_is l) ≤ length table
  pub inside : InLayer (line_is l) s
  pub attained : Attained o (line_is l) c.count (allowed_is b h c) (layer_of (line_is l) table (suc place)) s (word_in (line_is l) (layer_of (line_is l) table place) s)

-- an interval that leads to levels
pub record Reached (k : Buffers) (at : Levels) (x : Interval) : Type 0 where
  pub end : model.Levels
  pub is : step_of k at x ≡ reaches end

-- the choice of an entry in a place
unfoldable pub chosen : format.Header → ℕ → ℕ → Option ℕ
chosen h place x = if ltb place h.delay then none else some x

-- the table is filled from this layer on
pub record Tabled (j : model.Job) (k : Open) (first : ℕ) (table : List ℕ) : Type 0 where
  pub enough : words j ≤ length table
  pub layers : (t : ℕ) → first ≤ t → t ≤ model.intervals j → layer_of j.line table t ≡ layer ◌+◌ j k t

-- levels in a layer from which the rest can be completed
pub record Standing (j : model.Job) (k : Open) (t : ℕ) (s : model.Levels) : Type 0 where
  pub inside : InLayer j.line s
  pub value : ℕ
  pub least_is : least_total j k t s ≡ some value

-- a place of a plan, its levels, and the table from there on
pub record Moves (b : List ℕ) (h : format.Header) (l : Line) (pins : List ℕ) (limit : std.Option ℕ) (table : List ℕ) (place : ℕ) (s : model.Levels) : Type 0 where
  pub starts : Starts b h l pins
  pub before : place < h.units + h.delay
  pub table_is : Tabled (job_on b l) (open_of (lines h.units pins) limit) place table
  pub stands : Standing (job_on b l) (open_of (lines h.units pins) limit) place s

-- the first entry of the best plan from these levels, with what it does and where it leads
pub record BestMove (j : model.Job) (k : Open) (o : model_best.Order) (place : ℕ) (s : model.Levels) (x : Move) : Type 0 where
  pub entry : model.Entry
  pub rate : entry.rate ≡ x.rate
  pub choice : entry.choice ≡ choice_of x.choice
  pub does : Does j (suc place) entry x.interval
  pub buckets : (levels_of x.to).buckets ≡ after_sending (model.sends j entry) j.line.buckets s.buckets
  pub ends : Standing j k (suc place) (levels_of x.to)
  pub rest : best_plan j k place s o ≡ entry ∷ best_plan j k (suc place) (levels_of x.to) o

-- a first place, its levels, the table from there on, and a list for the entries of the intervals after it
pub record ReadsOff (b : List ℕ) (h : format.Header) (l : Line) (pins : List ℕ) (limit : std.Option ℕ) (table : List ℕ) (first : ℕ) (s : model.Levels) (entries : List ℕ) : Type 0 where
  pub starts : Starts b h l pins
  pub few : first ≤ h.units + h.delay
  pub table_is : Tabled (job_on b l) (open_of (lines h.units pins) limit) first table
  pub stands : Standing (job_on b l) (open_of (lines h.units pins) limit) first s
  pub room : entry_size * (h.units + h.delay - first) ≤ length entries

-- the best plan, written over the first entries, and its totals
pub record PlanRead (j : model.Job) (k : Open) (o : model_best.Order) (first : ℕ) (s : model.Levels) (old : List ℕ) (t : Totals) (new : List ℕ) : Type 0 where
  pub totals_are : totals_of t ≡ model_replay.totals j first s (best_plan j k first s o)
  pub written : new ≡ over (entry_bytes (best_plan j k first s o)) old
