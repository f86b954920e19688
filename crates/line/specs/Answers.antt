-- What the structs of this crate mean in the terms of `model`, and what its functions say and ask.
use Rattle.std.specs.Prelude.{ℕ, ◌+◌, ◌*◌, ◌<◌, ◌≤◌, ◌≡◌, List, [], length, get_or, take}
use Rattle.std.proofs.Math.Option.{Option}
use Rattle.std.specs.Prelude.{Some}
use Rattle.std.specs.Option.{option_map, option_to_list}
use Rattle.interval.specs.declared.Policer.{Policer}
use Rattle.sender.specs.declared.Bucket.{Bucket}
use Rattle.model.specs.Job as model
use Rattle.model.specs.Step.{Outcome, outcome_of}
use Rattle.model.specs.Table.{InLayer, layer_words}
use Rattle.format.specs.Choices.{no_choice, choice_of}
use Rattle.interval.specs.declared.Buffers.{Buffers}
use Rattle.interval.specs.declared.Levels.{Levels}
use Rattle.interval.specs.declared.Interval.{Interval}
use Rattle.interval.specs.Answers.{levels_of, line_of}
use Rattle.sender.specs.declared.Line as layer_line
use Rattle.sender.specs.Answers as layer_answers
use Rattle.decoder.specs.Answers.{coding_if}
use Rattle.model.specs.Neutral.{fronted}
use Rattle.line.specs.declared.Line.{Line}
use Rattle.line.specs.declared.Candidate.{Candidate}

-- the line of the model: the first of the array are its rates
unfoldable pub line_is : Line → model.Line
line_is l = line_of l.buffers (take l.count l.rates)

-- the coding of a candidate, where it is open
unfoldable pub candidate_is : Candidate → Option model.Coding
candidate_is x = coding_if x.free x.size x.distortion

-- the size of the second bucket, where there is one
unfoldable pub second_sizes : Buffers → List ℕ
second_sizes k = option_to_list (option_map (λ b. b.size) k.second)

-- What the functions say and ask.

-- the limits of buffers, and of a line with its array of rates
pub record BuffersFit (k : Buffers) : Type 0 where
  pub decoder : k.decoder ≤ 255
  pub bucket : k.first.size ≤ 255
  pub drain : k.first.drain ≤ 4095
  pub second : (b : Policer) → k.second ≡ Some b → (b.size ≤ 63) × (b.drain ≤ 4095)

pub record LineFits (l : Line) : Type 0 where
  pub buffers : BuffersFit l.buffers
  pub rates : l.count ≤ 16
  pub rate : (y : ℕ) → y < l.count → get_or l.rates y 0 ≤ 4095
  pub size : length l.rates ≡ 16

-- a layer that is whole, and levels in it
pub record WordAsked (table : List ℕ) (l : Line) (place : ℕ) (s : model.Levels) : Type 0 where
  pub line : LineFits l
  pub few : place ≤ 577
  pub room : place * layer_words (line_is l) + layer_words (line_is l) ≤ length table
  pub inside : InLayer (line_is l) s

-- the line as layers are filled: the same, or with a bucket in front that drains every rate
pub data FilledAs (line : model.Line) (as_filled : model.Line) : Type 0 where
  itself : as_filled ≡ line → FilledAs line as_filled
  behind_one : as_filled ≡ fronted 4095 line → FilledAs line as_filled

pub record LayerLine (l : Line) (r : layer_line.Line) : Type 0 where
  pub is : FilledAs (line_is l) (layer_answers.line_is r)
  pub fits : layer_answers.LineFits r

-- a bucket as layers are filled over it
pub record BucketOf (k : Policer) (r : Bucket) : Type 0 where
  pub size : r.size ≡ k.size
  pub drain : r.drain ≡ k.drain

-- what an interval does that sends so much and decodes a coding of this size and distortion
pub record IntervalOf (sent size distortion : ℕ) (x : Interval) : Type 0 where
  pub sent_is : x.sent ≡ sent
  pub size_is : x.size ≡ size
  pub distortion_is : x.distortion ≡ distortion
  pub no_pin : x.pin ≡ no_choice
  pub no_unit : x.choice ≡ no_choice

-- where an interval leads
unfoldable pub step_of : Buffers → Levels → Interval → Outcome
step_of k at x = outcome_of (line_of k []) (choice_of x.pin) (choice_of x.choice) at.decoder (levels_of at).buckets x.sent x.size
