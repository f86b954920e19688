-- What is claimed of a set as numbers: each claim is a type, which a theorem of proofs/ inhabits.
use Rattle.std.specs.Prelude.{ℕ, ◌+◌, ◌-◌, ◌<◌, ◌≤◌, ◌≡◌, List, [], ◌∷◌, ◌++◌, length, get_or, take}
use Rattle.model.specs.Job.{Job}
use Rattle.format.specs.JobBytes.{Policed, Door, parse}
use Rattle.format.specs.Parser.{refused, took}
use Rattle.pinning.specs.PinSet.{PinSet}
use Rattle.pinning.specs.Check.{Matches, checked}
use Rattle.pinning.specs.Numbers.{set_numbers, set_in}

-- where each number stands, of a set of 512 pins over one bucket or two: the kind of the header, then the fields in the order of its record
pub record SetLayout (s : PinSet) : Type 0 where
  pub size : length (set_numbers s) ≡ 528
  pub units : get_or (set_numbers s) 1 0 ≡ s.header.units
  pub delay : get_or (set_numbers s) 2 0 ≡ s.header.delay
  pub decoder : get_or (set_numbers s) 3 0 ≡ s.header.decoder
  pub level : get_or (set_numbers s) 6 0 ≡ s.header.level
  pub rates : get_or (set_numbers s) 8 0 ≡ s.header.rates
  pub choices : get_or (set_numbers s) 9 0 ≡ s.header.choices
  pub pins : (u : ℕ) → 1 ≤ u → u ≤ 512 → get_or (set_numbers s) (12 + u) 0 ≡ get_or s.pins (u - 1) 0
  pub count : get_or (set_numbers s) 525 0 ≡ s.totals.count
  pub grains : get_or (set_numbers s) 526 0 ≡ s.totals.size
  pub distortion : get_or (set_numbers s) 527 0 ≡ s.totals.distortion

-- the bucket, and the second one where there are two
pub record OneLayout (s : PinSet) (k : Policed) : Type 0 where
  pub kind : get_or (set_numbers s) 0 0 ≡ 1
  pub first : (get_or (set_numbers s) 4 0 ≡ k.size) × (get_or (set_numbers s) 5 0 ≡ k.drain) × (get_or (set_numbers s) 7 0 ≡ k.fill)
  pub second : (get_or (set_numbers s) 10 0 ≡ 0) × (get_or (set_numbers s) 11 0 ≡ 0) × (get_or (set_numbers s) 12 0 ≡ 0)

pub record TwoLayout (s : PinSet) (k k2 : Policed) : Type 0 where
  pub kind : get_or (set_numbers s) 0 0 ≡ 8
  pub first : (get_or (set_numbers s) 4 0 ≡ k.size) × (get_or (set_numbers s) 5 0 ≡ k.drain) × (get_or (set_numbers s) 7 0 ≡ k.fill)
  pub second : (get_or (set_numbers s) 10 0 ≡ k2.size) × (get_or (set_numbers s) 11 0 ≡ k2.drain) × (get_or (set_numbers s) 12 0 ≡ k2.fill)

-- The claims.

abbrev pub Layouts : Type 0
Layouts = (s : PinSet) → length s.pins ≡ 512 → 1 ≤ length s.header.buckets → length s.header.buckets ≤ 2 → SetLayout s

abbrev pub OneLayouts : Type 0
OneLayouts = (s : PinSet) (k : Policed) → length s.pins ≡ 512 → s.header.buckets ≡ k ∷ [] → OneLayout s k

abbrev pub TwoLayouts : Type 0
TwoLayouts = (s : PinSet) (k k2 : Policed) → length s.pins ≡ 512 → s.header.buckets ≡ k ∷ k2 ∷ [] → TwoLayout s k k2

-- the numbers of a set that a job takes are read back as that set, whatever stands behind them
abbrev pub SetReadsBack : Type 0
SetReadsBack = (d : Door) (b : List ℕ) (j : Job) (n : ℕ) → parse d b ≡ took j n → (s : PinSet) → Matches j s → length s.pins ≡ 512 → (rest : List ℕ) → set_in (set_numbers s ++ rest) ≡ s

-- and no other numbers are taken: a list that a job takes begins with the numbers of a set that matches it; every other is 6
pub record SetTaken (d : Door) (b : List ℕ) (j : Job) (n : ℕ) (l : List ℕ) : Type 0 where
  pub taken : checked d b (set_in l) ≡ took j n → Matches j (set_in l) × (take 528 l ≡ set_numbers (set_in l)) × (528 ≤ length l)
  pub else_six : (Matches j (set_in l) → ⊥) → checked d b (set_in l) ≡ refused 6
  pub short : length l < 528 → checked d b (set_in l) ≡ refused 6

abbrev pub SetsTaken : Type 0
SetsTaken = (d : Door) (b : List ℕ) (j : Job) (n : ℕ) → parse d b ≡ took j n → (l : List ℕ) → SetTaken d b j n l
