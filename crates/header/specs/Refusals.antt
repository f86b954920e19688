-- The refusals by their numbers in documents 01 and 02.
use Rattle.std.specs.Prelude.{ℕ, ◌≡◌, List, decimal, Result, Ok, Err}
use Rattle.header.specs.declared.refusal.Refusal.{Refusal}
use Rattle.header.specs.declared.refusal.Refusal.TheVariants as r

abbrev pub number : Refusal → ℕ
number r.Cut = 1
number r.NotDue = 2
number r.Header = 3
number r.Rates = 4
number r.Codings = 5
number r.Set = 6
number r.Unit = 7
number r.Choice = 8
number r.Pinned = 9
number r.NotPinned = 10
number r.Table = 11
number r.List = 12
number r.NoPlan = 13
number r.Plan = 14
number r.Input = 15
number r.Lengths = 16
number r.NeverDrains = 17
number r.Interval = 18
number r.Violation = 19
number r.Levels = 20
number r.Playlist = 21
number r.Programme = 22

-- a number is the refusal's
abbrev pub Numbered : Refusal → ℕ → Type 0
Numbered r n = n ≡ number r

-- what a call answers as one number: 0, or the refusal's
abbrev pub code : {A : Type 0} → Result A Refusal → ℕ
code (Ok a) = 0
code (Err r) = number r

-- what is printed of a refusal: its number's digits
abbrev pub printed : Refusal → List ℕ
printed r = decimal (number r)
