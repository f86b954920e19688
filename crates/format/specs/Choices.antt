-- A choice as a number: a mark stands for none, which is no pin in a set of pins and no unit in a plan (document 01, "Pins" and "Levels, interval by interval").
use Rattle.std.specs.Prelude.{ℕ, eqb, if◌then◌else◌}
use Rattle.std.proofs.Math.Option.{Option, none, some}

-- the mark, and how many bytes a choice takes in a plan
abbrev pub no_choice : ℕ
no_choice = 65535

abbrev pub choice_width : ℕ
choice_width = 2

-- the choice that a number stands for, under a mark
unfoldable pub choice_under : ℕ → ℕ → Option ℕ
choice_under mark x = if eqb x mark then none else some x

abbrev pub choice_of : ℕ → Option ℕ
choice_of = choice_under no_choice

unfoldable pub choice_number : Option ℕ → ℕ
choice_number none = no_choice
choice_number (some x) = x
