-- `entry::shaped` meets its contract.
use Prim.Native.Nat.{◌≤◌, ◌-◌}
use mathlib.Core.Bool.{true}
use mathlib.Core.Path.{◌≡◌}
use Rattle.header.specs.Answers.{plain}
use Rattle.replaying.specs.Entries.{rate_field, choice_field, entries_fit}
use Rattle.format.specs.Choices.{no_choice}
use Rattle.entry.proofs.shaped.Given as goal

abbrev pub invariant-loop-place : goal.invariant-loop-place
invariant-loop-place l = (l.place ≤ l.total) × (entries_fit no_choice (plain l.header) (rate_field l.entries) (choice_field l.entries) l.place ≡ true)
