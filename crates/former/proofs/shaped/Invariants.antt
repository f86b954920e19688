-- `former::shaped` meets its contract.
use Prim.Native.Nat.{◌≤◌}
use mathlib.Core.Bool.{true}
use mathlib.Core.Path.{◌≡◌}
use Rattle.header.specs.Answers.{plain}
use Rattle.replaying.specs.Entries.{entries_fit}
use Rattle.replaying.specs.Former.{former_mark, former_rate, former_choice}
use Rattle.former.proofs.shaped.Given as goal

abbrev pub invariant-loop-place : goal.invariant-loop-place
invariant-loop-place l = (l.place ≤ l.total) × (entries_fit former_mark (plain l.header) (former_rate l.old) (former_choice l.old) l.place ≡ true)
