-- `table::fill_last` meets its contract.
use lib.ListN.{length, drop, replicate}
use mathlib.Core.List.{◌++◌}
use mathlib.Core.Path.{◌≡◌}
use Prim.Native.Nat.{◌≤◌, ◌-◌}
use Rattle.table.proofs.fill_last.Given as goal

abbrev pub invariant-loop-place : goal.invariant-loop-place
invariant-loop-place l = (l.place ≤ l.size) × (length l.part ≡ length l.initial.part) × (l.part ≡ replicate l.place 0 ++ drop l.place l.initial.part)
