-- `change::put_first` meets its contract: so many bytes are copied, whichever turn the loop is at.
use lib.ListN.{length, take, drop}
use mathlib.Core.List.{◌++◌}
use mathlib.Core.Path.{◌≡◌}
use Prim.Native.Nat.{◌≤◌}
use Rattle.change.proofs.put_first.Given as goal

abbrev pub invariant-loop-i : goal.invariant-loop-i
invariant-loop-i l = (l.i ≤ l.count) × (l.entries ≡ take l.i l.old ++ drop l.i l.initial.entries) × (length l.entries ≡ length l.initial.entries)
