-- `playlist::plan_all` meets its contract: each programme has its turn, up to the first that is refused.
use Prim.Native.Nat.{◌≤◌}
use mathlib.Core.Path.{◌≡◌}
use lib.ListN.{length}
use Rattle.playlist.proofs.Running.{Running}
use Rattle.playlist.proofs.plan_all.Given as goal

abbrev pub invariant-loop-at : goal.invariant-loop-at
invariant-loop-at l = (l.at ≤ l.count) × (length l.table ≡ length l.initial.table) × Running l.bytes l.numbers l.initial.table l.initial.entries l.initial.totals l.at l.standing l.table l.entries l.totals
