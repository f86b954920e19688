-- `sender::swap_rows` meets its contract.
use Prim.Native.Nat.{◌≤◌}
use mathlib.Core.Path.{◌≡◌}
use lib.ListN.{length}
use Rattle.sender.specs.Swaps.{LevelsSwapped}
use Rattle.sender.proofs.swap_rows.Given as goal

abbrev pub invariant-loop-level : goal.invariant-loop-level
invariant-loop-level l = (l.level ≤ l.height) × (length l.kept ≡ 4096) × (length l.part ≡ length l.initial.part) × LevelsSwapped l.level l.levels l.width l.initial.part l.part
