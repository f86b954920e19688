-- `sender::swap_row` meets its contract.
use Prim.Native.Nat.{◌+◌, ◌*◌}
use mathlib.Core.Path.{◌≡◌}
use lib.ListN.{length, get_or}
use Rattle.sender.specs.Rates.{BlocksMade}
use Rattle.sender.proofs.swap_row.Given as goal

abbrev pub invariant-loop-level : goal.invariant-loop-level
invariant-loop-level l = (length l.part ≡ length l.initial.part) × BlocksMade l.start l.level l.width l.levels (λ j k. get_or l.initial.part (l.start + (k * l.width + j)) 0) l.initial.part l.part
