-- `numbers::pins_in` meets its contract: the pins before the place are read, whichever turn the loop is at.
use Prim.Native.Nat.{◌≤◌}
use lib.ListN.{drop}
use Rattle.numbers.proofs.Copies.{Begun}
use Rattle.numbers.proofs.pins_in.Given as goal

abbrev pub invariant-loop-place : goal.invariant-loop-place
invariant-loop-place l = (l.place ≤ 512) × Begun (drop 13 l.list) 512 l.place l.pin-items
