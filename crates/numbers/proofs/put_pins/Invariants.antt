-- `numbers::put_pins` meets its contract: the pins before the place are copied, whichever turn the loop is at.
use Prim.Native.Nat.{◌≤◌}
use Rattle.numbers.proofs.Copies.{Copied}
use Rattle.numbers.proofs.put_pins.Given as goal

abbrev pub invariant-loop-place : goal.invariant-loop-place
invariant-loop-place l = (l.place ≤ 512) × Copied l.initial.list 13 l.pins l.place l.list
