-- `records::put_numbers` meets its contract: what is left to write decides, whichever turn the loop is at.
use Rattle.records.proofs.Setting.{numbers_left}
use Prim.Native.Nat.{◌+◌, ◌*◌, ◌≤◌}
use mathlib.Core.Path.{◌≡◌}
use lib.ListN.{length}
use Rattle.records.proofs.put_numbers.Given as goal

abbrev pub invariant-loop-number : goal.invariant-loop-number
invariant-loop-number l = (l.number-index ≤ length l.numbers) × (l.place ≡ l.at + 2 * l.number-index) × (length l.out ≡ length l.initial.out) × (numbers_left l.numbers l.out l.place l.number-index ≡ numbers_left l.numbers l.initial.out l.at 0)
