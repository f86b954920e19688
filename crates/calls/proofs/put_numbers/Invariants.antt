-- `calls::put_numbers` meets its contract.
use Rattle.calls.proofs.Making.{Going}
use Rattle.pinset.specs.Answers.{set_of}
use Prim.Native.Nat.{◌≤◌}
use Rattle.calls.proofs.put_numbers.Given as goal

abbrev pub invariant-loop-place : goal.invariant-loop-place
invariant-loop-place l = (l.place ≤ l.count) × Going l.job l.calls l.initial.answers (set_of l.initial.set) l.place (set_of l.set) l.answers
