-- `calls::calls_verdict` meets its contract.
use Rattle.calls.proofs.Calling.{KindsFit}
use Prim.Native.Nat.{◌≤◌}
use Rattle.calls.proofs.calls_verdict.Given as goal

abbrev pub invariant-loop-place : goal.invariant-loop-place
invariant-loop-place l = (l.place ≤ l.count) × KindsFit l.calls l.place
