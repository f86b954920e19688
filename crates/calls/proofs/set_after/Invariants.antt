-- `calls::set_after` meets its contract.
use Rattle.calls.proofs.Making.{Ran}
use Rattle.pinset.specs.Answers.{set_of}
use mathlib.Core.Option.{Option}
use mathlib.Core.List.{List}
use Prim.Native.Nat.{ℕ, ◌≤◌}
use Rattle.calls.proofs.set_after.Given as goal

abbrev pub invariant-loop-place : goal.invariant-loop-place
invariant-loop-place l = (l.place ≤ l.count) × (done : List (Option ℕ)) × Ran l.job l.calls (set_of l.initial.set) l.place (set_of l.set) done
