-- `former::put_entries` meets its contract.
use Rattle.former.proofs.Turning.{Written}
use Rattle.former.proofs.put_entries.Given as goal

abbrev pub invariant-loop-place : goal.invariant-loop-place
invariant-loop-place l = Written l.old l.total l.initial.entries l.place l.entries
