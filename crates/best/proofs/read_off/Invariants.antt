-- `best::read_off` meets its contract.
use Rattle.best.proofs.Plans.{ReadTo}
use Rattle.table.specs.Answers.{job_on, open_of}
use Rattle.best.specs.Answers.{order_is}
use Rattle.pinning.specs.PinSet.{lines}
use Rattle.interval.specs.Answers.{levels_of}
use Prim.Native.Nat.{◌-◌, ◌≤◌}
use Rattle.best.proofs.read_off.Given as goal

abbrev pub invariant-loop-place : goal.invariant-loop-place
invariant-loop-place l = (l.first ≤ l.place) × (l.place ≤ l.total) × ReadTo (job_on l.job l.line) (open_of (lines l.header.units l.pins) l.limit) (order_is l.order) l.first (levels_of l.initial.at) l.initial.entries l.place l.at l.sum l.entries
