-- `table::fill_layers` meets its contract.
use Rattle.table.proofs.Tabling.{Filling}
use Rattle.table.specs.Answers.{job_on, open_of}
use Rattle.decoder.specs.Answers.{combine}
use Rattle.pinning.specs.PinSet.{lines}
use Prim.Native.Nat.{◌-◌}
use Rattle.table.proofs.fill_layers.Given as goal

abbrev pub invariant-loop-place : goal.invariant-loop-place
invariant-loop-place l = Filling (combine l.measure) (job_on l.job l.line) (open_of (lines l.header.units l.pins) l.limit) l.last l.initial.table l.first l.place l.start l.table

abbrev pub decreases-loop-place : goal.decreases-loop-place
decreases-loop-place l = l.place
