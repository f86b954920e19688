-- `job::read_units` meets its contract: the units that are left to read decide, whichever turn the loop is at.
use Prim.Native.Nat.{◌-◌, ◌≤◌}
use mathlib.Core.Path.{◌≡◌}
use lib.ListN.{length, drop}
use Rattle.format.specs.Parser.{further, many}
use Rattle.format.specs.JobBytes.{unit_parser}
use Rattle.header.specs.Answers.{plain}
use Rattle.job.specs.Answers.{answering}
use Rattle.job.proofs.Opening.{units_left}
use Rattle.job.proofs.read_units.Given as goal

abbrev pub invariant-loop : goal.invariant-loop
invariant-loop l = (l.counter ≤ l.header.units) × (l.at ≤ length l.job) × (answering (plain l.header) (further l.start (many l.header.units (unit_parser l.header.choices) (drop l.start l.job))) ≡ units_left l.job (plain l.header) l.at l.counter)
