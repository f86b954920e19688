-- `records::put_units` meets its contract: what is left to write decides, whichever turn the loop is at.
use Rattle.records.proofs.Records.{units_left}
use Rattle.writing.specs.Lists.{codings_from}
use Prim.Native.Nat.{◌+◌, ◌-◌, ◌*◌, ◌≤◌}
use mathlib.Core.Path.{◌≡◌}
use lib.ListN.{length}
use Rattle.records.proofs.put_units.Given as goal

abbrev pub invariant-loop : goal.invariant-loop
invariant-loop l = (l.counter ≤ l.end) × (l.from ≡ l.counter * l.choices) × (l.place ≡ l.at + l.counter * l.size) × (length l.out ≡ length l.initial.out) × (units_left l.choices (codings_from l.sizes l.distortions) l.out l.place l.from (l.end - l.counter) ≡ units_left l.choices (codings_from l.sizes l.distortions) l.initial.out l.at 0 (l.end - 0))
