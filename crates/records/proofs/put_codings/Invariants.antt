-- `records::put_codings` meets its contract: what is left to write decides, whichever turn the loop is at.
use Rattle.records.proofs.Setting.{codings_left}
use Rattle.writing.specs.Lists.{codings_from}
use Prim.Native.Nat.{◌+◌, ◌*◌, ◌≤◌}
use mathlib.Core.Path.{◌≡◌}
use lib.ListN.{length}
use Rattle.records.proofs.put_codings.Given as goal

abbrev pub invariant-loop-x : goal.invariant-loop-x
invariant-loop-x l = (l.x ≤ length l.sizes) × (l.place ≡ l.at + 6 * l.x) × (length l.out ≡ length l.initial.out) × (codings_left (codings_from l.sizes l.distortions) l.out l.place l.x ≡ codings_left (codings_from l.sizes l.distortions) l.initial.out l.at 0)
