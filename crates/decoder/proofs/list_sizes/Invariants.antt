-- `decoder::list_sizes` meets its contract.
use Prim.Native.Nat.{◌≤◌}
use Rattle.decoder.specs.Near.{Listed}
use Rattle.decoder.proofs.list_sizes.Given as goal

abbrev pub invariant-loop-size : goal.invariant-loop-size
invariant-loop-size l = (l.size ≤ l.limit) × Listed l.prices l.size l.count l.sizes
