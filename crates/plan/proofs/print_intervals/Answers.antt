-- `plan::print_intervals` meets its contract: every part that it takes is there.
use Rattle.std.proofs.Common.{arith}
use Rattle.plan.proofs.Levels.{few_each}
use Rattle.plan.proofs.print_intervals.Goals as goal

pub loop-place-init : goal.loop-place-init
loop-place-init c = record { few = few_each c.args.header _ c.levels_each-each.ensures; most = omega (arith, c.intervals-total.ensures, c.requires.0) }
