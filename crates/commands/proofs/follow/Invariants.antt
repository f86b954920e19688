-- `commands::follow` meets its contract.
use Rattle.commands.proofs.Following.{Going}
use Rattle.pinset.specs.Answers.{set_of}
use Prim.Native.Nat.{◌-◌}
use lib.ListN.{length}
use Rattle.commands.proofs.follow.Given as goal

abbrev pub invariant-loop-at : goal.invariant-loop-at
invariant-loop-at l = Going l.job (set_of l.initial.set) l.from (set_of l.set) l.at

abbrev pub decreases-loop-at : goal.decreases-loop-at
decreases-loop-at l = length l.job - l.at
