-- `planner::limit_for` meets its contract.
use Rattle.planner.proofs.Answering.{all_open}
use Rattle.planner.specs.Answers.{aim_is}
use Rattle.pinning.specs.PinSet.{lines}
use Rattle.header.specs.Answers.{plain}
use Rattle.planner.proofs.limit_for.Goals as goal

pub returns-in-Total : goal.returns-in-Total
unfolding plain aim_is
returns-in-Total c =
    rw c.in-Total.is (all_open _ _ _ _ _ _ c.requires.from _ c.requires.room (lines c.args.header.units c.args.pins.now))

pub returns-in-Even : goal.returns-in-Even
unfolding plain aim_is
returns-in-Even c =
    rw c.in-Even.is c.least_greatest.ensures
