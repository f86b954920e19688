-- To unfold `evaluate` is to unfold all that the definitions compute through: for a worked example.
use Rattle.base.specs.All.{all_below}
use Rattle.base.specs.Lists.{build, gathered}
use Rattle.base.specs.Refusals.{refusal, unless, guarded}
use Rattle.base.specs.Lent.{over, over_at, refuse, put}

unfoldable pub evaluate : Unit {0}
unfolding all_below build gathered refusal unless guarded over over_at refuse put
evaluate = tt
