-- `listed::plan_list` meets its contract.
use Rattle.listed.proofs.Answering.{exported}
use Rattle.listed.proofs.plan_list.Goals as goal

pub returns : goal.returns
returns c =
    exported _ _ _ _ _ c.plan_list.result _ _ _ c.plan_list.ensures _ c.number_of.ensures
