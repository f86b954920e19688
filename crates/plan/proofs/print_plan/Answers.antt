-- `plan::print_plan` meets its contract: an opened job has at most 576 intervals.
use Rattle.header.specs.Answers.{plain}
use Rattle.job.proofs.Answers.{answer_took}
use Rattle.format.proofs.Opened.{opens_by, few_intervals}
use Rattle.plan.proofs.print_plan.Goals as goal

pub print_intervals-requires : goal.print_intervals-requires
unfolding plain
print_intervals-requires c =
    let d = answer_took _ _ c.in-Ok.ensures in
    (few_intervals _ _ (opens_by _ _ _ d.job _ d.is d.header_is), c.requires)
