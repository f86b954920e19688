-- `planner::plan_checked` meets its contract.
use Rattle.header.specs.Answers.{plain}
use Rattle.planner.proofs.Answering.{plan_on}
use Rattle.pinset.specs.Answers.{set_of}
use mathlib.Core.Path.{◌∙◌}
use Rattle.planner.proofs.plan_checked.Goals as goal

pub returns : goal.returns
unfolding plain set_of
returns c =
    let r = c.requires in
    c.plan_rest.ensures ∙ plan_on _ _ _ r.0 _ c.line_in-line.ensures _ r.1 _ _ _ _
