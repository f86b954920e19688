-- `commands::plan_input` meets its contract.
use Rattle.header.proofs.Told.{handed_as}
use Rattle.commands.proofs.Inputs.{input_long, input_refused, input_planned}
use Rattle.planner.specs.Answers.{planned, aim_is}
use Rattle.best.specs.Answers.{order_is}
use Rattle.planning.specs.Calls.{refuse}
use mathlib.Core.Path.{◌∙◌}
use native.Mathlib.Omega.{arith}
use Rattle.commands.proofs.plan_input.Goals as goal

pub returns-then-input-gt-MOST_INPUT : goal.returns-then-input-gt-MOST_INPUT
unfolding planned refuse
returns-then-input-gt-MOST_INPUT c = input_long _ _ _ c.if-input-gt-MOST_INPUT.true

pub returns-in_err-answer : goal.returns-in_err-answer
unfolding planned refuse
returns-in_err-answer c =
    handed_as (λ x. planned x c.args.table.now c.args.entries.now) _ _ c.from_residual.ensures (input_refused _ _ _ c.if-input-gt-MOST_INPUT.false c.take_commands-answer.result c.take_commands-answer.ensures _ (grind arith))

pub returns : goal.returns
unfolding aim_is order_is
returns c =
    c.plan.ensures ∙ input_planned _ _ _ c.if-input-gt-MOST_INPUT.false c.take_commands-answer.result c.take_commands-answer.ensures (grind arith)
