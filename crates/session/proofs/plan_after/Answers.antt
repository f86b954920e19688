-- `session::plan_after` meets its contract.
use Rattle.header.proofs.Told.{handed_as}
use Rattle.session.proofs.Answering.{session_refused, session_room, session_none, session_made}
use Rattle.session.specs.Answers.{session_is}
use Rattle.planner.specs.Answers.{answered, planned}
use Rattle.planning.specs.Calls as plan
use Rattle.calling.specs.Sessions.{refuse}
use Rattle.header.specs.Answers.{door_of}
use mathlib.Core.Path.{ap}
use Rattle.session.proofs.plan_after.Goals as goal

pub returns-in_err-plan_refusal : goal.returns-in_err-plan_refusal
unfolding session_is planned refuse plan.refuse
returns-in_err-plan_refusal c = handed_as (λ x. session_is x c.args.answers.now c.args.table.now c.args.entries.now) _ _ c.from_residual.ensures (session_refused _ _ _ _ _ _ _ _ c.in_err-plan_refusal.ensures)

pub put_numbers-requires : goal.put_numbers-requires
put_numbers-requires c = session_room _ _ _ _ _ _ _ c.in_ok-plan_refusal.ensures

pub returns-in_err-totals : goal.returns-in_err-totals
unfolding session_is planned door_of
returns-in_err-totals c = handed_as (λ x. session_is x c.args.answers.now c.plan.new.table c.plan.new.entries) _ _ c.from_residual-in_err-totals.ensures (session_none _ _ _ _ _ _ _ c.in_ok-plan_refusal.ensures _ c.set_after-set.ensures _ c.aim_named.ensures _ c.order_named.ensures (planned c.plan.result _ _) c.plan.ensures _ (ap answered c.in_err-totals.was))

pub returns : goal.returns
unfolding session_is planned door_of
returns c = session_made _ _ _ _ _ _ _ c.in_ok-plan_refusal.ensures _ c.set_after-set.ensures _ c.aim_named.ensures _ c.order_named.ensures (planned c.plan.result _ _) c.plan.ensures _ (ap answered c.in_ok-totals.was) _ _ c.put_numbers.ensures
