-- `planned::plan` meets its contract: what refuses, the room for the values, the session.
use Rattle.header.proofs.Told.{handed_as}
use Rattle.header.specs.Refusals.{code}
use mathlib.Core.Path.{sym, ◌∙◌, ap}
use native.Mathlib.Omega.{arith}
use Rattle.header.specs.Answers.{verdict}
use Rattle.exporting.specs.Exports.{planned}
use Rattle.planned.proofs.Answering.{plan_before, plan_12, plan_told, plan_room}
use Rattle.values.proofs.Buckets.{few_buckets}
use Rattle.planned.proofs.plan.Goals as goal

pub returns-in_err-plan_refusal : goal.returns-in_err-plan_refusal
returns-in_err-plan_refusal c = handed_as (λ x. planned (code x) c.args.answers.now c.args.table.now c.args.entries.now c.args.values.now) _ _ c.from_residual.ensures (plan_before _ _ _ _ _ _ _ _ _ c.in_err-plan_refusal.ensures)

pub overflow_add-buckets : goal.overflow_add-buckets
overflow_add-buckets c = record { fits = omega (arith, few_buckets c.args.job.now, c.buckets_in-buckets.ensures) }

pub returns-then-values-buckets : goal.returns-then-values-buckets
returns-then-values-buckets c = plan_12 _ _ _ _ _ _ _ _ c.in_ok-plan_refusal.ensures (rw (← c.buckets_in-buckets.ensures) c.if-values-buckets.true)

pub tell-requires : goal.tell-requires
tell-requires c = plan_room _ _ _ _ _ _ _ _ _ _ _ c.plan_after-found.ensures _ (rw (← c.buckets_in-buckets.ensures) c.if-values-buckets.false)

pub returns : goal.returns
returns c = plan_told _ _ _ _ _ _ _ _ c.in_ok-plan_refusal.ensures (rw (← c.buckets_in-buckets.ensures) c.if-values-buckets.false) c.plan_after-found.result _ _ _ c.plan_after-found.ensures _ _ c.tell.ensures
