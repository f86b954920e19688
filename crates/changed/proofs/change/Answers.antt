-- `changed::change` meets its contract: what refuses, the room for the values, the change.
use Rattle.header.proofs.Told.{handed_as}
use Rattle.header.specs.Refusals.{code}
use mathlib.Core.Path.{sym, ◌∙◌, ap}
use native.Mathlib.Omega.{arith}
use Rattle.header.specs.Answers.{verdict}
use Rattle.values.proofs.Buckets.{few_buckets}
use Rattle.exporting.specs.Sets.{set_planned}
use Rattle.changed.proofs.Answering.{change_before, change_12, change_told, change_room}
use Rattle.changed.proofs.change.Goals as goal

pub returns-in_err-set_refusal : goal.returns-in_err-set_refusal
returns-in_err-set_refusal c = handed_as (λ x. set_planned (code x) c.args.table.now c.args.entries.now c.args.values.now) _ _ c.from_residual.ensures (change_before _ _ _ c.set_in-own.ensures _ _ _ _ _ _ _ _ c.in_err-set_refusal.ensures)

pub overflow_add-buckets : goal.overflow_add-buckets
overflow_add-buckets c = record { fits = omega (arith, few_buckets c.args.job.now, c.buckets_in-buckets.ensures) }

pub returns-then-values-buckets : goal.returns-then-values-buckets
returns-then-values-buckets c = change_12 _ _ _ c.set_in-own.ensures _ _ _ _ _ _ _ c.in_ok-set_refusal.ensures (rw (← c.buckets_in-buckets.ensures) c.if-values-buckets.true)

pub tell-requires : goal.tell-requires
tell-requires c = change_room _ _ _ _ _ _ _ _ _ _ _ c.change-found.ensures _ (rw (← c.buckets_in-buckets.ensures) c.if-values-buckets.false)

pub returns : goal.returns
returns c = change_told _ _ _ c.set_in-own.ensures _ _ _ _ _ _ _ c.in_ok-set_refusal.ensures (rw (← c.buckets_in-buckets.ensures) c.if-values-buckets.false) _ c.order_named-order.ensures c.change-found.result _ _ c.change-found.ensures _ _ c.tell.ensures
