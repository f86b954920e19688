-- `called::make_calls` meets its contract.
use Rattle.header.proofs.Told.{handed_as}
use Rattle.header.specs.Refusals.{code}
use Rattle.exporting.specs.Exports.{called}
use Rattle.called.proofs.Answering.{calls_before, calls_12, calls_refused, calls_done}
use Rattle.called.proofs.make_calls.Goals as goal

pub returns-in_err-calls_refusal : goal.returns-in_err-calls_refusal
returns-in_err-calls_refusal c = handed_as (λ x. called (code x) c.args.answers.now c.args.values.now) _ _ c.from_residual.ensures (calls_before _ _ _ _ _ c.in_err-calls_refusal.ensures)

pub returns-then-values-lt-CALLS_VALUES : goal.returns-then-values-lt-CALLS_VALUES
returns-then-values-lt-CALLS_VALUES c = calls_12 _ _ _ _ c.in_ok-calls_refusal.ensures c.if-values-lt-CALLS_VALUES.true

pub returns-in_err-make_calls : goal.returns-in_err-make_calls
returns-in_err-make_calls c = handed_as (λ x. called (code x) c.make_calls.new.answers c.args.values.now) _ _ c.from_residual-in_err-make_calls.ensures (calls_refused _ _ _ _ c.in_ok-calls_refusal.ensures c.if-values-lt-CALLS_VALUES.false c.make_calls.result _ c.make_calls.ensures _ c.in_err-make_calls.was)

pub returns : goal.returns
returns c = calls_done _ _ _ _ c.in_ok-calls_refusal.ensures c.if-values-lt-CALLS_VALUES.false c.make_calls.result _ c.make_calls.ensures _ c.in_ok-make_calls.was _ c.put_pins.ensures
