-- `calls::make_call` meets its contract.
use Rattle.calls.proofs.Calling.{call_pins, call_lifts}
use Rattle.pinning.specs.Calls.{call}
use mathlib.Core.Path.{◌∙◌, ap}
use Rattle.calls.proofs.make_call.Goals as goal

pub returns-then-calls-at-eq-PIN : goal.returns-then-calls-at-eq-PIN
returns-then-calls-at-eq-PIN c = c.pin.ensures ∙ ap (call _ _) (call_pins _ _ c.if-calls-at-eq-PIN.true)

pub returns : goal.returns
returns c = c.lift.ensures ∙ ap (call _ _) (call_lifts _ _ c.if-calls-at-eq-PIN.false)
