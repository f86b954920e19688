-- `commands::read_command` meets its contract.
use Rattle.header.proofs.Told.{handed_as}
use native.Mathlib.Omega.{arith}
use Rattle.commands.specs.Answers.{command_is}
use Rattle.commands.proofs.Records.{lift_refused, lift_took, pin_refused, pin_took}
use Rattle.commands.proofs.read_command.Goals as goal

pub returns-in_err-plain_verdict-in-7 : goal.returns-in_err-plain_verdict-in-7
unfolding command_is
returns-in_err-plain_verdict-in-7 c =
    handed_as command_is _ _ c.from_residual.ensures (lift_refused _ _ c.field16.ensures c.in-7.is _ c.in_err-plain_verdict-in-7.ensures)

pub returns-in_err-plain_verdict-in_default : goal.returns-in_err-plain_verdict-in_default
unfolding command_is
returns-in_err-plain_verdict-in_default c =
    handed_as command_is _ _ c.from_residual-in_err-plain_verdict-in_default.ensures (pin_refused _ _ c.field16.ensures (λ e. omega (arith, e)) _ c.in_err-plain_verdict-in_default.ensures)

pub returns-in_ok-plain_verdict-in-7 : goal.returns-in_ok-plain_verdict-in-7
unfolding command_is
returns-in_ok-plain_verdict-in-7 c =
    lift_took _ _ c.field16.ensures c.in-7.is c.in_ok-plain_verdict-in-7.ensures _ c.field16-in-7.ensures

pub returns-in_ok-plain_verdict-in_default : goal.returns-in_ok-plain_verdict-in_default
unfolding command_is
returns-in_ok-plain_verdict-in_default c =
    pin_took _ _ c.field16.ensures (λ e. omega (arith, e)) c.in_ok-plain_verdict-in_default.ensures _ _ c.field16-in_default.ensures c.field16-in_default-2.ensures
