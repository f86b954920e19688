-- `commands::carry_out` meets its contract.
use Rattle.commands.proofs.Following.{carry_refused, carry_took}
use Rattle.commands.specs.Answers.{command_is}
use mathlib.Core.Path.{ap, refl}
use Rattle.commands.proofs.carry_out.Goals as goal

pub returns-in-Err : goal.returns-in-Err
unfolding command_is
returns-in-Err c =
    carry_refused _ _ _ c.read_command.result c.read_command.ensures _ (ap command_is c.in-Err.is)

pub returns-in-Ok-Pin : goal.returns-in-Ok-Pin
unfolding command_is
returns-in-Ok-Pin c =
    carry_took _ _ _ c.read_command.result c.read_command.ensures _ 8 (rw (c.in-Ok-Pin.is, c.in-Ok-Pin.field-0-is) refl) c.pin-made.result c.pin-made.ensures

pub returns-in-Ok-Lift : goal.returns-in-Ok-Lift
unfolding command_is
returns-in-Ok-Lift c =
    carry_took _ _ _ c.read_command.result c.read_command.ensures _ 6 (rw (c.in-Ok-Lift.is, c.in-Ok-Lift.field-0-is) refl) c.lift-made.result c.lift-made.ensures
