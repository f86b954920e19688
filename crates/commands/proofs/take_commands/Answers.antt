-- `commands::take_commands` meets its contract.
use Rattle.commands.proofs.Inputs.{no_job, job_within, then_commands}
use mathlib.Core.Path.{◌∙◌}
use native.Mathlib.Omega.{arith}
use Rattle.header.specs.Answers.{door_of}
use Rattle.commands.proofs.take_commands.Goals as goal

pub follow-requires : goal.follow-requires
unfolding door_of
follow-requires c =
    omega (arith, job_within _ c.open-answer.result c.open-answer.ensures _ c.in-Ok.is)

pub returns-in-Err : goal.returns-in-Err
unfolding door_of
returns-in-Err c =
    no_job _ c.open-answer.result c.open-answer.ensures _ c.in-Err.is

pub returns-in-Ok : goal.returns-in-Ok
unfolding door_of
returns-in-Ok c =
    c.follow.ensures ∙ then_commands _ c.open-answer.result c.open-answer.ensures _ c.in-Ok.is
