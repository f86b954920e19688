-- A job with a bucket that never drains is refused by every call that goes by the door of opening: `Never`.
use mathlib.Core.Path.{◌≡◌, refl, ◌∙◌, ap}
use mathlib.Core.Option.{some}
use Rattle.format.specs.Parser as P
use Rattle.format.specs.JobBytes.{opening, parse}
use Rattle.format.proofs.Bounds.{two_doors}
use Rattle.pinning.specs.Calls.{Handed, refuse}
use Rattle.calling.specs.Commands.{commands_call}
use Rattle.calling.specs.Claims.{Never}
use Rattle.calling.proofs.Commands.{commands, input_refusals}
use Rattle.calling.proofs.Sessions.{call_sessions, sessions}

pub never : Never
never b j n e idle =
    let refused : parse opening b ≡ P.refused 17 = (two_doors b j n).else_17 e idle in
    let by_commands : (commands_call b).refused ≡ some 17 = ap (λ (r : Handed). r.refused) ((commands b).job_first 17 refused) ∙ unfold refuse in refl in
    record {
      commands = by_commands;
      program = λ table entries short. (input_refusals b table entries).0.then_commands 17 short by_commands;
      calls_alone = λ calls answers. (call_sessions b calls answers).0 17 refused;
      session = λ calls aim order answers table entries. (sessions b calls aim order answers table entries).0 17 refused;
    }
