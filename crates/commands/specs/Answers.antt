-- What a command record and the step that it leads to mean in the terms of `calling`, case by case.
use Rattle.std.specs.Prelude.{ℕ, ◌+◌, List, drop, Result, Ok, Err}
use Rattle.std.proofs.Math.Option.{Option, some}
use Rattle.model.specs.Pins.{Call, pin, lift}
use Rattle.format.specs.Parser as P
use Rattle.pinning.specs.PinSet.{PinSet}
use Rattle.pinning.specs.Calls.{call}
use Rattle.pinset.specs.Answers.{set_of}
use Rattle.header.specs.Refusals.{number}
use Rattle.header.specs.Answers.{verdict}
use Rattle.header.specs.declared.refusal.Refusal.{Refusal}
use Rattle.calling.specs.Commands.{command}
use Rattle.commands.specs.declared.Command.{Command}
use Rattle.commands.specs.declared.Command.TheVariants as r
use Rattle.commands.specs.declared.Step as code

-- a command record, with the bytes that it takes
unfoldable pub command_is : Result Command Refusal → P.Result Call
command_is (Ok (r.Pin u x)) = P.took (pin u x) 8
command_is (Ok (r.Lift u)) = P.took (lift u) 6
command_is (Err e) = P.refused (number e)

-- what one command comes to: the number that refuses it, or none, the set that is handed back, and the place of the next command
pub record Step : Type 0 where
  pub refused : Option ℕ
  pub set : PinSet
  pub next : ℕ

unfoldable pub step_is : code.Step → Step
step_is o = record { refused = verdict o.answer; set = set_of o.set; next = o.next }

unfoldable pub on_command : List ℕ → PinSet → ℕ → P.Result Call → Step
on_command b s at (P.refused n) = record { refused = some n; set = s; next = at }
on_command b s at (P.took k used) = record { refused = (call b s k).refused; set = (call b s k).set; next = at + used }

unfoldable pub carries_out : List ℕ → PinSet → ℕ → Step
carries_out b s at = on_command b s at (command (drop at b))
