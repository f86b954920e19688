-- Pins and lifts as numbers: command records behind a job's bytes, and lists of three numbers a call (document 01, "The printed plan").
use Rattle.std.specs.Prelude.{ℕ, zero, suc, ◌+◌, ◌*◌, ◌/◌, ◌%◌, Bool, true, List, [], ◌∷◌, eqb, length, get_or, drop, if◌then◌else◌}
use Rattle.base.specs.All.{all_below}
use Rattle.base.specs.Refusals.{Test, test, unless}
use Rattle.model.specs.Pins.{Call, pin, lift}
use Rattle.format.specs.Parser.{Parser, done, ◌>>=◌, on_took}
use Rattle.format.specs.Records.{Form, Filled, plain_form, record_either, filled_bytes}
use Rattle.format.specs.JobBytes.{header_in, parse, opening}
use Rattle.pinning.specs.PinSet.{PinSet, fresh}
use Rattle.pinning.specs.Calls.{Handed, refuse, take_in, call}
use Rattle.format.specs.JobBytes.{no_header}

-- the kinds of the command records, which calls as numbers have too
abbrev pub pins_kind : ℕ
pins_kind = 6

abbrev pub lifts_kind : ℕ
lifts_kind = 7

-- a pin has a unit and a choice, a lift a unit, all of them u16
unfoldable pub pin_form : Form
pin_form = plain_form pins_kind 2

unfoldable pub lift_form : Form
lift_form = plain_form lifts_kind 1

-- the call that a record stands for, and back
unfoldable pub call_of : Filled → Call
call_of r = if eqb r.kind lifts_kind then lift (get_or r.values 0 0) else pin (get_or r.values 0 0) (get_or r.values 1 0)

unfoldable pub record_of : Call → Filled
record_of (pin u c) = record { kind = pins_kind; values = u ∷ c ∷ [] }
record_of (lift u) = record { kind = lifts_kind; values = u ∷ [] }

-- the command record at the front of the bytes
unfoldable pub command : Parser Call
command = do
  r ← record_either pin_form lift_form
  done (call_of r)

unfoldable pub command_bytes : Call → List ℕ
command_bytes k = filled_bytes pin_form lift_form (record_of k)

-- the commands in the bytes that are left, taken in turn to the end or to the first refusal; n bounds how many there are. A command that is refused leaves the set as it came
unfoldable pub follow : ℕ → List ℕ → PinSet → List ℕ → Handed
follow zero b s rest = take_in s
follow (suc n) b s rest =
    if eqb (length rest) 0 then take_in s
    else on_took (refuse s) (command rest) (λ k used. unless (refuse (call b s k).set) (call b s k).refused (follow n b (call b s k).set (drop used rest)))

-- a job, then commands to the end of the bytes; where no job opens, the set beside the refusal is that of no job
unfoldable pub commands_call : List ℕ → Handed
commands_call b = on_took (refuse (fresh no_header)) (parse opening b) (λ j k. follow (length b) b (fresh (header_in j)) (drop k b))

-- calls as three numbers each: the kind, the unit and the choice, which a lift does not look at
unfoldable pub kind_of : List ℕ → ℕ → ℕ
kind_of l i = get_or l (3 * i) 0

unfoldable pub call_at : List ℕ → ℕ → Call
call_at l i = if eqb (kind_of l i) pins_kind then pin (get_or l (3 * i + 1) 0) (get_or l (3 * i + 2) 0) else lift (get_or l (3 * i + 1) 0)

unfoldable pub calls_from : List ℕ → ℕ → ℕ → List Call
calls_from l i zero = []
calls_from l i (suc n) = call_at l i ∷ calls_from l (suc i) n

unfoldable pub calls_of : List ℕ → List Call
calls_of l = calls_from l 0 (length l / 3)

unfoldable pub kind_fits : ℕ → Bool
kind_fits kind = if eqb kind pins_kind then true else eqb kind lifts_kind

-- another kind among the whole calls is 2; then a last call that is cut is 1
unfoldable pub calls_tests : List ℕ → List Test
calls_tests l = test 2 (all_below (λ i. kind_fits (kind_of l i)) (length l / 3)) ∷ test 1 (eqb (length l % 3) 0) ∷ []
