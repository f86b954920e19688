-- The tables of cases of commands, sessions and input, computed.
use mathlib.Core.Path.{refl}
use Rattle.trellis.specs.Table.{encode}
use Rattle.base.specs.Evaluate as base
use Rattle.model.specs.Evaluate.{evaluate}
use Rattle.format.specs.Choices.{choice_under, choice_number}
use Rattle.format.specs.Parser.{on_read, on_took, with_value}
use Rattle.format.specs.Records.{kind_in, form_for, record_either, plain_form}
use Rattle.format.specs.JobBytes.{computes, same_header}
use Rattle.format.specs.JobA.{bytes_a, bytes_e}
use Rattle.pinning.specs.PinSet.{lines, unpinned, fresh}
use Rattle.pinning.specs.Check.{pin_fits, pins_fit, same_totals, fits, accept, checked}
use Rattle.pinning.specs.Calls.{opened, open_call, refuse, take_in, with_pin, without_pin, call_tests, called, call_in, call, after, run}
use Rattle.replaying.specs.Entries.{one_entry, entry_bytes}
use Rattle.planning.specs.Words.{layer, layers, table_from}
use Rattle.planning.specs.Calls as c
use Rattle.calling.specs.Commands.{pin_form, lift_form, call_of, command, follow, commands_call, kind_of, call_at, calls_from, calls_of, kind_fits, calls_tests}
use Rattle.calling.specs.Sessions as s
use Rattle.cases.specs.Planning.{told}
use Rattle.cases.specs.Calling.{records, record_replies, input_reply, inputs, input_replies, answered, session_reply, sessions, session_replies, named_reply, named_sessions, named_replies, order_reply, order_replies, calls_reply, calls_replies, Cases}

pub cases : Cases
unfolding base.evaluate evaluate computes on_read on_took with_value kind_in form_for record_either plain_form choice_under choice_number same_header bytes_a bytes_e lines unpinned fresh pin_fits pins_fit same_totals fits accept checked opened open_call refuse take_in with_pin without_pin call_tests called call_in call after run one_entry entry_bytes encode layer layers table_from c.refuse c.searched c.search_in c.plan_tests c.plan_in c.plan_call pin_form lift_form call_of command follow commands_call kind_of call_at calls_from calls_of kind_fits calls_tests s.made s.answer_number s.numbers s.aim_named s.order_named s.asked_tests s.answers_tests s.calls_call s.refuse s.session_tests s.planned_after s.session_call s.input_call records record_replies told input_reply inputs input_replies answered session_reply sessions session_replies named_reply named_sessions named_replies order_reply order_replies calls_reply calls_replies
cases = record { commands = refl; inputs_are = refl; sessions_are = refl; named_are = refl; orders_are = refl; calls_are = refl }
