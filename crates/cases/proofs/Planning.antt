-- The table of document 01's cases of planning, computed, and what it says of each case.
use Prim.Native.Nat.{ℕ, ◌<◌}
use mathlib.Core.Path.{◌≡◌, refl}
use lib.ListN.{length, get_or}
use Rattle.trellis.specs.Table.{encode, lowest, charge, offered}
use Rattle.model.specs.Evaluate.{evaluate}
use Rattle.base.specs.Evaluate as base
use Rattle.format.specs.Choices.{choice_under, choice_number}
use Rattle.format.specs.JobBytes.{computes, same_header}
use Rattle.format.specs.JobA.{bytes_a, bytes_a8, bytes_e}
use Rattle.format.specs.Parser.{on_read}
use Rattle.pinning.specs.PinSet.{lines, unpinned, fresh}
use Rattle.pinning.specs.Check.{pin_fits, pins_fit, same_totals, fits, accept, checked}
use Rattle.pinning.specs.Calls.{opened, open_call, refuse, take_in, with_pin, without_pin, call_tests, called, call_in, call, call_of, click_tests, after, run}
use Rattle.replaying.specs.Entries.{one_entry, entry_bytes}
use Rattle.cases.specs.Replaying.{delayed, set_after}
use Rattle.cases.proofs.Replaying.{map_at}
use Rattle.planning.specs.Words.{layer, layers, table_from}
use Rattle.planning.specs.Calls as c
use Rattle.model.specs.Best.{late, early}
use Rattle.cases.specs.Planning.{Question, Reply, told, reply, questions, replies, early_replies, Cases, word_after, word_questions, words_expected, WordCases, look, own_table, sights, sights_told, SeeCases}
use Rattle.planning.specs.Rule.{coding_offer, pair_offer, least_offer, layer_from, choice_in, allowed_in, refill, refilled}
use Rattle.planning.specs.See as see
use Rattle.trellis.specs.Pairs.{row, rows}

pub cases : Cases
unfolding base.evaluate evaluate computes on_read choice_under choice_number same_header bytes_a bytes_a8 bytes_e lines unpinned fresh pin_fits pins_fit same_totals fits accept checked opened open_call refuse take_in with_pin without_pin call_tests called call_in call after run one_entry entry_bytes delayed set_after encode layer layers table_from c.refuse c.searched c.search_in c.plan_tests c.plan_in c.plan_call told reply questions replies early_replies
cases = record { late_are = refl; early_are = refl }

-- each case of the table, by its place
pub case_at : (i : ℕ) → i < length questions → (q : Question) (r : Reply) → (reply late (get_or questions i q) ≡ get_or replies i r) × (reply early (get_or questions i q) ≡ get_or early_replies i r)
case_at i h q r = (map_at (reply late) questions replies q r cases.late_are i h, map_at (reply early) questions early_replies q r cases.early_are i h)

-- single words of tables
pub word_cases : WordCases
unfolding base.evaluate evaluate computes on_read choice_under choice_number same_header bytes_a bytes_a8 bytes_e lines unpinned fresh pin_fits pins_fit same_totals fits accept checked opened open_call refuse take_in with_pin without_pin call_tests called call_in call after run one_entry entry_bytes delayed set_after encode layer layers table_from c.refuse c.searched c.search_in c.plan_tests c.plan_in c.plan_call word_after word_questions words_expected
word_cases = refl

-- calls that see
pub see_cases : SeeCases
unfolding base.evaluate evaluate computes on_read choice_under choice_number same_header bytes_a lines unpinned fresh pin_fits pins_fit same_totals fits accept checked opened open_call refuse take_in with_pin without_pin call_tests called call_in call call_of click_tests after run delayed set_after encode layer layers table_from c.refuse c.searched c.search_in c.plan_tests c.plan_in c.plan_call lowest charge offered rows row coding_offer pair_offer least_offer layer_from choice_in allowed_in refill refilled see.keep see.unit_of see.renewed see.seen see.see_in see.see_call look own_table sights sights_told
see_cases = refl
