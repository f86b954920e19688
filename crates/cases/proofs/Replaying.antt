-- The table of document 01's cases, computed, and what it says of each.
use Prim.Native.Nat.{ℕ, zero, suc, ◌<◌}
use mathlib.Core.Path.{◌≡◌, refl}
use mathlib.Core.List.{List, [], ◌∷◌, map}
use native.Mathlib.Omega.{arith}
use lib.ListN.{length, get_or}
use Rattle.model.specs.Evaluate.{evaluate}
use Rattle.base.specs.Evaluate as base
use Rattle.format.specs.Choices.{choice_under}
use Rattle.format.specs.JobBytes.{computes, same_header}
use Rattle.format.specs.Parser.{on_read}
use Rattle.format.specs.JobA.{bytes_a, bytes_a8}
use Rattle.pinning.specs.PinSet.{lines, unpinned, fresh}
use Rattle.pinning.specs.Check.{pin_fits, pins_fit, same_totals, fits, accept, checked}
use Rattle.pinning.specs.Calls.{opened, open_call, refuse, take_in, with_pin, without_pin, call_tests, called, call_in, call, after, run}
use Rattle.replaying.specs.Entries.{entry_fields, rate_field, choice_field, entry_under, entry_at, entries_from, plan_of, fits_under, entries_fit, shaped}
use Rattle.replaying.specs.Calls as c
use Rattle.cases.specs.Replaying.{Question, Reply, delayed, set_after, reply, questions, replies, Cases}

pub cases : Cases
unfolding base.evaluate evaluate computes on_read choice_under same_header bytes_a bytes_a8 lines unpinned fresh pin_fits pins_fit same_totals fits accept checked opened open_call refuse take_in with_pin without_pin call_tests called call_in call after run entry_fields rate_field choice_field entry_under entry_at entries_from plan_of fits_under entries_fit shaped c.replayed c.flat c.level_count c.played c.replay_tests c.replay_call c.reported c.report_tests c.report_call delayed set_after reply questions replies
cases = refl

-- what a computed list says of each of its members
pub map_at : {A B : Type 0} (f : A → B) (xs : List A) (ys : List B) (x : A) (y : B) → map f xs ≡ ys → (i : ℕ) → i < length xs → f (get_or xs i x) ≡ get_or ys i y
map_at f [] ys x y e i h = absurd (omega arith)
map_at f (a ∷ xs) ys x y e zero h = rw (← e)
map_at f (a ∷ xs) ys x y e (suc i) h = rw (← e) (map_at f xs (map f xs) x y refl i (omega arith))

-- each case of the table, by its place
pub case_at : (i : ℕ) → i < length questions → (q : Question) (r : Reply) → reply (get_or questions i q) ≡ get_or replies i r
case_at i h q r = map_at reply questions replies q r cases i h
