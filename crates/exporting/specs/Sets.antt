-- What the exported calls with a set as numbers answer and leave: the inner calls' answers as a number, 0 where a call is not refused, and the set, the values and the table in lists that are lent.
use Rattle.std.specs.Prelude.{ℕ, ◌+◌, List, [], ◌∷◌, length}
use Rattle.std.proofs.Math.Option.{Option, none, some}
use Rattle.base.specs.Answer.{Answer, refused, gives}
use Rattle.base.specs.Refusals.{refusal, unless, first, guarded}
use Rattle.base.specs.Lent.{over, put}
use Rattle.model.specs.Pins.{Call, sees}
use Rattle.format.specs.Parser.{on_took}
use Rattle.format.specs.JobBytes.{header_in, Door, parse}
use Rattle.pinning.specs.PinSet.{fresh}
use Rattle.pinning.specs.Calls.{Handed, call, click}
use Rattle.pinning.specs.Numbers.{set_size, set_numbers, set_in}
use Rattle.replaying.specs.Calls.{replay_call}
use Rattle.planning.specs.Calls as planning
use Rattle.planning.specs.Calls.{plan_call}
use Rattle.planning.specs.See as sight
use Rattle.planning.specs.See.{see_call}
use Rattle.calling.specs.Sessions.{aim_named, order_named, set_plan_refusal, set_replay_refusal}
use Rattle.values.specs.Lists.{buckets_in, totals_list}
use Rattle.exporting.specs.Exports.{number_of, room_for, Filled, filled, Played, replayed, after_replay}

-- a job by its door, 1 to 5 and 17, then 12, then its set without a pin
unfoldable pub set_export : Door → List ℕ → List ℕ → Filled
set_export d b set = on_took (λ n. filled n set) (parse d b) (λ j k. guarded (λ n. filled n set) (room_for set_size set) (filled 0 (over (set_numbers (fresh (header_in j))) set)))

-- a call that is refused leaves the set's numbers, another writes those of the new set
unfoldable pub after_call : Option ℕ → Handed → List ℕ → Filled
after_call none r set = filled 0 (over (set_numbers r.set) set)
after_call (some n) r set = filled n set

unfoldable pub call_export : List ℕ → List ℕ → Call → Filled
call_export b set k = after_call (call b (set_in set) k).refused (call b (set_in set) k) set

-- pin and see, lift and see
pub record Seen : Type 0 where
  pub number : ℕ
  pub set : List ℕ
  pub table : List ℕ
  pub values : List ℕ

abbrev pub seen : ℕ → List ℕ → List ℕ → List ℕ → Seen
seen n set table values = record { number = n; set = set; table = table; values = values }

unfoldable pub after_see : Answer ℕ → sight.Seen → List ℕ → List ℕ → Seen
after_see (refused n) r set values = seen n set r.table values
after_see (gives word) r set values = seen 0 (over (set_numbers r.set) set) r.table (over (word ∷ []) values)

-- what refuses the call, 11 last, then 12 for the value, then the call
unfoldable pub see_export : List ℕ → List ℕ → Call → List ℕ → List ℕ → Seen
see_export b set k table values =
    unless (λ n. seen n set table values) (first (click b (set_in set) (sees k (length table))).refused (refusal (room_for 1 values)))
    (after_see (see_call b (set_in set) k table).answer (see_call b (set_in set) k table) set values)

-- planning
pub record SetPlanned : Type 0 where
  pub number : ℕ
  pub table : List ℕ
  pub entries : List ℕ
  pub values : List ℕ

abbrev pub set_planned : ℕ → List ℕ → List ℕ → List ℕ → SetPlanned
set_planned n table entries values = record { number = n; table = table; entries = entries; values = values }

unfoldable pub after_plan : planning.Planned → List ℕ → SetPlanned
after_plan r values = set_planned (number_of r.answer) r.table r.entries (put r.answer totals_list values)

unfoldable pub set_plan_export : List ℕ → List ℕ → ℕ → ℕ → List ℕ → List ℕ → List ℕ → SetPlanned
set_plan_export b set aim order table entries values =
    unless (λ n. set_planned n table entries values) (first (set_plan_refusal b (set_in set) aim order (length table) (length entries)) (refusal (room_for (3 + buckets_in b) values)))
    (after_plan (plan_call b (set_in set) (aim_named aim) (order_named order) table entries) values)

-- a replay
unfoldable pub set_replay_export : List ℕ → List ℕ → List ℕ → List ℕ → List ℕ → Played
set_replay_export b set entries levels values =
    unless (λ n. replayed n levels values) (first (set_replay_refusal b (set_in set) entries (length levels)) (refusal (room_for (5 + buckets_in b) values)))
    (after_replay (buckets_in b) (replay_call b (set_in set) entries levels) values)
