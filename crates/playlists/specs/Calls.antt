-- What planning a list of programmes answers, and what it leaves in the lists that were lent (document 02, E14).
use Rattle.std.specs.Prelude.{ℕ, suc, ◌+◌, ◌*◌, Bool, true, false, List, [], ◌∷◌, ◌++◌, leb, eqb, length, get_or, take, drop, if◌then◌else◌}
use Rattle.std.proofs.Math.Option.{Option, none, some}
use Rattle.base.specs.Answer.{Answer, refused, gives}
use Rattle.base.specs.Refusals.{Test, test, guarded}
use Rattle.base.specs.Lent.{over_at}
use Rattle.model.specs.Job.{Job, intervals}
use Rattle.model.specs.Levels.{bucket_levels}
use Rattle.model.specs.Replay.{Totals}
use Rattle.model.specs.Best.{late, total}
use Rattle.format.specs.Limits.{limit, kept}
use Rattle.format.specs.Parser.{on_took}
use Rattle.format.specs.JobBytes.{header_in, parse, opening}
use Rattle.pinning.specs.PinSet.{fresh}
use Rattle.replaying.specs.Entries.{entry_size, plan_from}
use Rattle.planning.specs.Calls.{Planned}
use Rattle.starting.specs.Calls.{levels_call}

-- an entry of the list: where a job's first byte stands, counted from 0, and how many bytes it has
pub record Programme : Type 0 where
  pub first : ℕ
  pub size : ℕ

-- the programmes of a list of numbers, pair after pair
unfoldable pub programmes : List ℕ → List Programme
programmes [] = []
programmes (a ∷ []) = []
programmes (a ∷ b ∷ ns) = record { first = a; size = b } ∷ programmes ns

-- its bytes
unfoldable pub part : List ℕ → Programme → List ℕ
part b p = take p.size (drop p.first b)

-- between two programmes: how many are planned and how many bytes their plans take, the bucket levels at which the last one ended, none before the first, and the lists that were lent
pub record Standing : Type 0 where
  pub done : ℕ
  pub used : ℕ
  pub carried : Option (List ℕ)
  pub table : List ℕ
  pub entries : List ℕ
  pub totals : List ℕ

-- before the first
unfoldable pub at_first : List ℕ → List ℕ → List ℕ → Standing
at_first table entries totals = record { done = 0; used = 0; carried = none; table = table; entries = entries; totals = totals }

-- the bucket levels from which a programme is planned: the carried ones, of the first its own
unfoldable pub starting : Job → Option (List ℕ) → List ℕ
starting j none = j.start.buckets
starting j (some ls) = ls

-- where the entries of a plan lead from these levels, by (17)
unfoldable pub led_to : Job → List ℕ → List ℕ → List ℕ
led_to j ls entries = bucket_levels j 0 (plan_from entries 0 (intervals j)) j.line.buckets ls (intervals j)

-- a programme's totals as five numbers: distortion, source size, channel size and the unused drain of each bucket, 0 where there is no second one
abbrev pub each : ℕ
each = 5

unfoldable pub five : Totals → List ℕ
five t = t.distortion ∷ t.source ∷ t.channel ∷ get_or t.unused 0 0 ∷ get_or t.unused 1 0 ∷ []

-- a programme is refused by a number, with the lists as they are then, or the next one's turn comes
pub data Turn : Type 0 where
  stops : ℕ → Standing → Turn
  goes_on : Standing → Turn

-- as many levels as the first programme has buckets
unfoldable pub as_many : Job → Option (List ℕ) → Bool
as_many j none = true
as_many j (some ls) = eqb (length ls) (length j.line.buckets)

-- what is tested of a programme that opens, which took so many bytes: 22 where bytes are left behind its job, or where it has another number of buckets
unfoldable pub behind_tests : Job → ℕ → ℕ → Option (List ℕ) → List Test
behind_tests j taken size carried = test 22 (eqb taken size) ∷ test 22 (as_many j carried) ∷ []

-- after planning, from the levels ls: 13 leaves its table; a plan stands behind those before it, and leads to the next levels
unfoldable pub after : Job → List ℕ → Standing → Answer Totals → Planned → Turn
after j ls st (refused n) r = stops n (record { done = st.done; used = st.used; carried = st.carried; table = r.table; entries = st.entries; totals = st.totals })
after j ls st (gives t) r = goes_on (record {
  done = suc st.done;
  used = st.used + entry_size * intervals j;
  carried = some (led_to j ls r.entries);
  table = r.table;
  entries = take st.used st.entries ++ r.entries;
  totals = over_at (each * st.done) (five t) st.totals;
})

-- what is left of the entries for a programme's plan: all behind the plans before it, and nothing where its totals have no place, so that 12 is given for either list where it is given for the plan
unfoldable pub rest_of : Standing → List ℕ
rest_of st = if leb (each * (st.done + 1)) (length st.totals) then drop st.used st.entries else []

-- the plan of a programme, without pins, in the late order
unfoldable pub plan_part : List ℕ → Job → Standing → Planned
plan_part b j st = levels_call b (fresh (header_in j)) (starting j st.carried) total late st.table (rest_of st)

-- a programme that opened
unfoldable pub plan_turn : List ℕ → Job → Standing → Turn
plan_turn b j st = after j (starting j st.carried) st (plan_part b j st).answer (plan_part b j st)

-- one whose bytes are these: the numbers of opening, the tests above, then 20 and 11 to 13
unfoldable pub part_turn : List ℕ → Standing → Turn
part_turn b st =
    on_took (λ n. stops n st) (parse opening b)
    (λ j taken. guarded (λ n. stops n st) (behind_tests j taken (length b) st.carried) (plan_turn b j st))

-- one of the list: 22 where it passes the slice
unfoldable pub turn : List ℕ → Programme → Standing → Turn
turn b p st = guarded (λ n. stops n st) (test 22 (leb (p.first + p.size) (length b)) ∷ []) (part_turn (part b p) st)

-- what the call answers: all programmes are planned; a refusal of the list; or that of a programme, with its place, counted from 1
pub data Outcome : Type 0 where
  finished : Outcome
  refused_list : ℕ → Outcome
  refused_at : ℕ → ℕ → Outcome

pub record Played : Type 0 where
  pub answer : Outcome
  pub table : List ℕ
  pub entries : List ℕ
  pub totals : List ℕ

unfoldable pub ended : Outcome → Standing → Played
ended o st = record { answer = o; table = st.table; entries = st.entries; totals = st.totals }

unfoldable pub onward : Turn → (Standing → Played) → Played
onward (stops n st) f = ended (refused_at (suc st.done) n) st
onward (goes_on st) f = f st

-- one programme after another, up to the first that is refused
unfoldable pub play : List ℕ → List Programme → Standing → Played
play b [] st = ended finished st
play b (p ∷ ps) st = onward (turn b p st) (λ next. play b ps next)

-- 21: the numbers are 1 to 64 pairs
unfoldable pub is_list : List ℕ → Bool
is_list ns = if eqb (length ns) (2 * length (programmes ns)) then kept (limit 21 1 64 (length (programmes ns))) else false

unfoldable pub playlist_call : List ℕ → List ℕ → List ℕ → List ℕ → List ℕ → Played
playlist_call b ns table entries totals =
    guarded (λ n. ended (refused_list n) (at_first table entries totals)) (test 21 (is_list ns) ∷ [])
    (play b (programmes ns) (at_first table entries totals))
