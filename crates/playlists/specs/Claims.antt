-- What is claimed of a list of programmes: each claim is a type, which a theorem of proofs/ inhabits. Plans are judged by `Admissible`, levels by the equations; neither knows replay or search.
use Rattle.std.specs.Prelude.{ℕ, suc, ◌+◌, ◌*◌, ◌≤◌, ◌<◌, ◌≡◌, List, [], ◌∷◌, length, get_or, take, drop}
use Rattle.std.proofs.Math.Option.{Option, none, some}
use Rattle.base.specs.Refusals.{condition, InOrder}
use Rattle.model.specs.Job.{Levels, Job, Entry, intervals}
use Rattle.model.specs.Levels.{bucket_levels}
use Rattle.model.specs.Pins.{no_pins}
use Rattle.model.specs.Admissible.{Admissible}
use Rattle.model.specs.Replay.{totals}
use Rattle.model.specs.Best.{late, unlimited, total}
use Rattle.model.specs.Table.{words, IsTable}
use Rattle.model.specs.Claims.{BestOf}
use Rattle.format.specs.Parser.{refused, took}
use Rattle.format.specs.JobBytes.{parse, opening}
use Rattle.replaying.specs.Entries.{entry_bytes}
use Rattle.starting.specs.Claims.{LevelsFit}
use Rattle.playlists.specs.Calls.{Programme, programmes, part, Standing, finished, refused_list, refused_at, Played, playlist_call}

-- the levels from which a programme is planned: its own where none are carried, else the carried ones
pub data StartsAt (j : Job) : Option (List ℕ) → List ℕ → Type 0 where
  its_own : StartsAt j none j.start.buckets
  carried_on : {ls : List ℕ} → StartsAt j (some ls) ls

-- with the decoder's own level
abbrev pub from : Job → List ℕ → Levels
from j ls = record { decoder = j.start.decoder; buckets = ls }

-- what a programme has to pass before it is planned, up to its own number of buckets: it lies in the slice and opens, its bytes are those of its job alone, and it has as many buckets as levels are carried
pub record Opens (b : List ℕ) (p : Programme) (st : Standing) (j : Job) (ls : List ℕ) : Type 0 where
  pub inside : p.first + p.size ≤ length b
  pub opens : parse opening (part b p) ≡ took j p.size
  pub levels : StartsAt j st.carried ls
  pub alike : length ls ≡ length j.line.buckets

-- the lists have room for what is written of a programme: three bytes an interval behind the plans before it, and five totals behind theirs
pub record HasRoom (j : Job) (st : Standing) : Type 0 where
  pub plan : 3 * intervals j ≤ length (drop st.used st.entries)
  pub totals : 5 * (st.done + 1) ≤ length st.totals

-- a programme that is planned, from the standing before it to the one after it
pub record PlannedOne (b : List ℕ) (p : Programme) (before after : Standing) : Type 0 where
  pub job : Job
  pub levels : List ℕ
  pub opens : Opens b p before job levels
  pub fit : LevelsFit job levels
  pub room : HasRoom job before
  -- its plan is the best for it in the late order, without pins, from these levels
  pub plan : List Entry
  pub best : BestOf job 0 total late (Admissible job (no_pins (length job.units)) 0 (from job levels)) plan
  -- the plan's bytes stand behind those of the plans before it, and no other byte is changed
  pub used : after.used ≡ before.used + 3 * intervals job
  pub bytes : take (3 * intervals job) (drop before.used after.entries) ≡ entry_bytes plan
  pub entries_before : take before.used after.entries ≡ take before.used before.entries
  pub entries_behind : drop after.used after.entries ≡ drop after.used before.entries
  pub entries_size : length after.entries ≡ length before.entries
  -- the next programme's levels are those to which the plan leads, by (17)
  pub carried : after.carried ≡ some (bucket_levels job 0 plan job.line.buckets levels (intervals job))
  -- its totals stand in its own five places, and no other number is changed
  pub done : after.done ≡ before.done + 1
  pub totals_are : take 5 (drop (5 * before.done) after.totals) ≡ (totals job 0 (from job levels) plan).distortion ∷ (totals job 0 (from job levels) plan).source ∷ (totals job 0 (from job levels) plan).channel ∷ get_or (totals job 0 (from job levels) plan).unused 0 0 ∷ get_or (totals job 0 (from job levels) plan).unused 1 0 ∷ []
  pub totals_before : take (5 * before.done) after.totals ≡ take (5 * before.done) before.totals
  pub totals_behind : drop (5 * after.done) after.totals ≡ drop (5 * after.done) before.totals
  pub totals_size : length after.totals ≡ length before.totals
  -- the table is its own, and the words behind it are kept
  pub table_is : IsTable job (unlimited (no_pins (length job.units))) 0 after.table
  pub table_rest : drop (words job) after.table ≡ drop (words job) before.table
  pub table_size : length after.table ≡ length before.table

-- the programme that is refused, by which number, and the table after it: the first of its checks, in this order, that does not hold
pub data Stops (b : List ℕ) (p : Programme) (st : Standing) : ℕ → List ℕ → Type 0 where
  passes_slice : (p.first + p.size ≤ length b → ⊥) → Stops b p st 22 st.table
  unread : {n : ℕ} → p.first + p.size ≤ length b → parse opening (part b p) ≡ refused n → Stops b p st n st.table
  bytes_left : {j : Job} {k : ℕ} → p.first + p.size ≤ length b → parse opening (part b p) ≡ took j k → (k ≡ p.size → ⊥) → Stops b p st 22 st.table
  other_buckets : {j : Job} {ls : List ℕ} → p.first + p.size ≤ length b → parse opening (part b p) ≡ took j p.size → StartsAt j st.carried ls → (length ls ≡ length j.line.buckets → ⊥) → Stops b p st 22 st.table
  level_over : {j : Job} {ls : List ℕ} → Opens b p st j ls → (LevelsFit j ls → ⊥) → Stops b p st 20 st.table
  short_table : {j : Job} {ls : List ℕ} → Opens b p st j ls → LevelsFit j ls → (words j ≤ length st.table → ⊥) → Stops b p st 11 st.table
  short_list : {j : Job} {ls : List ℕ} → Opens b p st j ls → LevelsFit j ls → words j ≤ length st.table → (HasRoom j st → ⊥) → Stops b p st 12 st.table
  -- 13 leaves its table, and the words behind it
  no_plan : {j : Job} {ls table : List ℕ} → Opens b p st j ls → LevelsFit j ls → words j ≤ length st.table → HasRoom j st → ((q : List Entry) → Admissible j (no_pins (length j.units)) 0 (from j ls) q → ⊥) → IsTable j (unlimited (no_pins (length j.units))) 0 table → drop (words j) table ≡ drop (words j) st.table → length table ≡ length st.table → Stops b p st 13 table

-- one programme after another: all are planned; or one is refused, with its place, counted from 1, and the plans, totals and table before it stay as they are
pub data Run (b : List ℕ) : List Programme → Standing → Played → Type 0 where
  all_planned : {st : Standing} → Run b [] st (record { answer = finished; table = st.table; entries = st.entries; totals = st.totals })
  stopped : {p : Programme} {ps : List Programme} {st : Standing} {n : ℕ} {table : List ℕ} → Stops b p st n table → Run b (p ∷ ps) st (record { answer = refused_at (suc st.done) n; table = table; entries = st.entries; totals = st.totals })
  next : {p : Programme} {ps : List Programme} {st st' : Standing} {r : Played} → PlannedOne b p st st' → Run b ps st' r → Run b (p ∷ ps) st r

-- the bytes of a programme that lies in the slice
pub record PartClaim (b : List ℕ) (p : Programme) : Type 0 where
  pub size : length (part b p) ≡ p.size
  pub bytes : (i : ℕ) → i < p.size → get_or (part b p) i 0 ≡ get_or b (p.first + i) 0

-- a list of 1 to 64 pairs of numbers
pub record IsList (ns : List ℕ) : Type 0 where
  pub paired : length ns ≡ 2 * length (programmes ns)
  pub some_one : 1 ≤ length (programmes ns)
  pub few : length (programmes ns) ≤ 64

-- the programmes that numbers tell: number 2 × i is the first byte of programme i and number 2 × i + 1 its size
pub record ProgrammesClaim (ns : List ℕ) : Type 0 where
  pub first : (i : ℕ) → i + 1 ≤ length (programmes ns) → (get_or (programmes ns) i (record { first = 0; size = 0 })).first ≡ get_or ns (2 * i) 0
  pub size : (i : ℕ) → i + 1 ≤ length (programmes ns) → (get_or (programmes ns) i (record { first = 0; size = 0 })).size ≡ get_or ns (2 * i + 1) 0
  -- there is one for each pair, and a number may be left over
  pub no_more : 2 * length (programmes ns) ≤ length ns
  pub all : length ns ≤ 2 * length (programmes ns) + 1

-- The claims.

abbrev pub Programmes : Type 0
Programmes = (ns : List ℕ) → ProgrammesClaim ns

abbrev pub Parts : Type 0
Parts = (b : List ℕ) (p : Programme) → p.first + p.size ≤ length b → PartClaim b p

-- 21 of the whole list, which leaves everything; else programme after programme
abbrev pub PlaylistCalls : Type 0
PlaylistCalls = (b ns table entries totals : List ℕ) → let r = playlist_call b ns table entries totals in InOrder r (λ n. record { answer = refused_list n; table = table; entries = entries; totals = totals }) (condition 21 (IsList ns) ∷ []) (Run b (programmes ns) (record { done = 0; used = 0; carried = none; table = table; entries = entries; totals = totals }) r)
