-- What is claimed of plans as bytes, of replay and of the report: each claim is a type, which a theorem of proofs/ inhabits.
use Rattle.std.specs.Prelude.{ℕ, suc, ◌+◌, ◌*◌, ◌-◌, ◌<◌, ◌≤◌, ◌≡◌, ◌↔◌, true, List, [], ◌∷◌, length, get_or, take, drop, pos}
use Rattle.std.proofs.Math.Option.{none, some}
use Rattle.base.specs.Answer.{gives}
use Rattle.base.specs.Refusals.{condition}
use Rattle.model.specs.Job.{bucket_at, Job, Entry, intervals, PlanFits}
use Rattle.model.specs.Levels.{entry_of, decoder_level, bucket_level, effective_buffer}
use Rattle.model.specs.Pins.{PinMap, no_pins}
use Rattle.model.specs.Admissible.{Violation, Admissible, FirstViolation}
use Rattle.model.specs.Replay.{Totals, totals, clean, replay}
use Rattle.format.specs.Parser.{took, Looks}
use Rattle.format.specs.JobBytes.{header_in, parse, archive}
use Rattle.pinning.specs.PinSet.{PinSet, lines}
use Rattle.pinning.specs.Check.{Matches}
use Rattle.pinning.specs.Calls.{open_call}
use Rattle.replaying.specs.Entries.{plan_of, shaped, entry_bytes}
use Rattle.replaying.specs.Former.{turn_call}
use Rattle.base.specs.Lent.{Ended, refuse, Keeping}
use Rattle.replaying.specs.Calls.{Replayed, totals_are, violated, flat, level_count, replay_call, report_call}

-- the bytes are a plan of the job in shape: T entries of so many bytes, each in range (14 where they are not)
pub record InShape (j : Job) (entries : List ℕ) : Type 0 where
  pub size : length entries ≡ 3 * intervals j
  pub fits : PlanFits j 0 (plan_of j entries)

-- the bytes of an entry: a rate byte, then the choice, its lower byte first; 65,535 stands for no unit (document 02, E6)
pub record Reads (j : Job) (entries : List ℕ) (p : List Entry) : Type 0 where
  pub count : length p ≡ intervals j
  pub rate : (i : ℕ) → i < intervals j → (entry_of p (suc i)).rate ≡ get_or entries (3 * i) 0
  pub no_unit : (i : ℕ) → i < intervals j → get_or entries (3 * i + 1) 0 + 256 * get_or entries (3 * i + 2) 0 ≡ 65535 → (entry_of p (suc i)).choice ≡ none
  pub unit : (i : ℕ) → i < intervals j → (get_or entries (3 * i + 1) 0 + 256 * get_or entries (3 * i + 2) 0 ≡ 65535 → ⊥) → (entry_of p (suc i)).choice ≡ some (get_or entries (3 * i + 1) 0 + 256 * get_or entries (3 * i + 2) 0)

-- the shape check passes exactly the bytes of the plans in shape
pub record Shapes (j : Job) : Type 0 where
  pub shaped_iff : (b : List ℕ) → (shaped (header_in j) b ≡ true) ↔ InShape j b
  pub read : (b : List ℕ) → InShape j b → Reads j b (plan_of j b)
  -- every plan in shape has its bytes
  pub written : (p : List Entry) → PlanFits j 0 p → (shaped (header_in j) (entry_bytes p) ≡ true) × (plan_of j (entry_bytes p) ≡ p)

-- demand 2 and E3's balance, of a plan in shape and a list that is long enough: m are the set's pins, p is the plan and r what the call answers and leaves
module _ (j : Job) (m : PinMap) (p : List Entry) (levels : List ℕ) where
  -- how many numbers an interval has: the decoder's level, then each bucket's
  abbrev pub each : ℕ
  each = 1 + length j.line.buckets

  -- the levels of the first n intervals stand in the list, those of (16) and of Example 1 (17), and the rest of it is as before
  pub record Written (n : ℕ) (list : List ℕ) : Type 0 where
    pub decoder : (i : ℕ) → i < n → pos (get_or list (each * i) 0) ≡ decoder_level j 0 p j.start.decoder (suc i)
    pub bucket : (i k : ℕ) → i < n → k < length j.line.buckets → get_or list (each * i + suc k) 0 ≡ bucket_level j 0 p (bucket_at j.line.buckets k) (get_or j.start.buckets k 0) (suc i)
    pub rest : drop (each * n) list ≡ drop (each * n) levels
    pub size : length list ≡ length levels

  pub record DemandTwo (r : Ended Replayed) : Type 0 where
    -- no violation is found exactly where the plan is admissible; then every level is written and the answer has the totals
    pub clean_iff : (r.answer ≡ gives (totals_are (totals j 0 j.start p))) ↔ Admissible j m 0 j.start p
    pub clean_written : r.answer ≡ gives (totals_are (totals j 0 j.start p)) → Written (intervals j) r.list
    -- a violation is named exactly where it is the first; then the levels of the intervals before it are written
    pub violated_iff : (n : ℕ) (v : Violation) → (r.answer ≡ gives (violated (suc n) v)) ↔ FirstViolation j m 0 j.start p n v
    pub violated_written : (n : ℕ) (v : Violation) → r.answer ≡ gives (violated (suc n) v) → Written n r.list
    -- document 02, E3: where totals are given, of each bucket starting level + channel total + unused total = T × drain + last level, which stands among the last numbers written
    pub balance : (t : Totals) (k : ℕ) → r.answer ≡ gives (totals_are t) → k < length j.line.buckets → get_or j.start.buckets k 0 + t.channel + get_or t.unused k 0 ≡ intervals j * (bucket_at j.line.buckets k).drain + get_or r.list (each * (intervals j - 1) + suc k) 0

-- how many numbers a job's levels are, with any number of buckets: T for the decoder and T for each bucket; and a replay without a violation has as many
pub record LevelsClaim (j : Job) : Type 0 where
  pub count : level_count j ≡ (1 + length j.line.buckets) * (length j.units + j.delay)
  pub all_of_them : (m : PinMap) (p : List Entry) → PlanFits j 0 p → length j.start.buckets ≡ length j.line.buckets → (replay j m 0 j.start p).result ≡ clean → length (flat (replay j m 0 j.start p).levels) ≡ level_count j

-- (6) for i from 0 to N, and the rest of the list as before
pub record Reported (j : Job) (p : List Entry) (sums : List ℕ) (r : Ended (Unit {0})) : Type 0 where
  pub given : r.answer ≡ gives tt
  pub sum : (i : ℕ) → i ≤ length j.units → get_or r.list i 0 ≡ effective_buffer j p i
  pub rest : drop (suc (length j.units)) r.list ≡ drop (suc (length j.units)) sums
  pub size : length r.list ≡ length sums

-- document 02, E6: the bytes were a plan of the job when an entry had two, a rate and a choice, and 255 stood for no unit
pub record WasPlan (j : Job) (old : List ℕ) : Type 0 where
  pub few : j.choices ≤ 31
  pub size : length old ≡ 2 * intervals j
  pub rate : (i : ℕ) → i < intervals j → get_or old (2 * i) 0 < length j.line.rates
  pub early : (i : ℕ) → i < j.delay → get_or old (2 * i + 1) 0 ≡ 255
  pub late : (i : ℕ) → j.delay ≤ i → i < intervals j → get_or old (2 * i + 1) 0 < j.choices

-- and p is the plan that they were: rates and choices kept, 255 read as no unit
pub record Was (j : Job) (old : List ℕ) (p : List Entry) : Type 0 where
  pub count : length p ≡ intervals j
  pub rate : (i : ℕ) → i < intervals j → (entry_of p (suc i)).rate ≡ get_or old (2 * i) 0
  pub no_unit : (i : ℕ) → i < intervals j → get_or old (2 * i + 1) 0 ≡ 255 → (entry_of p (suc i)).choice ≡ none
  pub unit : (i : ℕ) → i < intervals j → (get_or old (2 * i + 1) 0 ≡ 255 → ⊥) → (entry_of p (suc i)).choice ≡ some (get_or old (2 * i + 1) 0)

-- that plan, in the entries of today: they are in shape, and stand over the first bytes of the list
pub record Turned (j : Job) (old entries : List ℕ) (r : Ended (Unit {0})) : Type 0 where
  pub given : r.answer ≡ gives tt
  pub shape : InShape j (take (3 * intervals j) r.list)
  pub plan : Was j old (plan_of j (take (3 * intervals j) r.list))
  pub rest : drop (3 * intervals j) r.list ≡ drop (3 * intervals j) entries
  pub size : length r.list ≡ length entries

-- The claims, of jobs that the archive takes, and so of those that open.

abbrev pub PlanBytes : Type 0
PlanBytes = (b : List ℕ) (j : Job) (n : ℕ) → parse archive b ≡ took j n → Shapes j

abbrev pub LevelNumbers : Type 0
LevelNumbers = (j : Job) → LevelsClaim j

-- demands 1 and 2, of replay, of every job that the archive takes: the job, 1 to 5, then the set, the plan, and room for T numbers of the decoder and T of each bucket; where nothing refuses it, it is as demand 2 says
abbrev pub ReplayCalls : Type 0
ReplayCalls = (b : List ℕ) (s : PinSet) (entries levels : List ℕ) → Looks (replay_call b s entries levels) (refuse levels) (parse archive b) (λ j. condition 6 (Matches j s) ∷ condition 14 (InShape j entries) ∷ condition 12 ((1 + length j.line.buckets) * intervals j ≤ length levels) ∷ []) (λ j. DemandTwo j (lines (length j.units) s.pins) (plan_of j entries) levels (replay_call b s entries levels))

-- document 02, E8: the archive's set serves replay, without a pin
abbrev pub ArchiveReplays : Type 0
ArchiveReplays = (b : List ℕ) (j : Job) (n : ℕ) → parse archive b ≡ took j n → (entries levels : List ℕ) → InShape j entries → (1 + length j.line.buckets) * intervals j ≤ length levels → DemandTwo j (no_pins (length j.units)) (plan_of j entries) levels (replay_call b (open_call archive b).set entries levels)

-- demand 1, of the report, and what it writes
abbrev pub Reports : Type 0
Reports = (b entries sums : List ℕ) → Looks (report_call b entries sums) (refuse sums) (parse archive b) (λ j. condition 14 (InShape j entries) ∷ condition 12 (length j.units + 1 ≤ length sums) ∷ []) (λ j. Reported j (plan_of j entries) sums (report_call b entries sums))

-- demand 1, of turning an old plan, and what it writes
abbrev pub Turns : Type 0
Turns = (b old entries : List ℕ) → Looks (turn_call b old entries) (refuse entries) (parse archive b) (λ j. condition 14 (WasPlan j old) ∷ condition 12 (3 * intervals j ≤ length entries) ∷ []) (λ j. Turned j old entries (turn_call b old entries))

-- with every set of pins the turned plan replays as the plan that the old bytes were: to its levels, its totals, its first violation
abbrev pub TurnedReplays : Type 0
TurnedReplays = (b old entries : List ℕ) (j : Job) (n : ℕ) → parse archive b ≡ took j n → WasPlan j old → 3 * intervals j ≤ length entries → (p : List Entry) → Was j old p → (s : PinSet) (levels : List ℕ) → Matches j s → (1 + length j.line.buckets) * intervals j ≤ length levels → DemandTwo j (lines (length j.units) s.pins) p levels (replay_call b s (take (3 * intervals j) (turn_call b old entries).list) levels)

-- a refusal leaves the list as it came
abbrev pub Keeps : Type 0
Keeps = (b : List ℕ) (s : PinSet) (entries list : List ℕ) → Keeping list (replay_call b s entries list) × Keeping list (report_call b entries list) × Keeping list (turn_call b entries list)
