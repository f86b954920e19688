-- What is claimed of planning: each claim is a type, which a theorem of proofs/ inhabits. The plans are judged by `Admissible`, which knows neither replay nor search.
use Rattle.std.specs.Prelude.{ℕ, ◌+◌, ◌-◌, ◌*◌, ◌<◌, ◌≤◌, ◌≡◌, ◌↔◌, List, [], ◌∷◌, length, take, drop}
use Rattle.std.proofs.Math.Option.{Option, some}
use Rattle.base.specs.Answer.{refused, gives}
use Rattle.base.specs.Refusals.{condition}
use Rattle.model.specs.Job.{Line, Coding, Levels, Job, Entry, intervals}
use Rattle.model.specs.Pins.{PinMap, Call, Click, no_pins, pins_after, answers, clicks_after, click_answers}
use Rattle.model.specs.Admissible.{Admissible}
use Rattle.model.specs.Replay.{Totals, greatest_distortion, totals}
use Rattle.model.specs.Best.{Order, unlimited, Aim, total, even}
use Rattle.model.specs.Table.{bound, layer_words, words, IsTable}
use Rattle.model.specs.Claims.{BestOf, kept_open}
use Rattle.format.specs.Parser.{took, Looks}
use Rattle.format.specs.JobBytes.{parse, opening, archive}
use Rattle.format.specs.Claims.{Drains}
use Rattle.pinning.specs.PinSet.{PinSet, lines}
use Rattle.pinning.specs.Check.{Matches, checked}
use Rattle.pinning.specs.Calls.{CallsMade, open_call, run, run_clicks}
use Rattle.pinning.specs.Claims.{HistoryClaim}
use Rattle.replaying.specs.Entries.{entry_bytes, plan_from}
use Rattle.planning.specs.Rule.{Allowed, layer_from}
use Rattle.planning.specs.Prices.{priced_by}
use Rattle.planning.specs.Calls.{Planned, refuse, plan_call}

-- of the intervals after s, from the levels `start` there; a whole job is planned from 0 and its starting levels. The list for the entries is that of these intervals
module _ (j : Job) (m : PinMap) (a : Aim) (o : Order) (s : ℕ) (start : Levels) (table entries : List ℕ) where
  -- the entries at exit begin with the bytes of a plan which is the best of the admissible ones by the aim; the answer has its totals, which are sums over the entries written; the rest of the list is as before
  pub record BestWritten (r : Planned) : Type 0 where
    pub plan : List Entry
    pub best : BestOf j s a o (Admissible j m s start) plan
    pub bytes : take (3 * (intervals j - s)) r.entries ≡ entry_bytes plan
    pub read_back : plan_from r.entries 0 (intervals j - s) ≡ plan
    pub totals_are : r.answer ≡ gives (totals j s start plan)
    pub rest : drop (3 * (intervals j - s)) r.entries ≡ drop (3 * (intervals j - s)) entries
    pub size : length r.entries ≡ length entries
    -- the words of the table from layer s on are the least distortions of every state, reached or not; for even pictures of the choices up to the plan's greatest distortion
    pub table_is : IsTable j (kept_open a m (greatest_distortion j s plan)) s r.table

  -- of a job with these pins, from lists that are long enough, whatever stands in them
  pub record PlanClaim (r : Planned) : Type 0 where
    -- 13 exactly where no plan is admissible, whatever the aim; then the entries are as before, and the table is that of all choices which hold the pins
    pub none_iff : (r.answer ≡ refused 13) ↔ ((p : List Entry) → Admissible j m s start p → ⊥)
    pub none_kept : r.answer ≡ refused 13 → r.entries ≡ entries
    pub none_table : r.answer ≡ refused 13 → IsTable j (unlimited m) s r.table
    -- every other answer is a best plan
    pub else_best : (r.answer ≡ refused 13 → ⊥) → BestWritten r
    -- either way the rest of the table's list is as before
    pub table_before : take (s * layer_words j.line) r.table ≡ take (s * layer_words j.line) table
    pub table_rest : drop (words j) r.table ≡ drop (words j) table
    pub table_size : length r.table ≡ length table

-- demand 3 of calls from the set that opening answers, refused ones included, with the book beside it, which gave these answers and has these lines: the set holds what the book holds, and planning then, by either aim and in either order, is as claimed for the book's lines
pub record Demand (b : List ℕ) (j : Job) (n : ℕ) (answers : List (Option ℕ)) (m : PinMap) (r : CallsMade) : Type 0 where
  pub history : HistoryClaim b j n answers m r
  pub planning : (a : Aim) (o : Order) (table entries : List ℕ) → words j ≤ length table → 3 * intervals j ≤ length entries → PlanClaim j m a o 0 j.start table entries (plan_call b r.set a o table entries)

-- a refusal leaves both lists as they came, 13 the table aside
pub record Keeping (table entries : List ℕ) (r : Planned) : Type 0 where
  pub entries_kept : (n : ℕ) → r.answer ≡ refused n → r.entries ≡ entries
  pub table_kept : (n : ℕ) → r.answer ≡ refused n → (n ≡ 13 → ⊥) → r.table ≡ table

-- The claims.

-- demand 3, whole, of every job that opening takes: one claim about every list of clicks, calls by themselves and calls that see, with the planning after it
abbrev pub DemandThree : Type 0
DemandThree = (b : List ℕ) (j : Job) (n : ℕ) → parse opening b ≡ took j n → (clicks : List Click) → Demand b j n (click_answers (words j) j.choices (no_pins (length j.units)) clicks) (clicks_after (words j) j.choices (no_pins (length j.units)) clicks) (run_clicks b (open_call opening b).set clicks)

-- so of every list of pins and lifts, with document 01's book
abbrev pub CallsThree : Type 0
CallsThree = (b : List ℕ) (j : Job) (n : ℕ) → parse opening b ≡ took j n → (calls : List Call) → Demand b j n (answers j.choices (no_pins (length j.units)) calls) (pins_after j.choices (no_pins (length j.units)) calls) (run b (open_call opening b).set calls)

-- demands 1 and 3, of planning with any set: the job, 1 to 5 and 17, then the set, the table and the list for the entries; where nothing of these refuses it, 13 or a best plan
abbrev pub PlanCalls : Type 0
PlanCalls = (b : List ℕ) (s : PinSet) (a : Aim) (o : Order) (table entries : List ℕ) → Looks (plan_call b s a o table entries) (refuse table entries) (parse opening b) (λ j. condition 6 (Matches j s) ∷ condition 11 (words j ≤ length table) ∷ condition 12 (3 * intervals j ≤ length entries) ∷ []) (λ j. PlanClaim j (lines (length j.units) s.pins) a o 0 j.start table entries (plan_call b s a o table entries))

-- document 02, E8: a job that the archive takes and that has a bucket which never drains is refused by 17, whatever the set and the lists
abbrev pub NeverPlanned : Type 0
NeverPlanned = (b : List ℕ) (j : Job) (n : ℕ) → parse archive b ≡ took j n → (Drains opening j → ⊥) → (s : PinSet) (a : Aim) (o : Order) (table entries : List ℕ) → plan_call b s a o table entries ≡ refuse table entries 17

abbrev pub Keeps : Type 0
Keeps = (b : List ℕ) (s : PinSet) (a : Aim) (o : Order) (table entries : List ℕ) → Keeping table entries (plan_call b s a o table entries)

-- document 02, E7: 13 is given in the same cases by either aim
abbrev pub NoPlanAlike : Type 0
NoPlanAlike = (b : List ℕ) (s : PinSet) (o : Order) (table entries : List ℕ) → ((plan_call b s total o table entries).answer ≡ refused 13) ↔ ((plan_call b s even o table entries).answer ≡ refused 13)

-- and whatever the orders and the lists, where these are long enough
abbrev pub NoPlanAnyhow : Type 0
NoPlanAnyhow = (b : List ℕ) (j : Job) (n : ℕ) (s : PinSet) → checked opening b s ≡ took j n → (o o' : Order) (table table' entries entries' : List ℕ) → words j ≤ length table → words j ≤ length table' → 3 * intervals j ≤ length entries → 3 * intervals j ≤ length entries' → ((plan_call b s total o table entries).answer ≡ refused 13) ↔ ((plan_call b s even o' table' entries').answer ≡ refused 13)

-- document 02, E10: which order is named makes no difference to the table, to a refusal, 13 among them, or to the least total
pub record OrderAlike (p q : Planned) : Type 0 where
  pub table_alike : p.table ≡ q.table
  pub refused_alike : (n : ℕ) → p.answer ≡ refused n → q.answer ≡ refused n
  pub total_alike : (t u : Totals) → p.answer ≡ gives t → q.answer ≡ gives u → t.distortion ≡ u.distortion

abbrev pub OrdersAlike : Type 0
OrdersAlike = (b : List ℕ) (s : PinSet) (a : Aim) (o r : Order) (table entries : List ℕ) → OrderAlike (plan_call b s a o table entries) (plan_call b s a r table entries)

-- document 02, E6: a layer from the D + 1 prices of an interval's choices is the layer from all of them, however many they are and however distortions combine, as long as more distortion never comes to less
abbrev pub FewPrices : Type 0
FewPrices = (◌⊕◌ : ℕ → ℕ → ℕ) → ((a b x : ℕ) → a ≤ b → ◌⊕◌ a x ≤ ◌⊕◌ b x) → (line : Line) (n : ℕ) (allowed : Allowed) (next : List ℕ) → ((x : ℕ) (k : Coding) → x < n → allowed x ≡ some k → k.distortion ≤ bound) → layer_from ◌⊕◌ line (line.decoder + 1) (priced_by n allowed) next ≡ layer_from ◌⊕◌ line n allowed next
