-- What is claimed of a change of contract: each claim is a type, which a theorem of proofs/ inhabits. Levels are those of the equations, and plans are judged by `Admissible`; neither knows replay or search.
use Rattle.std.specs.Prelude.{ℕ, ◌+◌, ◌*◌, ◌≤◌, ◌<◌, ◌≡◌, ◌↔◌, List, [], ◌∷◌, ◌++◌, length, get_or, take, drop}
use Rattle.base.specs.Answer.{refused, gives}
use Rattle.base.specs.Refusals.{Condition, condition, InOrder}
use Rattle.model.specs.Job.{bucket_at, Levels, Job, Entry, intervals}
use Rattle.base.specs.Lists.{sum}
use Rattle.model.specs.Levels.{sent, taken, distorted, bucket_levels, unused_drain}
use Rattle.model.specs.Pins.{PinMap, Click, no_pins, clicks_after}
use Rattle.model.specs.Admissible.{AllWithin, Shows, ending, SoundFor, Admissible}
use Rattle.model.specs.Replay.{Totals, totals, plus}
use Rattle.model.specs.Best.{Order, unlimited, total}
use Rattle.model.specs.Table.{layer_words, words, IsTable}
use Rattle.model.specs.Claims.{BestOf}
use Rattle.format.specs.Parser.{took, Looks}
use Rattle.format.specs.JobBytes.{parse, opening}
use Rattle.pinning.specs.PinSet.{PinSet, lines}
use Rattle.pinning.specs.Check.{Matches}
use Rattle.pinning.specs.Calls.{open_call, run_clicks}
use Rattle.replaying.specs.Entries.{entry_bytes, plan_from, plan_of}
use Rattle.replaying.specs.Claims.{InShape}
use Rattle.planning.specs.Calls.{Planned, refuse}
use Rattle.planning.specs.Claims.{Keeping}
use Rattle.changing.specs.NewContract.{Contract, under}
use Rattle.changing.specs.Calls.{change_call}

-- 3 where it does not hold: "1 to 16 new rates, bucket sizes and drains within the known ranges"
pub record Offers (n : ℕ) (c : Contract) : Type 0 where
  pub sizes : length c.sizes ≡ n
  pub drains : length c.drains ≡ n
  pub some_rate : 1 ≤ length c.rates
  pub few_rates : length c.rates ≤ 16
  pub first_size : get_or c.sizes 0 0 ≤ 255
  pub second_size : get_or c.sizes 1 0 ≤ 63
  pub drain : (i : ℕ) → i < n → get_or c.drains i 0 ≤ 4095

-- 17 where it does not hold
abbrev pub Draining : ℕ → Contract → Type 0
Draining n c = (i : ℕ) → i < n → 1 ≤ get_or c.drains i 0

-- 4 where it does not hold
pub record Rising (c : Contract) : Type 0 where
  pub most : (y : ℕ) → y < length c.rates → get_or c.rates y 0 ≤ 4095
  pub rise : (y : ℕ) → y + 1 < length c.rates → get_or c.rates y 0 < get_or c.rates (y + 1) 0

-- the job under the new contract: its rates and, bucket by bucket, its sizes and drains; all else is the old job's
pub record UnderClaim (j : Job) (c : Contract) (k : Job) : Type 0 where
  pub rates : k.line.rates ≡ c.rates
  pub count : length k.line.buckets ≡ length j.line.buckets
  pub size : (i : ℕ) → i < length j.line.buckets → (bucket_at k.line.buckets i).size ≡ get_or c.sizes i 0
  pub drain : (i : ℕ) → i < length j.line.buckets → (bucket_at k.line.buckets i).drain ≡ get_or c.drains i 0
  pub decoder : k.line.decoder ≡ j.line.decoder
  pub delay : k.delay ≡ j.delay
  pub choices : k.choices ≡ j.choices
  pub units : k.units ≡ j.units
  pub start : k.start ≡ j.start

-- what the call asks of a job that the set matches, in order, where m are the set's pins
abbrev pub Asks : Job → PinMap → List ℕ → ℕ → Contract → List ℕ → List ℕ → List Condition
Asks j m old s c table entries =
    condition 14 (InShape j old)
    ∷ condition 3 (Offers (length j.line.buckets) c)
    ∷ condition 17 (Draining (length j.line.buckets) c)
    ∷ condition 4 (Rising c)
    ∷ condition 18 ((1 ≤ s) × (s < intervals j))
    -- none of the intervals up to s has a violation
    ∷ condition 19 (SoundFor j m 0 j.start (plan_of j old) s)
    -- the level of each bucket after interval s, by the old contract, is at most its new size
    ∷ condition 20 (AllWithin (under j c).line.buckets (bucket_levels j 0 (plan_of j old) j.line.buckets j.start.buckets s))
    ∷ condition 11 (words (under j c) ≤ length table)
    ∷ condition 12 (3 * intervals j ≤ length entries)
    ∷ []

-- totals of a whole plan, counted interval by interval: sizes and distortions as the units have them; what is sent, and what each bucket leaves unused, by the old contract for the entries in `first`, from the starting levels, and by the new one for those in `rest`, from the levels `at`
pub record Counted (j : Job) (c : Contract) (at : Levels) (first rest : List Entry) (t : Totals) : Type 0 where
  pub distortion : t.distortion ≡ sum (distorted j 0 (first ++ rest)) (length first + length rest)
  pub source : t.source ≡ sum (taken j 0 (first ++ rest)) (length first + length rest)
  pub channel : t.channel ≡ sum (sent j first) (length first) + sum (sent (under j c) rest) (length rest)
  pub unused_count : length t.unused ≡ length j.line.buckets
  pub unused : (i : ℕ) → i < length j.line.buckets → get_or t.unused i 0 ≡ sum (unused_drain j 0 first (bucket_at j.line.buckets i) (get_or j.start.buckets i 0)) (length first) + sum (unused_drain (under j c) (length first) rest (bucket_at (under j c).line.buckets i) (get_or at.buckets i 0)) (length rest)

module _ (j : Job) (m : PinMap) (old : List ℕ) (s : ℕ) (c : Contract) (o : Order) (table entries : List ℕ) where
  -- from the levels `at` there is a best continuation; all entries are those that remain and, behind them, its own; the totals are the two parts', each by its own contract
  pub record Continued (at : Levels) (r : Planned) : Type 0 where
    pub rest : List Entry
    pub best : BestOf (under j c) s total o (Admissible (under j c) m s at) rest
    pub bytes : take (3 * intervals j) r.entries ≡ take (3 * s) old ++ entry_bytes rest
    pub read_back : plan_from r.entries 0 (intervals j) ≡ take s (plan_of j old) ++ rest
    pub whole : Totals
    pub totals_are : r.answer ≡ gives whole
    pub parts : whole ≡ plus (totals j 0 j.start (take s (plan_of j old))) (totals (under j c) s at rest)
    pub counted : Counted j c at (take s (plan_of j old)) rest whole
    pub entries_rest : drop (3 * intervals j) r.entries ≡ drop (3 * intervals j) entries
    pub size : length r.entries ≡ length entries

  -- where nothing of the above refuses
  pub record ChangeClaim (r : Planned) : Type 0 where
    -- the levels to which the first s entries led, by the equations
    pub at : Levels
    pub at_is : Shows (ending j m 0 j.start (plan_of j old) s) at
    -- 13 exactly where no continuation from there is admissible under the new contract
    pub none_iff : (r.answer ≡ refused 13) ↔ ((p : List Entry) → Admissible (under j c) m s at p → ⊥)
    pub none_kept : r.answer ≡ refused 13 → r.entries ≡ entries
    pub else_best : (r.answer ≡ refused 13 → ⊥) → Continued at r
    -- either way layers s to T hold the new table; earlier ones and the words past it are unchanged
    pub table_is : IsTable (under j c) (unlimited m) s r.table
    pub table_before : take (s * layer_words (under j c).line) r.table ≡ take (s * layer_words (under j c).line) table
    pub table_rest : drop (words (under j c)) r.table ≡ drop (words (under j c)) table
    pub table_size : length r.table ≡ length table

-- The claims.

abbrev pub Unders : Type 0
Unders = (j : Job) (c : Contract) → Offers (length j.line.buckets) c → UnderClaim j c (under j c)

-- of the call with any set: the job, 1 to 5 and 17, then the set, then the conditions above; where nothing of these refuses it, as claimed
abbrev pub ChangeCalls : Type 0
ChangeCalls = (b : List ℕ) (p : PinSet) (old : List ℕ) (s : ℕ) (c : Contract) (o : Order) (table entries : List ℕ) → Looks (change_call b p old s c o table entries) (refuse table entries) (parse opening b) (λ j. condition 6 (Matches j p) ∷ Asks j (lines (length j.units) p.pins) old s c table entries) (λ j. ChangeClaim j (lines (length j.units) p.pins) old s c o table entries (change_call b p old s c o table entries))

-- and after every list of pins and lifts from the set that opening answers, by themselves or such as see, refused ones included: with the pins of the book
abbrev pub ChangesAfter : Type 0
ChangesAfter = (b : List ℕ) (j : Job) (n : ℕ) → parse opening b ≡ took j n → (clicks : List Click) (old : List ℕ) (s : ℕ) (c : Contract) (o : Order) (table entries : List ℕ) → let m = clicks_after (words j) j.choices (no_pins (length j.units)) clicks in let r = change_call b (run_clicks b (open_call opening b).set clicks).set old s c o table entries in InOrder r (refuse table entries) (Asks j m old s c table entries) (ChangeClaim j m old s c o table entries r)

-- a refusal leaves both lists as they came, 13 the table aside
abbrev pub ChangeKeeps : Type 0
ChangeKeeps = (b : List ℕ) (p : PinSet) (old : List ℕ) (s : ℕ) (c : Contract) (o : Order) (table entries : List ℕ) → Keeping table entries (change_call b p old s c o table entries)
