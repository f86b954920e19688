-- What is claimed of the calls that see (document 02, E9): each claim is a type, which a theorem of proofs/ inhabits.
use Rattle.std.specs.Prelude.{ℕ, suc, ◌+◌, ◌*◌, ◌<◌, ◌≤◌, ◌≡◌, ◌⊎◌, List, [], ◌∷◌, ◌++◌, length, get_or, drop}
use Rattle.std.proofs.Math.Option.{Option, none, some}
use Rattle.base.specs.Answer.{Answer, refused, gives}
use Rattle.base.specs.Refusals.{condition}
use Rattle.model.specs.Job.{Line, Coding, Levels, Job, intervals}
use Rattle.model.specs.Pins.{PinMap, Call, sees}
use Rattle.model.specs.Step.{reaches, outcome_of}
use Rattle.model.specs.Best.{Order, unlimited, total, width}
use Rattle.model.specs.Table.{layer_words, state_at, words, word_at, layer_of, word_in}
use Rattle.model.specs.Claims.{WordClaim}
use Rattle.format.specs.Parser.{took, Looks}
use Rattle.format.specs.JobBytes.{parse, opening}
use Rattle.pinning.specs.PinSet.{PinSet, lines}
use Rattle.pinning.specs.Check.{checked}
use Rattle.pinning.specs.Calls.{called, click, run_clicks}
use Rattle.pinning.specs.Claims.{Asks}
use Rattle.planning.specs.Rule.{Allowed, layer_from, allowed_in}
use Rattle.planning.specs.Passes.{charged}
use Rattle.planning.specs.Calls.{plan_call}
use Rattle.planning.specs.See.{Seen, keep, unit_of, see_call, Sight, lent, Sat, sit, clicks_of}

-- the pins of a set, as the book's lines
abbrev pub pins_of : Job → PinSet → PinMap
pins_of j s = lines (length j.units) s.pins

-- a call that is taken, for unit u, and any table: the set is the one that the call leaves; each of the layers 0 to u + d - 1 follows from the next by the rule, with the new pins; later layers and the words past the table are as they were; the answer is the word of layer 0 at the starting levels
pub record SeeClaim (j : Job) (s : PinSet) (k : Call) (table : List ℕ) (r : Seen) : Type 0 where
  pub set_is : r.set ≡ called j s k
  pub rule : (t : ℕ) → t < unit_of k + j.delay → layer_of j.line r.table t ≡ layer_from ◌+◌ j.line (width j (suc t)) (allowed_in j (unlimited (pins_of j r.set)) (suc t)) (layer_of j.line r.table (suc t))
  pub later : drop ((unit_of k + j.delay) * layer_words j.line) r.table ≡ drop ((unit_of k + j.delay) * layer_words j.line) table
  pub size : length r.table ≡ length table
  pub word : r.answer ≡ gives (word_at j r.table 0 j.start)

-- the list is the table that planning makes for a set, the total named: planning over it leaves it as it is
abbrev pub Own : List ℕ → Job → PinSet → List ℕ → Type 0
Own b j s table = (o : Order) (entries : List ℕ) → 3 * intervals j ≤ length entries → (plan_call b s total o table entries).table ≡ table

-- a number that refused a call, or none
unfoldable pub refused_by : {A : Type 0} → Answer A → Option ℕ
refused_by (refused n) = some n
refused_by (gives a) = none

-- a sitting that began with a table of the set s: the set is that of the same clicks, of which `History` speaks; the table is the one that planning makes for it over the list as it was; and its word of layer 0 at the starting levels is the least total, or the mark exactly where no plan holds the pins
pub record SittingClaim (b : List ℕ) (j : Job) (s : PinSet) (table : List ℕ) (sights : List Sight) (r : Sat) : Type 0 where
  pub set_is : r.set ≡ (run_clicks b s (clicks_of (length table) sights)).set
  pub table_is : (o : Order) (entries : List ℕ) → 3 * intervals j ≤ length entries → r.table ≡ (plan_call b r.set total o table entries).table
  pub own : Own b j r.set r.table
  pub word : WordClaim j (unlimited (pins_of j r.set)) 0 j.start (word_at j r.table 0 j.start)

-- The claims.

-- demand 1: the job, 1 to 5 and 17, then what a pin or a lift asks, then the table; where nothing refuses it, the call is taken
abbrev pub SeeCalls : Type 0
SeeCalls = (b : List ℕ) (s : PinSet) (k : Call) (table : List ℕ) → Looks (see_call b s k table) (keep s table) (parse opening b) (λ j. Asks j s k ++ (condition 11 (words j ≤ length table) ∷ [])) (λ j. SeeClaim j s k table (see_call b s k table))

-- of the set, a call that sees does what the click does of which `History` speaks
abbrev pub SeeClicks : Type 0
SeeClicks = (b : List ℕ) (s : PinSet) (k : Call) (table : List ℕ) → ((see_call b s k table).set ≡ (click b s (sees k (length table))).set) × (refused_by (see_call b s k table).answer ≡ (click b s (sees k (length table))).refused)

-- a refusal, whatever its number, hands back the set as it came and leaves every word
abbrev pub SeeKeeps : Type 0
SeeKeeps = (b : List ℕ) (s : PinSet) (k : Call) (table : List ℕ) (n : ℕ) → (see_call b s k table).answer ≡ refused n → ((see_call b s k table).set ≡ s) × ((see_call b s k table).table ≡ table)

-- the rule, for whatever words stand in the next layer: no rate and choice come to less than a state's word, by a word of at most 512,000,000 that they lead to; and one comes to it, or it is 4,294,967,295
pub record RuleWord (line : Line) (n : ℕ) (allowed : Allowed) (next : List ℕ) (s : Levels) (w : ℕ) : Type 0 where
  pub no_less : (y x : ℕ) (k : Coding) (l : Levels) → y < length line.rates → x < n → allowed x ≡ some k → outcome_of line none none s.decoder s.buckets (get_or line.rates y 0) k.size ≡ reaches l → word_in line next l ≤ 512000000 → w ≤ k.distortion + word_in line next l
  pub attained : (w ≡ 4294967295) ⊎ ((y : ℕ) × (x : ℕ) × (k : Coding) × (l : Levels) × (y < length line.rates) × (x < n) × (allowed x ≡ some k) × (outcome_of line none none s.decoder s.buckets (get_or line.rates y 0) k.size ≡ reaches l) × (word_in line next l ≤ 512000000) × (w ≡ k.distortion + word_in line next l))

abbrev pub RuleWords : Type 0
RuleWords = (line : Line) (n : ℕ) (allowed : Allowed) (next : List ℕ) (i : ℕ) → i < layer_words line → RuleWord line n allowed next (state_at line i) (get_or (layer_from ◌+◌ line n allowed next) i 0)

-- how code reads a word of the next layer: one over 512,000,000 counts as none, every other as a distortion
pub record WordRead (distortion word : ℕ) : Type 0 where
  pub over : 512000000 < word → charged ◌+◌ distortion word ≡ 4294967295
  pub up_to : word ≤ 512000000 → charged ◌+◌ distortion word ≡ distortion + word

abbrev pub WordsRead : Type 0
WordsRead = (distortion word : ℕ) → distortion ≤ 1000000 → WordRead distortion word

-- the table that planning leaves, the total named, is the set's own
abbrev pub PlansOwn : Type 0
PlansOwn = (b : List ℕ) (j : Job) (n : ℕ) (s : PinSet) → checked opening b s ≡ took j n → (o : Order) (table entries : List ℕ) → words j ≤ length table → 3 * intervals j ≤ length entries → Own b j s (plan_call b s total o table entries).table

-- what is held back is not lent, and all else is
abbrev pub Lends : Type 0
Lends = (v : Sight) (table : List ℕ) → v.held_back ≤ length table → lent v table + v.held_back ≡ length table

-- every sitting, refused calls included, of any set that the job takes and a table of its own: the calls end in the table and the least total of planning with the set
abbrev pub Sittings : Type 0
Sittings = (b : List ℕ) (j : Job) (n : ℕ) (s : PinSet) → checked opening b s ≡ took j n → length s.pins ≡ 512 → (table : List ℕ) → words j ≤ length table → Own b j s table → (sights : List Sight) → SittingClaim b j s table sights (sit b (record { set = s; table = table }) sights)

-- so a sitting ends in the set and the table of any set of the job with the same pins, a fresh one that was pinned so among them: planning with it, over the list as it was, leaves that table
abbrev pub FreshSittings : Type 0
FreshSittings = (b : List ℕ) (j : Job) (n : ℕ) (s : PinSet) → checked opening b s ≡ took j n → length s.pins ≡ 512 → (table : List ℕ) → words j ≤ length table → Own b j s table → (sights : List Sight) (r : PinSet) → checked opening b r ≡ took j n → length r.pins ≡ 512 → pins_of j r ≡ pins_of j (sit b (record { set = s; table = table }) sights).set → (o : Order) (entries : List ℕ) → 3 * intervals j ≤ length entries → sit b (record { set = s; table = table }) sights ≡ record { set = r; table = (plan_call b r total o table entries).table }
