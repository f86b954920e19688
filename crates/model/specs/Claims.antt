-- What is claimed of the definitions: each claim is a type, which a theorem of proofs/ inhabits. `Admissible` knows neither replay nor search.
-- A plan here is the entries of the intervals after interval s, from the levels `start` there; s is 0 for a whole job.
use Rattle.std.specs.Prelude.{ℕ, suc, ◌+◌, ◌*◌, ◌-◌, ◌<◌, ◌≤◌, ◌≡◌, ◌↔◌, ◌⊎◌, List, [], ◌∷◌, length, get_or, pos, ◌+ℤ◌, ◌≤ℤ◌}
use Rattle.std.proofs.Math.Option.{none, some}
use Rattle.trellis.specs.Table.{first_at, marked_offer}
use Rattle.trellis.specs.Trellis.{NoLater}
use Rattle.trellis.specs.Limit.{UpTo}
use Rattle.model.specs.Job.{Bucket, Line, bucket_at, nothing, Levels, Job, on_line, Entry, distorts, intervals, EntryFits, PlanFits}
use Rattle.model.specs.Levels.{entry_of, sent, taken, distorted, decoder_level, bucket_level, unused_drain, sent_after, effective_buffer, units_taken}
use Rattle.base.specs.Lists.{sum}
use Rattle.model.specs.Pins.{PinMap}
use Rattle.model.specs.Admissible.{Violation, decoder_overflow, decoder_underflow, breaks, holds, AllWithin, Verified, ending, SoundFor, Admissible, FirstViolation, LevelsOf}
use Rattle.model.specs.Step.{decoder_step, bucket_step, reaches, outcome}
use Rattle.model.specs.Replay.{total_distortion, greatest_distortion, totals, Replay, clean, stopped, replay, last_levels}
use Rattle.model.specs.Best.{Order, Before, Open, unlimited, Aim, total, even, entries, trellis_of, least_total, least_greatest, best_plan, open_for}
use Rattle.model.specs.Table.{mark, bound, InLayer, words, word_at, IsTable, FollowsRule, Bounded}

-- p is no worse than q by an aim: its total is no more; for even pictures, its greatest distortion is less, or they are as great and its total is no more
abbrev pub NoWorse : Aim → Job → ℕ → List Entry → List Entry → Type 0
NoWorse total j s p q = total_distortion j s p ≤ total_distortion j s q
NoWorse even j s p q = (greatest_distortion j s p < greatest_distortion j s q) ⊎ ((greatest_distortion j s p ≡ greatest_distortion j s q) × (total_distortion j s p ≤ total_distortion j s q))

-- of the plans in a set, p is the best by an aim: none is better, and of those that are no worse none comes before it
pub record BestOf (j : Job) (s : ℕ) (a : Aim) (o : Order) (Among : List Entry → Type 0) (p : List Entry) : Type 0 where
  pub among : Among p
  pub least_of_all : (q : List Entry) → Among q → NoWorse a j s p q
  pub first_of_these : (q : List Entry) → Among q → NoWorse a j s q p → NoLater (Before o) p q

-- g is the greatest distortion of a unit in a plan: no interval of it has more, and one has so much; a plan for no interval has 0
pub record GreatestClaim (j : Job) (s : ℕ) (p : List Entry) (g : ℕ) : Type 0 where
  pub no_more : (n : ℕ) → n < length p → distorted j s p (suc n) ≤ g
  pub attained : 0 < length p → (n : ℕ) × (n < length p) × (distorted j s p (suc n) ≡ g)
  pub empty : length p ≡ 0 → g ≡ 0

-- the decoder's step in natural numbers, from the level b where c is sent and r decoded: over before short, and else what is left after the unit
pub record DecoderClaim (size b c r : ℕ) : Type 0 where
  pub over_iff : (decoder_step size b c r ≡ breaks decoder_overflow) ↔ (size < b + c)
  pub short_iff : (decoder_step size b c r ≡ breaks decoder_underflow) ↔ ((b + c ≤ size) × (b + c < r))
  pub holds_iff : (d : ℕ) → (decoder_step size b c r ≡ holds d) ↔ ((b + c ≤ size) × (d + r ≡ b + c))

-- a bucket's step, from the level l where c is sent. The two parts leave one answer for the level and one for what goes unused
pub record BucketClaim (drain l c : ℕ) : Type 0 where
  -- what was held, what came in and what went unused are the drain and what is held now
  pub balance : l + c + (bucket_step drain l c).unused ≡ drain + (bucket_step drain l c).level
  -- drain goes unused only where the bucket is left empty
  pub either : ((bucket_step drain l c).level ≡ 0) ⊎ ((bucket_step drain l c).unused ≡ 0)

-- from one effective buffer size to the next: C(i + d + 1) arrives and C(i + 1), which is in the sum, leaves
pub record RunningClaim (j : Job) (p : List Entry) (i : ℕ) : Type 0 where
  pub leaves : sent j p (i + 1) ≤ effective_buffer j p i + sent j p (i + j.delay + 1)
  pub next : effective_buffer j p (i + 1) ≡ (effective_buffer j p i + sent j p (i + j.delay + 1)) - sent j p (i + 1)

-- of each bucket, and a replay r of the plan p without a violation: starting level + channel total + unused total = intervals × drain + last level
pub record BalanceClaim (j : Job) (s : ℕ) (start : Levels) (p : List Entry) (r : Replay) : Type 0 where
  pub balance : (i : ℕ) → i < length j.line.buckets → get_or start.buckets i 0 + (totals j s start p).channel + get_or (totals j s start p).unused i 0 ≡ length p * (bucket_at j.line.buckets i).drain + get_or (last_levels start r.levels).buckets i 0

-- the choices of which a table is left, after a plan whose greatest distortion is g: all that hold the pins; for even pictures none above g
unfoldable pub kept_open : Aim → PinMap → ℕ → Open
kept_open total m g = unlimited m
kept_open even m g = record { pins = m; limit = some g }

module _ (j : Job) (m : PinMap) (s : ℕ) (start : Levels) where
  -- r is the replay of p: the levels that it writes are those of (16) and (17)
  pub record ReplayClaim (p : List Entry) (r : Replay) : Type 0 where
    pub levels : LevelsOf j m s start p r.levels
    -- it is clean exactly where every limit is kept and every pin held, and then it has written every interval's levels
    pub clean_iff : (r.result ≡ clean) ↔ SoundFor j m s start p (length p)
    pub clean_whole : r.result ≡ clean → length r.levels ≡ length p
    -- of the plans in shape, it is clean exactly for the admissible ones
    pub admissible_iff : PlanFits j s p → (r.result ≡ clean) ↔ Admissible j m s start p
    -- it stops and names an interval and a violation exactly where these are the first, and has written the levels of the intervals before
    pub stopped_iff : (n : ℕ) (v : Violation) → (r.result ≡ stopped (s + suc n) v) ↔ FirstViolation j m s start p n v
    pub stopped_after : (t : ℕ) (v : Violation) → r.result ≡ stopped t v → t ≡ s + suc (length r.levels)

  -- the least greatest distortion is none exactly where no plan is admissible; else an admissible plan has it, and none has less
  pub record EvennessClaim : Type 0 where
    pub none_iff : (least_greatest j m s start ≡ none) ↔ ((p : List Entry) → Admissible j m s start p → ⊥)
    pub attained : (g : ℕ) → least_greatest j m s start ≡ some g → (p : List Entry) × Admissible j m s start p × (greatest_distortion j s p ≡ g)
    pub no_less : (g : ℕ) → least_greatest j m s start ≡ some g → (p : List Entry) → Admissible j m s start p → g ≤ greatest_distortion j s p

  -- by an aim, with the choices k that it leaves open: no plan is found exactly where none is admissible, and then nothing was left out; else the plan is the best of the admissible ones by that aim, and what was left out is what is above its own greatest distortion
  pub record AimClaim (a : Aim) (o : Order) (k : Open) : Type 0 where
    pub none_iff : (least_total j k s start ≡ none) ↔ ((p : List Entry) → Admissible j m s start p → ⊥)
    pub none_open : least_total j k s start ≡ none → k ≡ unlimited m
    pub best_is : (v : ℕ) → least_total j k s start ≡ some v → BestOf j s a o (Admissible j m s start) (best_plan j k s start o)
    pub best_open : (v : ℕ) → least_total j k s start ≡ some v → k ≡ kept_open a m (greatest_distortion j s (best_plan j k s start o))
    pub its_distortion : (v : ℕ) → least_total j k s start ≡ some v → total_distortion j s (best_plan j k s start o) ≡ v

-- with the choices k open
module _ (j : Job) (k : Open) (s : ℕ) (start : Levels) where
  -- a plan that is admissible with these pins, and no unit of which is above the limit, if there is one
  pub record Permits (p : List Entry) : Type 0 where
    pub admissible : Admissible j k.pins s start p
    pub up_to : UpTo k.limit (greatest_distortion j s p)

  -- the least total is none exactly where there is no such plan; else it is the distortion of `best_plan`, which is the best of them
  pub record PlanningClaim (o : Order) : Type 0 where
    pub none_iff : (least_total j k s start ≡ none) ↔ ((p : List Entry) → Permits p → ⊥)
    pub best_is : (v : ℕ) → least_total j k s start ≡ some v → BestOf j s total o Permits (best_plan j k s start o)
    pub its_distortion : (v : ℕ) → least_total j k s start ≡ some v → total_distortion j s (best_plan j k s start o) ≡ v

-- w is the word of the levels s after interval t, with the choices k open: 4,294,967,295 exactly where no such plan completes the job from there; else such a plan has so much distortion, and none has less
pub record WordClaim (j : Job) (k : Open) (t : ℕ) (s : Levels) (w : ℕ) : Type 0 where
  pub none_iff : (w ≡ 4294967295) ↔ ((p : List Entry) → Permits j k t s p → ⊥)
  pub attained : (w ≡ 4294967295 → ⊥) → (p : List Entry) × Permits j k t s p × (total_distortion j t p ≡ w)
  pub no_less : (p : List Entry) → Permits j k t s p → w ≤ total_distortion j t p

-- what an interval of a plan p for a whole job sends and which unit it decodes: interval u + d decodes unit u, units counted from 1
pub record UnitsClaim (j : Job) (p : List Entry) : Type 0 where
  -- in shape, it makes a choice for every unit
  pub decodes : PlanFits j 0 p → (u : ℕ) → 1 ≤ u → u ≤ length j.units → (c : ℕ) × (c < j.choices) × ((entry_of p (u + j.delay)).choice ≡ some c)
  -- C is the rate that the entry names
  pub sends : (n : ℕ) → sent j p (suc n) ≡ get_or j.line.rates (entry_of p (suc n)).rate 0
  -- R and the distortion are those of unit u as the choice codes it
  pub takes : (u c : ℕ) → 1 ≤ u → (entry_of p (u + j.delay)).choice ≡ some c → taken j 0 p (u + j.delay) ≡ (get_or (get_or j.units (u - 1) []) c nothing).size
  pub distorts : (u c : ℕ) → 1 ≤ u → (entry_of p (u + j.delay)).choice ≡ some c → distorted j 0 p (u + j.delay) ≡ (get_or (get_or j.units (u - 1) []) c nothing).distortion
  -- and both are 0 up to interval d
  pub waits : PlanFits j 0 p → (t : ℕ) → t ≤ j.delay → (taken j 0 p t ≡ 0) × (distorted j 0 p t ≡ 0)

-- a job over another line: the line is that one, all else is the job's
pub record OverClaim (j : Job) (l : Line) (k : Job) : Type 0 where
  pub line : k.line ≡ l
  pub delay : k.delay ≡ j.delay
  pub start : k.start ≡ j.start
  pub choices : k.choices ≡ j.choices
  pub units : k.units ≡ j.units

-- what makes a plan for a whole job admissible, by unit: it is in shape, no interval violates a limit of decoder or bucket, and every pinned unit u has its pinned choice, in the entry of interval u + d
pub record PinnedClaim (j : Job) (m : PinMap) (start : Levels) (p : List Entry) : Type 0 where
  pub shaped : PlanFits j 0 p
  pub decoder : (n : ℕ) → n < length p → Verified j.line (ending j m 0 start p (suc n))
  pub buckets : (n : ℕ) → n < length p → AllWithin j.line.buckets (ending j m 0 start p (suc n)).buckets
  pub pins : (u c : ℕ) → 1 ≤ u → u ≤ length j.units → get_or m (u - 1) none ≡ some c → (entry_of p (u + j.delay)).choice ≡ some c

-- a plan is read off the table: its first entry is the first that offers the state's word v by way of the next layer, and the rest is the best plan from the levels which that entry reaches
pub record ReadOffClaim (j : Job) (k : Open) (o : Order) (table : List ℕ) (t : ℕ) (s : Levels) (v : ℕ) : Type 0 where
  pub entry : Entry
  pub end : Levels
  pub first : first_at (marked_offer (trellis_of j k o) ◌+◌ mark bound t (word_at j table (suc t)) s) v (entries o j (suc t)) ≡ some entry
  pub up_to : UpTo k.limit (distorts j (suc t) entry)
  pub reached : outcome j k.pins (suc t) s entry ≡ reaches end
  pub adds : (w : ℕ) × (least_total j k (suc t) end ≡ some w) × (distorts j (suc t) entry + w ≡ v)
  pub rest : best_plan j k t s o ≡ entry ∷ best_plan j k (suc t) end o

-- how many words the table has and where a state's word stands, with one bucket, as document 01 writes it
pub record OneBucket (j : Job) (k : Bucket) : Type 0 where
  pub count : words j ≡ (intervals j + 1) * (j.line.decoder + 1) * (k.size + 1)
  pub word : (table : List ℕ) (t b l : ℕ) → word_at j table t (record { decoder = b; buckets = l ∷ [] }) ≡ get_or table ((t * (j.line.decoder + 1) + b) * (k.size + 1) + l) 0

-- and with two, as document 02, E5, does: the second level innermost
pub record TwoBuckets (j : Job) (k k2 : Bucket) : Type 0 where
  pub count : words j ≡ (intervals j + 1) * (j.line.decoder + 1) * (k.size + 1) * (k2.size + 1)
  pub word : (table : List ℕ) (t b l l2 : ℕ) → word_at j table t (record { decoder = b; buckets = l ∷ l2 ∷ [] }) ≡ get_or table (((t * (j.line.decoder + 1) + b) * (k.size + 1) + l) * (k2.size + 1) + l2) 0

-- The claims.

-- demand 2
abbrev pub DemandTwo : Type 0
DemandTwo = (j : Job) (m : PinMap) (s : ℕ) (start : Levels) (p : List Entry) → ReplayClaim j m s start p (replay j m s start p)

-- a plan's first entry and the rest: the plan is admissible exactly where the entry is in range, its interval reaches levels without a violation, and the rest is admissible from these
abbrev pub Splits : Type 0
Splits = (j : Job) (m : PinMap) (s : ℕ) (start : Levels) (e : Entry) (p : List Entry) → Admissible j m s start (e ∷ p) ↔ (EntryFits j (suc s) e × ((l : Levels) × (outcome j m (suc s) start e ≡ reaches l) × Admissible j m (suc s) l p))

-- and a plan of no entry is admissible exactly after the last interval
abbrev pub PlansEnd : Type 0
PlansEnd = (j : Job) (m : PinMap) (s : ℕ) (start : Levels) → Admissible j m s start [] ↔ (s ≡ intervals j)

-- what an interval sends, which unit it decodes, and which pin bears on it
abbrev pub Units : Type 0
Units = (j : Job) (p : List Entry) → UnitsClaim j p

abbrev pub PinnedUnits : Type 0
PinnedUnits = (j : Job) (m : PinMap) (start : Levels) (p : List Entry) → Admissible j m 0 start p ↔ PinnedClaim j m start p

-- a job over another line (document 02, E12 and E13)
abbrev pub OverLine : Type 0
OverLine = (j : Job) (l : Line) → OverClaim j l (on_line j l)

-- E2, of a plan: in an interval the decoder keeps its limits exactly where B(n) + C(n + 1) is at most D and B(n + 1) at least 0
abbrev pub DecoderRange : Type 0
DecoderRange = (j : Job) (m : PinMap) (s : ℕ) (start : Levels) (p : List Entry) (n : ℕ) → Verified j.line (ending j m s start p (suc n)) ↔ (((decoder_level j s p start.decoder n +ℤ pos (sent j p (suc n))) ≤ℤ pos j.line.decoder) × (pos 0 ≤ℤ decoder_level j s p start.decoder (suc n)))

-- E2, of a step
abbrev pub DecoderSteps : Type 0
DecoderSteps = (size b c r : ℕ) → DecoderClaim size b c r

-- E3, of a step
abbrev pub BucketSteps : Type 0
BucketSteps = (drain l c : ℕ) → BucketClaim drain l c

-- E3, of any bucket and any plan, after n intervals: l + C(1) + ... + C(n) + what goes unused = n × drain + L(n)
abbrev pub DrainBalance : Type 0
DrainBalance = (j : Job) (s : ℕ) (p : List Entry) (k : Bucket) (l n : ℕ) → l + sum (sent j p) n + sum (unused_drain j s p k l) n ≡ n * k.drain + bucket_level j s p k l n

-- E3, of a replay
abbrev pub ReplayBalance : Type 0
ReplayBalance = (j : Job) (m : PinMap) (s : ℕ) (start : Levels) (p : List Entry) → length start.buckets ≡ length j.line.buckets → (replay j m s start p).result ≡ clean → BalanceClaim j s start p (replay j m s start p)

-- (5): B(i + d) is the effective buffer size less what the encoder holds, which by (3) is what the first i units take less what the first i intervals send.
-- Written as sums, from a starting level b: B(i + d) + R(1) + ... + R(i) = b + C(1) + ... + C(i) + the effective buffer size
abbrev pub EffectiveBuffers : Type 0
EffectiveBuffers = (j : Job) (p : List Entry) (b i : ℕ) → PlanFits j 0 p → decoder_level j 0 p b (i + j.delay) +ℤ pos (units_taken j p i) ≡ pos (b + sent_after j p 0 i + effective_buffer j p i)

-- E4, for every delay, 0 included
abbrev pub RunningBuffers : Type 0
RunningBuffers = (j : Job) (p : List Entry) (i : ℕ) → RunningClaim j p i

-- demand 3, of the definitions: with any choices open
abbrev pub Planning : Type 0
Planning = (j : Job) (k : Open) (s : ℕ) (start : Levels) (o : Order) → s ≤ intervals j → PlanningClaim j k s start o

-- E7, of the definitions
abbrev pub Greatest : Type 0
Greatest = (j : Job) (s : ℕ) (p : List Entry) → GreatestClaim j s p (greatest_distortion j s p)

abbrev pub Evenness : Type 0
Evenness = (j : Job) (m : PinMap) (s : ℕ) (start : Levels) → s ≤ intervals j → EvennessClaim j m s start

abbrev pub Aims : Type 0
Aims = (j : Job) (m : PinMap) (s : ℕ) (start : Levels) (a : Aim) (o : Order) → s ≤ intervals j → AimClaim j m s start a o (open_for a j m s start)

-- "the" best plan: a set has at most one
abbrev pub OneBest : (List Entry → Type 0) → Type 0
OneBest Among = (j : Job) (s : ℕ) (a : Aim) (o : Order) (p q : List Entry) → BestOf j s a o Among p → BestOf j s a o Among q → p ≡ q

-- E10: the best plans of a set in two orders are as good as each other: they have the same total, and for even pictures the same greatest distortion
pub record OrderClaim (j : Job) (s : ℕ) (a : Aim) (p q : List Entry) : Type 0 where
  pub same_total : total_distortion j s p ≡ total_distortion j s q
  pub same_greatest : a ≡ even → greatest_distortion j s p ≡ greatest_distortion j s q

abbrev pub Orders : (List Entry → Type 0) → Type 0
Orders Among = (j : Job) (s : ℕ) (a : Aim) (o r : Order) (p q : List Entry) → BestOf j s a o Among p → BestOf j s a r Among q → OrderClaim j s a p q

-- a table that follows the rule of a layer holds the least distortion of every state
abbrev pub TableLaw : Type 0
TableLaw = (j : Job) (k : Open) (table : List ℕ) → Bounded j → FollowsRule j k table → IsTable j k 0 table

-- and the other way round: a list that holds them follows the rule
abbrev pub RuleOf : Type 0
RuleOf = (j : Job) (k : Open) (table : List ℕ) → Bounded j → IsTable j k 0 table → FollowsRule j k table

-- what the words of a table mean, from the first layer that is the job's on
abbrev pub TableWords : Type 0
TableWords = (j : Job) (k : Open) (first : ℕ) (table : List ℕ) → Bounded j → IsTable j k first table → (t : ℕ) (s : Levels) → first ≤ t → t ≤ intervals j → InLayer j.line s → WordClaim j k t s (word_at j table t s)

abbrev pub ReadOff : Type 0
ReadOff = (j : Job) (k : Open) (o : Order) (table : List ℕ) (t : ℕ) (s : Levels) (v : ℕ) → Bounded j → IsTable j k t table → t < intervals j → InLayer j.line s → least_total j k t s ≡ some v → ReadOffClaim j k o table t s v

abbrev pub WordsOfOne : Type 0
WordsOfOne = (j : Job) (k : Bucket) → j.line.buckets ≡ k ∷ [] → OneBucket j k

abbrev pub WordsOfTwo : Type 0
WordsOfTwo = (j : Job) (k k2 : Bucket) → j.line.buckets ≡ k ∷ k2 ∷ [] → TwoBuckets j k k2
