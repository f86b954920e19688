-- What is claimed of lines with more room and of the list of larger buckets: each claim is a type, which a theorem of proofs/ inhabits. Plans are judged by `Admissible`, which knows neither replay nor search.
use Rattle.std.specs.Prelude.{ℕ, ◌+◌, ◌*◌, ◌-◌, ◌≤◌, ◌<◌, ◌≡◌, ◌↔◌, ◌⊎◌, List, [], ◌∷◌, ◌++◌, length, get_or, drop}
use Rattle.std.proofs.Math.Option.{some}
use Rattle.trellis.specs.Minimum.{AtMost}
use Rattle.base.specs.Answer.{refused, gives}
use Rattle.base.specs.Refusals.{Condition, condition, InOrder}
use Rattle.model.specs.Job.{Bucket, Line, bucket_at, Levels, Job, Entry, on_line, intervals}
use Rattle.model.specs.Pins.{PinMap, Click, no_pins, clicks_after}
use Rattle.model.specs.Admissible.{Admissible}
use Rattle.model.specs.Best.{Order, total, unlimited, least_total, least_greatest}
use Rattle.model.specs.Replay.{Totals}
use Rattle.model.specs.Table.{words, IsTable}
use Rattle.model.specs.Claims.{OverClaim, WordClaim}
use Rattle.format.specs.Parser.{took, Looks}
use Rattle.format.specs.JobBytes.{parse, opening, encode}
use Rattle.pinning.specs.PinSet.{PinSet, lines}
use Rattle.pinning.specs.Check.{Matches, checked}
use Rattle.pinning.specs.Calls.{open_call, run_clicks}
use Rattle.planning.specs.Calls.{Planned, plan_call}
use Rattle.enlarging.specs.Larger.{Larger, with_decoder, with_size, with_drain}
use Rattle.enlarging.specs.Calls.{sized, least_at, Listed, refuse, sizes_call}

-- the job over the line: every plan that is admissible stays so, from any interval on, from any levels there and with any pins; and neither the least total nor the least greatest distortion is raised
pub record LargerClaim (j : Job) (line : Line) : Type 0 where
  pub keeps : (m : PinMap) (s : ℕ) (start : Levels) (p : List Entry) → Admissible j m s start p → Admissible (on_line j line) m s start p
  pub total : (m : PinMap) (s : ℕ) (start : Levels) (v : ℕ) → s ≤ intervals j → least_total j (unlimited m) s start ≡ some v → AtMost (least_total (on_line j line) (unlimited m) s start) v
  pub greatest : (m : PinMap) (s : ℕ) (start : Levels) (v : ℕ) → s ≤ intervals j → least_greatest j m s start ≡ some v → AtMost (least_greatest (on_line j line) m s start) v

-- two lines that differ in the i-th bucket alone, if at all: in the decoder, the rates, the number of buckets and every other bucket they agree
pub record AlikeBut (i : ℕ) (a b : Line) : Type 0 where
  pub decoder : b.decoder ≡ a.decoder
  pub rates : b.rates ≡ a.rates
  pub count : length b.buckets ≡ length a.buckets
  pub others : (k : ℕ) → (k ≡ i → ⊥) → bucket_at b.buckets k ≡ bucket_at a.buckets k

-- the line with another decoder size, and with another size or drain of a bucket that it has
pub record ChangedClaim (line : Line) : Type 0 where
  pub decoder : (size : ℕ) → ((with_decoder line size).decoder ≡ size) × ((with_decoder line size).buckets ≡ line.buckets) × ((with_decoder line size).rates ≡ line.rates)
  pub size : (i size : ℕ) → i < length line.buckets → AlikeBut i line (with_size line i size) × ((bucket_at (with_size line i size).buckets i).size ≡ size) × ((bucket_at (with_size line i size).buckets i).drain ≡ (bucket_at line.buckets i).drain)
  pub drain : (i drain : ℕ) → i < length line.buckets → AlikeBut i line (with_drain line i drain) × ((bucket_at (with_drain line i drain).buckets i).drain ≡ drain) × ((bucket_at (with_drain line i drain).buckets i).size ≡ (bucket_at line.buckets i).size)

-- the job with a first bucket of size n: no other bucket, no drain and nothing else is another
pub record SizedClaim (j : Job) (n : ℕ) (k : Job) : Type 0 where
  pub others : AlikeBut 0 j.line k.line
  pub size : (bucket_at k.line.buckets 0).size ≡ n
  pub drain : (bucket_at k.line.buckets 0).drain ≡ (bucket_at j.line.buckets 0).drain
  pub over : OverClaim j k.line k

-- how many words the table of the largest size has, as document 01 counts them, with one bucket and with two
pub record WordsClaim (j : Job) : Type 0 where
  pub one : (k : Bucket) → j.line.buckets ≡ k ∷ [] → words (sized j 255) ≡ (intervals j + 1) * (j.line.decoder + 1) * 256
  pub two : (k k2 : Bucket) → j.line.buckets ≡ k ∷ k2 ∷ [] → words (sized j 255) ≡ (intervals j + 1) * (j.line.decoder + 1) * 256 * (k2.size + 1)

-- what is raised, of a line: D, the size of the i-th bucket, its drain
pub data Raised (line : Line) : Line → Type 0 where
  decoder_raised : {size : ℕ} → line.decoder ≤ size → Raised line (with_decoder line size)
  size_raised : {i size : ℕ} → i < length line.buckets → (bucket_at line.buckets i).size ≤ size → Raised line (with_size line i size)
  drain_raised : {i drain : ℕ} → i < length line.buckets → (bucket_at line.buckets i).drain ≤ drain → Raised line (with_drain line i drain)

-- within the header's ranges
pub record Ranged (line : Line) : Type 0 where
  pub decoder : line.decoder ≤ 255
  pub first_size : (bucket_at line.buckets 0).size ≤ 255
  pub second_size : (bucket_at line.buckets 1).size ≤ 63
  pub drains : (i : ℕ) → i < length line.buckets → (bucket_at line.buckets i).drain ≤ 4095

-- what the call asks of a job that the set matches, in order: words for a table of size 255, and 256 - K numbers
abbrev pub Asks : Job → List ℕ → List ℕ → List Condition
Asks j table totals =
    condition 11 (words (sized j 255) ≤ length table)
    ∷ condition 12 (256 ≤ (bucket_at j.line.buckets 0).size + length totals)
    ∷ []

-- where nothing of these refuses, with the pins m
module _ (j : Job) (m : PinMap) (table totals : List ℕ) where
  pub record SizesClaim (r : Listed) : Type 0 where
    pub done : r.answer ≡ gives tt
    -- the number of each size from K to 255 is the least total of the job with a first bucket of that size, and 4,294,967,295 exactly where no plan is admissible
    pub least : (i : ℕ) → (bucket_at j.line.buckets 0).size + i ≤ 255 → WordClaim (sized j ((bucket_at j.line.buckets 0).size + i)) (unlimited m) 0 j.start (get_or r.totals i 0)
    -- no number exceeds the one before it
    pub falls : (i : ℕ) → (bucket_at j.line.buckets 0).size + i < 255 → get_or r.totals (i + 1) 0 ≤ get_or r.totals i 0
    -- the numbers past these keep their values
    pub totals_rest : drop (256 - (bucket_at j.line.buckets 0).size) r.totals ≡ drop (256 - (bucket_at j.line.buckets 0).size) totals
    pub totals_size : length r.totals ≡ length totals
    -- the table is that of size 255, and the words past it keep their values
    pub table_is : IsTable (sized j 255) (unlimited m) 0 r.table
    pub table_rest : drop (words (sized j 255)) r.table ≡ drop (words (sized j 255)) table
    pub table_size : length r.table ≡ length table

-- The claims.

-- one law of lines that are no tighter
abbrev pub LargerLaw : Type 0
LargerLaw = (j : Job) (line : Line) → Larger j.line line → LargerClaim j line

-- what it is to change one size or one drain
abbrev pub Changed : Type 0
Changed = (line : Line) → ChangedClaim line

-- and of a job, to give its first bucket another size
abbrev pub SizedJobs : Type 0
SizedJobs = (j : Job) (size : ℕ) → 0 < length j.line.buckets → SizedClaim j size (sized j size)

abbrev pub LargestWords : Type 0
LargestWords = (j : Job) → WordsClaim j

-- "raising D, a bucket size or a drain": the law's three cases
abbrev pub RaisedLarger : Type 0
RaisedLarger = (a b : Line) → Raised a b → Larger a b

abbrev pub Raising : Type 0
Raising = (j : Job) (line : Line) → Raised j.line line → LargerClaim j line

-- "within its range": of a job that opens, the job over such a line is again one that opens, exactly where the line is within the header's ranges, whatever stands behind its bytes
abbrev pub LargerOpens : Type 0
LargerOpens = (b : List ℕ) (j : Job) (n : ℕ) → parse opening b ≡ took j n → (line : Line) → Larger j.line line → (rest : List ℕ) → Ranged line ↔ (parse opening (encode (on_line j line) ++ rest) ≡ took (on_line j line) (length (encode (on_line j line))))

-- of the call with any set: the job, 1 to 5 and 17, then the set, then the two lists; where nothing of these refuses it, as claimed
abbrev pub SizesCalls : Type 0
SizesCalls = (b : List ℕ) (s : PinSet) (table totals : List ℕ) → Looks (sizes_call b s table totals) (refuse table totals) (parse opening b) (λ j. condition 6 (Matches j s) ∷ Asks j table totals) (λ j. SizesClaim j (lines (length j.units) s.pins) table totals (sizes_call b s table totals))

-- and after every list of pins and lifts from the set that opening answers, by themselves or such as see, refused ones included: with the pins of the book
abbrev pub SizesAfter : Type 0
SizesAfter = (b : List ℕ) (j : Job) (n : ℕ) → parse opening b ≡ took j n → (clicks : List Click) (table totals : List ℕ) → let m = clicks_after (words j) j.choices (no_pins (length j.units)) clicks in let r = sizes_call b (run_clicks b (open_call opening b).set clicks).set table totals in InOrder r (refuse table totals) (Asks j table totals) (SizesClaim j m table totals r)

-- a refusal answers its number and leaves both lists as they came
abbrev pub Refuses : Type 0
Refuses = (table totals : List ℕ) (n : ℕ) → (refuse table totals n).answer ≡ refused n

abbrev pub SizesKeep : Type 0
SizesKeep = (b : List ℕ) (s : PinSet) (table totals : List ℕ) (n : ℕ) → (sizes_call b s table totals).answer ≡ refused n → ((sizes_call b s table totals).table ≡ table) × ((sizes_call b s table totals).totals ≡ totals)

-- where the job opens and the set matches it, nothing but 11 and 12 refuses: 13 is not given
abbrev pub NoThirteen : Type 0
NoThirteen = (b : List ℕ) (s : PinSet) (j : Job) (k : ℕ) → checked opening b s ≡ took j k → (table totals : List ℕ) (n : ℕ) → (sizes_call b s table totals).answer ≡ refused n → (n ≡ 11) ⊎ (n ≡ 12)

-- the number of a size is what planning answers for the job with that size, by whatever bytes it opens and whatever set of it has these pins: its total, or none where planning says 13
pub record PlannedClaim (w : ℕ) (r : Planned) : Type 0 where
  pub none_iff : (w ≡ 4294967295) ↔ (r.answer ≡ refused 13)
  pub total_is : (t : Totals) → r.answer ≡ gives t → t.distortion ≡ w

abbrev pub SizesPlanned : Type 0
SizesPlanned = (j : Job) (s : PinSet) (size : ℕ) (b : List ℕ) (n : ℕ) (r : PinSet) → checked opening b r ≡ took (sized j size) n → lines (length j.units) r.pins ≡ lines (length j.units) s.pins → (o : Order) (table entries : List ℕ) → words (sized j size) ≤ length table → 3 * intervals j ≤ length entries → PlannedClaim (least_at j (lines (length j.units) s.pins) size) (plan_call b r total o table entries)
