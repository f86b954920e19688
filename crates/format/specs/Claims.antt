-- What is claimed of a job's bytes: each claim is a type, which a theorem of proofs/ inhabits.
use Rattle.std.specs.Prelude.{ℕ, suc, ◌+◌, ◌*◌, ◌-◌, ◌≤◌, ◌<◌, ◌≡◌, ◌↔◌, ◌⊎◌, List, [], ◌∷◌, ◌++◌, length, get_or, take, drop, replicate}
use Rattle.std.proofs.Math.Option.{none, some}
use Rattle.model.specs.Job.{bucket_at, Coding, Job, job_coding}
use Rattle.format.specs.Fields.{fields, Bytes}
use Rattle.format.specs.Limits.{AllKept}
use Rattle.format.specs.Choices.{choice_of}
use Rattle.format.specs.Parser.{refused, took, Parser}
use Rattle.format.specs.Records.{record_due}
use Rattle.format.specs.JobBytes.{Policed, Header, no_bucket, header_limits, Door, opening, archive, rate_limits, codings, coding_limits, entry_widths, rates_form, job_of, header_in, header_read, header_parser, unit_parser, parse, encode, WellFormed, Formed}
use Rattle.format.specs.Places.{job_size, rate_at, coding_at}

-- what is written is read back, whatever stands behind it
abbrev pub ReadsBack : Type 0
ReadsBack = (d : Door) (j : Job) → Formed d j → (rest : List ℕ) → parse d (encode j ++ rest) ≡ took j (length (encode j))

-- what was read is a job within the limits, and the bytes that it took are the bytes written of it
pub record WrittenBack (d : Door) (b : List ℕ) (j : Job) (n : ℕ) : Type 0 where
  pub size : n ≤ length b
  pub same : take n b ≡ encode j
  pub formed : Formed d j

abbrev pub WritesBack : Type 0
WritesBack = (d : Door) (b : List ℕ) → Bytes b → (j : Job) (n : ℕ) → parse d b ≡ took j n → WrittenBack d b j n

-- how many bytes are written
abbrev pub Sized : Type 0
Sized = (j : Job) → WellFormed j → length (encode j) ≡ job_size (header_in j)

-- what opens is within the limits
abbrev pub WellRead : Type 0
WellRead = (d : Door) (b : List ℕ) (j : Job) (n : ℕ) → parse d b ≡ took j n → Formed d j

-- a reader that looks up one field of a job that opens finds the job's value
pub record LookedUp (b : List ℕ) (j : Job) : Type 0 where
  pub rate : (y : ℕ) → y < length j.line.rates → rate_at b (header_in j) y ≡ get_or j.line.rates y 0
  pub coding : (u x : ℕ) → 1 ≤ u → u ≤ length j.units → x < j.choices → coding_at b (header_in j) u x ≡ job_coding j (u - 1) x

abbrev pub LooksUp : Type 0
LooksUp = (d : Door) (b : List ℕ) (j : Job) (n : ℕ) → parse d b ≡ took j n → LookedUp b j

-- the limits of document 01 and of document 02, E5, index by index: what a job keeps to
pub record InLimits (j : Job) : Type 0 where
  pub units : (1 ≤ length j.units) × (length j.units ≤ 512)
  pub delay : j.delay ≤ 64
  pub decoder : j.line.decoder ≤ 255
  pub level : j.start.decoder ≤ j.line.decoder
  -- one bucket or two, each with a starting level; the second is the smaller
  pub buckets : (1 ≤ length j.line.buckets) × (length j.line.buckets ≤ 2) × (length j.start.buckets ≡ length j.line.buckets)
  pub first_size : (bucket_at j.line.buckets 0).size ≤ 255
  pub second_size : (bucket_at j.line.buckets 1).size ≤ 63
  pub drains : (i : ℕ) → i < length j.line.buckets → (bucket_at j.line.buckets i).drain ≤ 4095
  pub fills : (i : ℕ) → i < length j.line.buckets → get_or j.start.buckets i 0 ≤ (bucket_at j.line.buckets i).size
  pub rates : (1 ≤ length j.line.rates) × (length j.line.rates ≤ 16)
  pub choices : (1 ≤ j.choices) × (j.choices ≤ 1000)
  pub rate : (y : ℕ) → y < length j.line.rates → get_or j.line.rates y 0 ≤ 4095
  pub rise : (y : ℕ) → y + 1 < length j.line.rates → get_or j.line.rates y 0 < get_or j.line.rates (suc y) 0
  pub codings : (i : ℕ) → i < length j.units → length (get_or j.units i []) ≡ j.choices
  pub sizes : (i x : ℕ) → i < length j.units → x < j.choices → (job_coding j i x).size ≤ 4095
  pub distortions : (i x : ℕ) → i < length j.units → x < j.choices → (job_coding j i x).distortion ≤ 1000000

-- the well-formed jobs are exactly those within the limits
abbrev pub Limited : Type 0
Limited = (j : Job) → WellFormed j ↔ InLimits j

-- document 02, E8: every bucket drains something, where opening is asked
abbrev pub Drains : Door → Job → Type 0
Drains archive j = Unit {0}
Drains opening j = (i : ℕ) → i < length j.line.buckets → 1 ≤ (bucket_at j.line.buckets i).drain

-- every job within the limits opens, and nothing else does: by either door bytes are a job exactly where it is within the limits, with drains that the door takes, and they begin with the bytes written of it
abbrev pub OpensExactly : Type 0
OpensExactly = (d : Door) (b : List ℕ) → Bytes b → (j : Job) (n : ℕ) → (parse d b ≡ took j n) ↔ (InLimits j × Drains d j × (n ≡ job_size (header_in j)) × (take n b ≡ encode j))

-- opening takes exactly the archive's jobs whose drains are all above 0, as the same job and as many bytes; the archive's other jobs it refuses by 17
pub record DoorsClaim (b : List ℕ) (j : Job) (n : ℕ) : Type 0 where
  pub opening_iff : (parse opening b ≡ took j n) ↔ ((parse archive b ≡ took j n) × Drains opening j)
  pub else_17 : parse archive b ≡ took j n → (Drains opening j → ⊥) → parse opening b ≡ refused 17

abbrev pub TwoDoors : Type 0
TwoDoors = (b : List ℕ) (j : Job) (n : ℕ) → DoorsClaim b j n

-- a u16 at a place, the lower byte first
abbrev pub u16_at : List ℕ → ℕ → ℕ
u16_at b at = get_or b at 0 + 256 * get_or b (at + 1) 0

-- a u32 at a place, the lower half first
abbrev pub u32_at : List ℕ → ℕ → ℕ
u32_at b at = u16_at b at + 65536 * u16_at b (at + 2)

-- where a job's first rate stands: behind a header's record of 22 bytes, 6 more for each further bucket, and the 4 of its own record's head
abbrev pub first_rate : Job → ℕ
first_rate j = 26 + 6 * (length j.line.buckets - 1)

-- where a unit's entry for a choice stands: behind P rates, the records of the units before it, its own record's head and the entries before it
abbrev pub entry_of : Job → ℕ → ℕ → ℕ
entry_of j u x = first_rate j + 2 * length j.line.rates + (u - 1) * (4 + 6 * j.choices) + 4 + 6 * x

-- what document 01 says of a job's bytes behind its header: each rate is a u16, and each entry a u16 of size and a u32 of distortion
pub record Placed (b : List ℕ) (j : Job) : Type 0 where
  pub rate : (y : ℕ) → y < length j.line.rates → get_or j.line.rates y 0 ≡ u16_at b (first_rate j + 2 * y)
  pub size : (u x : ℕ) → 1 ≤ u → u ≤ length j.units → x < j.choices → (job_coding j (u - 1) x).size ≡ u16_at b (entry_of j u x)
  pub distortion : (u x : ℕ) → 1 ≤ u → u ≤ length j.units → x < j.choices → (job_coding j (u - 1) x).distortion ≡ u32_at b (entry_of j u x + 2)

abbrev pub Placing : Type 0
Placing = (d : Door) (b : List ℕ) (j : Job) (n : ℕ) → parse d b ≡ took j n → Placed b j

-- a record's length, which counts kind and body, and its kind are those due
abbrev pub Due : ℕ → ℕ → List ℕ → Type 0
Due kind body b = (u16_at b 0 ≡ 2 + body) × (u16_at b 2 ≡ kind)

-- in which order a record is looked at: its head, of which `Expected` says that length and kind are those due
pub record HeadOrder {A : Type 0} (read : Parser A) (Expected : Type 0) (b : List ℕ) : Type 0 where
  pub head_there : length b < 4 → read b ≡ refused 1
  pub then_due : 4 ≤ length b → (Expected → ⊥) → read b ≡ refused 2

-- then, where this kind is due and has a body of so many bytes, the body and its fields, which are refused by `number` where they are not kept to their limits
pub record BodyOrder {A : Type 0} (read : Parser A) (kind body number : ℕ) (value : List ℕ → A) (Kept : A → Type 0) (b : List ℕ) : Type 0 where
  pub then_body : 4 ≤ length b → Due kind body b → length b < 4 + body → read b ≡ refused 1
  pub then_fields : 4 + body ≤ length b → Due kind body b → (Kept (value b) → ⊥) → read b ≡ refused number
  pub else_read : 4 + body ≤ length b → Due kind body b → Kept (value b) → read b ≡ took (value b) (4 + body)

-- where one kind is due: one of the five holds of any bytes
pub record RecordOrder {A : Type 0} (read : Parser A) (kind body number : ℕ) (value : List ℕ → A) (Kept : A → Type 0) (b : List ℕ) : Type 0 where
  pub head : HeadOrder read (Due kind body b) b
  pub rest : BodyOrder read kind body number value Kept b

-- the fields of kinds 1 and 8, each by its place in the record: nine, then three of the second bucket
abbrev pub header_with : List Policed → List ℕ → Header
header_with more b = record {
  units = u16_at b 4;
  delay = u16_at b 6;
  decoder = u16_at b 8;
  level = u16_at b 14;
  buckets = record { size = u16_at b 10; drain = u16_at b 12; fill = u16_at b 16 } ∷ more;
  rates = u16_at b 18;
  choices = u16_at b 20;
}

abbrev pub one_bucket_at : List ℕ → Header
one_bucket_at b = header_with [] b

abbrev pub two_buckets_at : List ℕ → Header
two_buckets_at b = header_with (record { size = u16_at b 22; drain = u16_at b 24; fill = u16_at b 26 } ∷ []) b

-- the header that is due: kind 1 with nine u16, or kind 8 with twelve
pub record HeaderOrder (b : List ℕ) : Type 0 where
  pub head : HeadOrder header_read (Due 1 18 b ⊎ Due 8 24 b) b
  pub one : BodyOrder header_read 1 18 3 one_bucket_at (λ h. AllKept (header_limits h)) b
  pub two : BodyOrder header_read 8 24 3 two_buckets_at (λ h. AllKept (header_limits h)) b

-- some bucket of a header has a drain of 0
abbrev pub Idle : Header → Type 0
Idle h = (i : ℕ) × (i < length h.buckets) × ((get_or h.buckets i no_bucket).drain ≡ 0)

-- then its drains: opening refuses a header with a drain of 0 by 17, whatever stands behind it, and the archive takes it
pub record DrainOrder (b : List ℕ) : Type 0 where
  pub record_first : (d : Door) (n : ℕ) → header_read b ≡ refused n → header_parser d b ≡ refused n
  pub then_drains : (h : Header) (k : ℕ) → header_read b ≡ took h k → Idle h → header_parser opening b ≡ refused 17
  pub else_opening : (h : Header) (k : ℕ) → header_read b ≡ took h k → (Idle h → ⊥) → header_parser opening b ≡ took h k
  pub archive_takes : (h : Header) (k : ℕ) → header_read b ≡ took h k → header_parser archive b ≡ took h k

-- the records of a job: its header, kind 2 with P u16, kind 3 with M entries of 6 bytes
pub record RecordOrders (b : List ℕ) : Type 0 where
  pub header : HeaderOrder b
  pub drains : DrainOrder b
  pub rates : (p : ℕ) → RecordOrder (record_due (rates_form p)) 2 (2 * p) 4 (λ l. fields (replicate p 2) (drop 4 l)) (λ rs. AllKept (rate_limits 0 rs)) b
  pub unit : (m : ℕ) → RecordOrder (unit_parser m) 3 (6 * m) 5 (λ l. codings (fields (entry_widths m) (drop 4 l))) (λ u. AllKept (coding_limits u)) b

-- units of m choices that are read one after another, and how many bytes they take
pub data Units (m : ℕ) : List ℕ → List (List Coding) → ℕ → Type 0 where
  no_more : {b : List ℕ} → Units m b [] 0
  one_more : {b : List ℕ} {u : List Coding} {k : ℕ} {us : List (List Coding)} {s : ℕ} → unit_parser m b ≡ took u k → Units m (drop k b) us s → Units m b (u ∷ us) (k + s)

-- a record is looked at whole before the next: the header, then its P rates, then each of its N units
pub record OpeningOrder (d : Door) (b : List ℕ) : Type 0 where
  pub header_first : (n : ℕ) → header_parser d b ≡ refused n → parse d b ≡ refused n
  -- the header takes k bytes
  pub then_rates : (h : Header) (k n : ℕ) → header_parser d b ≡ took h k → record_due (rates_form h.rates) (drop k b) ≡ refused n → parse d b ≡ refused n
  -- and the rates take r, and fewer than N units before one that is refused take s
  pub then_units : (h : Header) (k : ℕ) (rs : List ℕ) (r : ℕ) (us : List (List Coding)) (s n : ℕ) → header_parser d b ≡ took h k → record_due (rates_form h.rates) (drop k b) ≡ took rs r → Units h.choices (drop r (drop k b)) us s → length us < h.units → unit_parser h.choices (drop s (drop r (drop k b))) ≡ refused n → parse d b ≡ refused n
  pub else_opens : (h : Header) (k : ℕ) (rs : List ℕ) (r : ℕ) (us : List (List Coding)) (s : ℕ) → header_parser d b ≡ took h k → record_due (rates_form h.rates) (drop k b) ≡ took rs r → Units h.choices (drop r (drop k b)) us s → length us ≡ h.units → parse d b ≡ took (job_of h rs us) (k + (r + s))

-- demand 1, of opening
abbrev pub Refusals : Type 0
Refusals = (d : Door) (b : List ℕ) → RecordOrders b × OpeningOrder d b

-- the numbers of a job: 1 to 5, and by the door of opening 17
abbrev pub OwnNumber : Door → ℕ → Type 0
OwnNumber d n = ((1 ≤ n) × (n ≤ 5)) ⊎ ((d ≡ opening) × (n ≡ 17))

-- a job is refused by no others, and so never by 0
abbrev pub OwnNumbers : Type 0
OwnNumbers = (d : Door) (b : List ℕ) (n : ℕ) → parse d b ≡ refused n → OwnNumber d n

-- a choice as a number: 65,535 stands for none, and every other number for itself
pub record ChoiceNumbers (x : ℕ) : Type 0 where
  pub mark : x ≡ 65535 → choice_of x ≡ none
  pub choice : (x ≡ 65535 → ⊥) → choice_of x ≡ some x

abbrev pub Marked : Type 0
Marked = (x : ℕ) → ChoiceNumbers x
