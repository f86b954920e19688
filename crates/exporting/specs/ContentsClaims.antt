-- What is claimed of reading a job back: in which order it is refused, what stands where and what stays, that what was read is the job that the door takes and is written to the bytes it was read from, that the archive reads a job that opens as opening does, and which lists are long enough for any job. Each claim is a type, which a theorem of proofs/ inhabits.
use Rattle.std.specs.Prelude.{ℕ, suc, ◌+◌, ◌*◌, ◌-◌, ◌<◌, ◌≤◌, ◌≡◌, ◌↔◌, List, [], ◌∷◌, ◌++◌, length, get_or, take, drop}
use Rattle.base.specs.Answer.{gives}
use Rattle.base.specs.Refusals.{Condition, condition, InOrder}
use Rattle.base.specs.Lent.{over}
use Rattle.model.specs.Job.{bucket_at, Job, job_coding}
use Rattle.format.specs.Fields.{Bytes}
use Rattle.format.specs.Parser as P
use Rattle.format.specs.JobBytes.{header_of, Door, archive, opening, parse, encode}
use Rattle.writing.specs.Lists.{job_from}
use Rattle.writing.specs.Calls.{write_call}
use Rattle.exporting.specs.Exports.{written, write_export}
use Rattle.exporting.specs.Contents.{Contents, contents, read_export}

-- nine fields, and three for each further bucket; M codings for each of N units
abbrev pub field_count : Job → ℕ
field_count j = 9 + 3 * (length j.line.buckets - 1)

abbrev pub coding_count : Job → ℕ
coding_count j = length j.units * j.choices

module _ (j : Job) (fields rates sizes distortions values : List ℕ) where
  -- 12: room for the fields, the P rates, a size and a distortion of each coding, and two values
  abbrev pub ReadRoom : List Condition
  ReadRoom =
      condition 12 (field_count j ≤ length fields)
      ∷ condition 12 (length j.line.rates ≤ length rates)
      ∷ condition 12 (coding_count j ≤ length sizes)
      ∷ condition 12 (coding_count j ≤ length distortions)
      ∷ condition 12 (2 ≤ length values)
      ∷ []

  -- the job in the lists, number by number; it took so many bytes
  pub record ReadBack (taken : ℕ) (r : Contents) : Type 0 where
    pub done : r.number ≡ 0
    -- the fields of kind 1 as document 01 names them: N, d, D, K, the drain, the starting levels of decoder and bucket, P, M
    pub units_field : get_or r.fields 0 0 ≡ length j.units
    pub delay_field : get_or r.fields 1 0 ≡ j.delay
    pub decoder_field : get_or r.fields 2 0 ≡ j.line.decoder
    pub size_field : get_or r.fields 3 0 ≡ (bucket_at j.line.buckets 0).size
    pub drain_field : get_or r.fields 4 0 ≡ (bucket_at j.line.buckets 0).drain
    pub level_field : get_or r.fields 5 0 ≡ j.start.decoder
    pub fill_field : get_or r.fields 6 0 ≡ get_or j.start.buckets 0 0
    pub rates_field : get_or r.fields 7 0 ≡ length j.line.rates
    pub choices_field : get_or r.fields 8 0 ≡ j.choices
    -- then size, drain and starting level of each further bucket (document 02, E5)
    pub further_sizes : (i : ℕ) → suc i < length j.line.buckets → get_or r.fields (9 + 3 * i) 0 ≡ (bucket_at j.line.buckets (suc i)).size
    pub further_drains : (i : ℕ) → suc i < length j.line.buckets → get_or r.fields (9 + 3 * i + 1) 0 ≡ (bucket_at j.line.buckets (suc i)).drain
    pub further_fills : (i : ℕ) → suc i < length j.line.buckets → get_or r.fields (9 + 3 * i + 2) 0 ≡ get_or j.start.buckets (suc i) 0
    -- the rates, and of each unit, counted from 1, its sizes and distortions by choice
    pub rate : (i : ℕ) → i < length j.line.rates → get_or r.rates i 0 ≡ get_or j.line.rates i 0
    pub size : (u x : ℕ) → 1 ≤ u → u ≤ length j.units → x < j.choices → get_or r.sizes ((u - 1) * j.choices + x) 0 ≡ (job_coding j (u - 1) x).size
    pub distortion : (u x : ℕ) → 1 ≤ u → u ≤ length j.units → x < j.choices → get_or r.distortions ((u - 1) * j.choices + x) 0 ≡ (job_coding j (u - 1) x).distortion
    -- how many bytes the job took, and how many fields there are
    pub taken_value : get_or r.values 0 0 ≡ taken
    pub fields_value : get_or r.values 1 0 ≡ field_count j
    -- what stands behind these numbers stays
    pub fields_rest : drop (field_count j) r.fields ≡ drop (field_count j) fields
    pub rates_rest : drop (length j.line.rates) r.rates ≡ drop (length j.line.rates) rates
    pub sizes_rest : drop (coding_count j) r.sizes ≡ drop (coding_count j) sizes
    pub distortions_rest : drop (coding_count j) r.distortions ≡ drop (coding_count j) distortions
    pub values_rest : drop 2 r.values ≡ drop 2 values
    pub fields_length : length r.fields ≡ length fields
    pub rates_length : length r.rates ≡ length rates
    pub sizes_length : length r.sizes ≡ length sizes
    pub distortions_length : length r.distortions ≡ length distortions
    pub values_length : length r.values ≡ length values

-- demand 1, of reading back by either door: the job, 1 to 5 and 17, then 12; a refusal leaves every list as it came, and where nothing refuses it the job is in the lists
abbrev pub ReadingBack : Type 0
ReadingBack = (d : Door) (b fields rates sizes distortions values : List ℕ) → let r = read_export fields rates sizes distortions values d b in ((n : ℕ) → parse d b ≡ P.refused n → r ≡ contents n fields rates sizes distortions values) × ((j : Job) (k : ℕ) → parse d b ≡ P.took j k → InOrder r (λ n. contents n fields rates sizes distortions values) (ReadRoom j fields rates sizes distortions values) (ReadBack j fields rates sizes distortions values k r))

-- what was read, as the writer takes it: as many numbers of each list as the values and the fields tell
module _ (r : Contents) where
  abbrev pub taken_read : ℕ
  taken_read = get_or r.values 0 0

  abbrev pub fields_read : List ℕ
  fields_read = take (get_or r.values 1 0) r.fields

  abbrev pub rates_read : List ℕ
  rates_read = take (get_or r.fields 7 0) r.rates

  abbrev pub sizes_read : List ℕ
  sizes_read = take (get_or r.fields 0 0 * get_or r.fields 8 0) r.sizes

  abbrev pub distortions_read : List ℕ
  distortions_read = take (get_or r.fields 0 0 * get_or r.fields 8 0) r.distortions

  abbrev pub job_read : Job
  job_read = job_from (header_of fields_read) rates_read sizes_read distortions_read

-- what either door reads back is the job that the door takes, with as many bytes, and these are the bytes written of it
pub record Restored (d : Door) (b : List ℕ) (r : Contents) : Type 0 where
  pub read : parse d b ≡ P.took (job_read r) (taken_read r)
  pub bytes : encode (job_read r) ≡ take (taken_read r) b

abbrev pub Restores : Type 0
Restores = (d : Door) (b : List ℕ) → Bytes b → (fields rates sizes distortions values : List ℕ) → let r = read_export fields rates sizes distortions values d b in r.number ≡ 0 → Restored d b r

-- a job that opens is read back by the archive as by opening
abbrev pub SameByArchive : Type 0
SameByArchive = (b : List ℕ) (j : Job) (k : ℕ) → parse opening b ≡ P.took j k → (fields rates sizes distortions values : List ℕ) → read_export fields rates sizes distortions values archive b ≡ read_export fields rates sizes distortions values opening b

-- what opening reads back is written to the same bytes, and what stands behind them stays: by the writer, and by its exported call
pub record Rewritten (b : List ℕ) (r : Contents) (out : List ℕ) : Type 0 where
  pub write : write_call (header_of (fields_read r)) (rates_read r) (sizes_read r) (distortions_read r) out ≡ record { answer = gives (taken_read r); list = take (taken_read r) b ++ drop (taken_read r) out }
  pub exported : (values : List ℕ) → 1 ≤ length values → write_export (fields_read r) (rates_read r) (sizes_read r) (distortions_read r) out values ≡ written 0 (take (taken_read r) b ++ drop (taken_read r) out) (over (taken_read r ∷ []) values)

abbrev pub RewritesRead : Type 0
RewritesRead = (b : List ℕ) → Bytes b → (fields rates sizes distortions values : List ℕ) → let r = read_export fields rates sizes distortions values opening b in r.number ≡ 0 → (out : List ℕ) → taken_read r ≤ length out → Rewritten b r out

-- lists that are never too short: 12 fields, 16 rates, two values, and a sixth as many sizes and distortions as there are bytes; then the number is 0 exactly where the door takes the bytes
abbrev pub Enough : Type 0
Enough = (d : Door) (b fields rates sizes distortions values : List ℕ) → 12 ≤ length fields → 16 ≤ length rates → length b < 6 * length sizes + 6 → length b < 6 * length distortions + 6 → 2 ≤ length values → ((read_export fields rates sizes distortions values d b).number ≡ 0) ↔ ((j : Job) × (k : ℕ) × (parse d b ≡ P.took j k))
