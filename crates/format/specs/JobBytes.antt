-- A job as bytes: `parse` reads one, `encode` writes one, and `WellFormed` says which can be written (document 01, "The job's bytes"; document 02, E5 and E8). What is claimed of them stands in `Claims`.
use Rattle.std.specs.Prelude.{ℕ, zero, suc, ◌-◌, ◌≡◌, Bool, true, false, ◌&&◌, eqb, length, get_or, drop, replicate}
use mathlib.Core.List.{List, [], ◌∷◌, ◌++◌, map, zip_with}
use Rattle.model.specs.Job.{Bucket, Coding, Job}
use Rattle.format.specs.Fields.{number, bytes, total, fields, spelled}
use Rattle.format.specs.Limits.{Limit, limit, kept, broken, AllKept}
use Rattle.format.specs.Parser.{Result, refused, took, Parser, done, further, onward, ◌>>=◌, unless_refused, with_value, many, all_bytes, Each}
use Rattle.format.specs.Records.{Form, block, head_values, head_limits, record_due, kind_in, form_for, record_either, record_bytes}

-- a bucket as a header tells it: its size, its drain, its starting level
pub record Policed : Type 0 where
  pub size : ℕ
  pub drain : ℕ
  pub fill : ℕ

-- what kinds 1 and 8 say of a job: N, d, D, the decoder's starting level, the buckets, P and M
pub record Header : Type 0 where
  pub units : ℕ
  pub delay : ℕ
  pub decoder : ℕ
  pub level : ℕ
  pub buckets : List Policed
  pub rates : ℕ
  pub choices : ℕ

-- how many buckets there are beside the first
abbrev pub further_buckets : Header → ℕ
further_buckets h = length h.buckets - 1

-- the buckets behind the first, three fields each, and back
unfoldable pub bucket_values : List Policed → List ℕ
bucket_values [] = []
bucket_values (k ∷ ks) = k.size ∷ k.drain ∷ k.fill ∷ bucket_values ks

unfoldable pub policed_by : List ℕ → List Policed
policed_by [] = []
policed_by (s ∷ []) = []
policed_by (s ∷ d ∷ []) = []
policed_by (s ∷ d ∷ l ∷ vs) = record { size = s; drain = d; fill = l } ∷ policed_by vs

-- the fields of a header in their order, those of kind 1 first, and back
abbrev pub no_bucket : Policed
no_bucket = record { size = 0; drain = 0; fill = 0 }

unfoldable pub nine_values : Header → Policed → List ℕ → List ℕ
nine_values h k more = h.units ∷ h.delay ∷ h.decoder ∷ k.size ∷ k.drain ∷ h.level ∷ k.fill ∷ h.rates ∷ h.choices ∷ more

unfoldable pub header_values : Header → List ℕ
header_values h = nine_values h (get_or h.buckets 0 no_bucket) (bucket_values (drop 1 h.buckets))

unfoldable pub header_of : List ℕ → Header
header_of vs = record {
  units = get_or vs 0 0;
  delay = get_or vs 1 0;
  decoder = get_or vs 2 0;
  level = get_or vs 5 0;
  buckets = record { size = get_or vs 3 0; drain = get_or vs 4 0; fill = get_or vs 6 0 } ∷ policed_by (drop 9 vs);
  rates = get_or vs 7 0;
  choices = get_or vs 8 0;
}

-- whether two headers agree in every field, and in every bucket
unfoldable pub same_buckets : List Policed → List Policed → Bool
same_buckets [] [] = true
same_buckets [] (l ∷ ls) = false
same_buckets (k ∷ ks) [] = false
same_buckets (k ∷ ks) (l ∷ ls) = eqb k.size l.size && eqb k.drain l.drain && eqb k.fill l.fill && same_buckets ks ls

unfoldable pub same_header : Header → Header → Bool
same_header a b =
    same_buckets a.buckets b.buckets
    && eqb a.units b.units
    && eqb a.delay b.delay
    && eqb a.decoder b.decoder
    && eqb a.level b.level
    && eqb a.rates b.rates
    && eqb a.choices b.choices

-- 3: a field is out of range. There are one bucket or two; the largest size of a bucket depends on its place
abbrev pub largest_sizes : List ℕ
largest_sizes = 255 ∷ 63 ∷ []

abbrev pub bucket_limits : List ℕ → List Policed → List Limit
bucket_limits [] ks = []
bucket_limits (s ∷ ss) [] = []
bucket_limits (s ∷ ss) (k ∷ ks) = limit 3 0 s k.size ∷ limit 3 0 4095 k.drain ∷ limit 3 0 k.size k.fill ∷ bucket_limits ss ks

abbrev pub header_limits : Header → List Limit
header_limits h =
    limit 3 1 512 h.units
    ∷ limit 3 0 64 h.delay
    ∷ limit 3 0 255 h.decoder
    ∷ limit 3 0 h.decoder h.level
    ∷ limit 3 1 16 h.rates
    ∷ limit 3 1 1000 h.choices
    ∷ limit 3 1 2 (length h.buckets)
    ∷ bucket_limits largest_sizes h.buckets

-- Which jobs a reader takes (document 02, E8): opening none that has a bucket which never drains, the archive these too.
pub data Door : Type 0 where
  opening : Door
  archive : Door

-- 17: a drain is 0, where the door asks for one that is not
abbrev pub drain_limits : Door → List Policed → List Limit
drain_limits archive ks = []
drain_limits opening [] = []
drain_limits opening (k ∷ ks) = limit 17 1 4095 k.drain ∷ drain_limits opening ks

-- 4: a rate is at most 4,095, and at least `low`: 0 for the first, and one more than the rate before for each other
abbrev pub rate_limit : ℕ → ℕ → Limit
rate_limit low r = limit 4 low 4095 r

abbrev pub rate_limits : ℕ → List ℕ → List Limit
rate_limits low [] = []
rate_limits low (r ∷ rs) = rate_limit low r ∷ rate_limits (suc r) rs

-- a unit's entries as values one after another, and back
unfoldable pub unit_values : List Coding → List ℕ
unit_values [] = []
unit_values (c ∷ cs) = c.size ∷ c.distortion ∷ unit_values cs

unfoldable pub codings : List ℕ → List Coding
codings [] = []
codings (s ∷ []) = []
codings (s ∷ d ∷ vs) = record { size = s; distortion = d } ∷ codings vs

-- 5: a size and a distortion, each at most its limit
abbrev pub size_limit : ℕ → Limit
size_limit s = limit 5 0 4095 s

abbrev pub distortion_limit : ℕ → Limit
distortion_limit d = limit 5 0 1000000 d

abbrev pub coding_limits : List Coding → List Limit
coding_limits [] = []
coding_limits (c ∷ cs) = size_limit c.size ∷ distortion_limit c.distortion ∷ coding_limits cs

-- m entries, each a u16 and a u32
unfoldable pub entry_widths : ℕ → List ℕ
entry_widths zero = []
entry_widths (suc m) = 2 ∷ 4 ∷ entry_widths m

-- nine fields of two bytes, then three for each of n further buckets
unfoldable pub bucket_widths : ℕ → List ℕ
bucket_widths zero = []
bucket_widths (suc n) = 2 ∷ 2 ∷ 2 ∷ bucket_widths n

unfoldable pub header_widths : ℕ → List ℕ
header_widths n = 2 ∷ 2 ∷ 2 ∷ 2 ∷ 2 ∷ 2 ∷ 2 ∷ 2 ∷ 2 ∷ bucket_widths n

-- the kinds of record: a header of kind 1, or with further buckets of kind 8, rates, units
unfoldable pub header_kind : ℕ → ℕ
header_kind zero = 1
header_kind (suc n) = 8

unfoldable pub header_form : ℕ → Form
header_form n = record { kind = header_kind n; widths = header_widths n; limits = λ vs. header_limits (header_of vs) }

unfoldable pub rates_form : ℕ → Form
rates_form p = record { kind = 2; widths = replicate p 2; limits = rate_limits 0 }

unfoldable pub unit_form : ℕ → Form
unit_form m = record { kind = 3; widths = entry_widths m; limits = λ vs. coding_limits (codings vs) }

-- the job of a header, rates and units
unfoldable pub bucket_of : Policed → Bucket
bucket_of k = record { size = k.size; drain = k.drain }

unfoldable pub job_of : Header → List ℕ → List (List Coding) → Job
job_of h rates units = record {
  delay = h.delay;
  line = record { decoder = h.decoder; buckets = map bucket_of h.buckets; rates = rates };
  start = record { decoder = h.level; buckets = map (λ k. k.fill) h.buckets };
  choices = h.choices;
  units = units;
}

-- the header of a job
unfoldable pub policed : Bucket → ℕ → Policed
policed k l = record { size = k.size; drain = k.drain; fill = l }

unfoldable pub header_in : Job → Header
header_in j = record {
  units = length j.units;
  delay = j.delay;
  decoder = j.line.decoder;
  level = j.start.decoder;
  buckets = zip_with policed j.line.buckets j.start.buckets;
  rates = length j.line.rates;
  choices = j.choices;
}

-- a header record of either kind, then the drains that it tells, of which nothing more is read
unfoldable pub header_read : Parser Header
header_read = do
  r ← record_either (header_form 0) (header_form 1)
  done (header_of r.values)

unfoldable pub draining : Door → Header → Parser Header
draining d h b = unless_refused (broken (drain_limits d h.buckets)) (took h 0)

unfoldable pub header_parser : Door → Parser Header
header_parser d = do
  h ← header_read
  draining d h

unfoldable pub unit_parser : ℕ → Parser (List Coding)
unit_parser m = do
  vs ← record_due (unit_form m)
  done (codings vs)

-- the header, a record of its P rates, N records of its M entries: the job, and how many bytes it took
unfoldable pub parse : Door → Parser Job
parse d = do
  h ← header_parser d
  rates ← record_due (rates_form h.rates)
  units ← many h.units (unit_parser h.choices)
  done (job_of h rates units)

-- a header that no job has
abbrev pub no_header : Header
no_header = record { units = 0; delay = 0; decoder = 0; level = 0; buckets = no_bucket ∷ []; rates = 0; choices = 0 }

-- the job that bytes hold, drained or not; where they hold none, a job without units
unfoldable pub job_or_none : Result Job → Job
job_or_none (refused n) = job_of no_header [] []
job_or_none (took j k) = j

unfoldable pub job_in : List ℕ → Job
job_in b = job_or_none (parse archive b)

-- the bytes hold a job, and it has this header
pub record Opens (b : List ℕ) (h : Header) : Type 0 where
  pub taken : ℕ
  pub parsed : parse archive b ≡ took (job_in b) taken
  pub header_is : header_in (job_in b) ≡ h

-- the records of a job, in their only order
unfoldable pub unit_bytes : ℕ → List Coding → List ℕ
unit_bytes m u = record_bytes (unit_form m) (unit_values u)

unfoldable pub header_bytes : Header → List ℕ
header_bytes h = record_bytes (header_form (further_buckets h)) (header_values h)

unfoldable pub encode : Job → List ℕ
encode j =
    header_bytes (header_in j)
    ++ (record_bytes (rates_form (header_in j).rates) j.line.rates
    ++ all_bytes (unit_bytes (header_in j).choices) j.units)

-- a unit of m entries within their limits
pub record UnitKept (m : ℕ) (u : List Coding) : Type 0 where
  pub count : length u ≡ m
  pub limits : AllKept (coding_limits u)

-- a job whose values are within the limits of documents 01 and 02, with a starting level for each bucket
pub record WellFormed (j : Job) : Type 0 where
  pub fills : length j.start.buckets ≡ length j.line.buckets
  pub header : AllKept (header_limits (header_in j))
  pub rates : AllKept (rate_limits 0 j.line.rates)
  pub units : Each (UnitKept j.choices) j.units

-- and whose buckets drain, where the door asks for it
pub record Formed (d : Door) (j : Job) : Type 0 where
  pub well_formed : WellFormed j
  pub drains : AllKept (drain_limits d (header_in j).buckets)

-- to unfold this is to unfold all that `parse` and `encode` compute through: for a worked example
unfoldable pub computes : Unit {0}
unfolding number bytes total fields spelled kept broken done further onward ◌>>=◌ unless_refused with_value many all_bytes zip_with block head_values head_limits record_due kind_in form_for record_either record_bytes bucket_values policed_by nine_values header_values header_of same_buckets same_header unit_values codings entry_widths bucket_widths header_widths header_kind header_form rates_form unit_form bucket_of job_of policed header_in header_read draining header_parser unit_parser parse unit_bytes header_bytes encode
computes = tt
