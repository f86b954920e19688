-- A job's bytes there and back: what `encode` writes `parse` reads, and what `parse` reads `encode` writes.
use Prim.Native.Nat.{ℕ, zero, suc, ◌+◌, ◌*◌, ◌-◌, ◌≤◌, ◌<◌}
use mathlib.Core.Path.{◌≡◌, refl, sym, ap, ap₂, ◌∙◌}
use mathlib.Core.List.{List, [], ◌∷◌, ◌++◌, map}
use native.Mathlib.Omega.{arith}
use native.Mathlib.Nat.{zero-mul, suc-mul}
use lib.ListN.{length, get_or, drop, replicate, length-append, length-map, length-replicate}
use Rattle.model.specs.Job.{Bucket, Coding, Job}
use Rattle.format.specs.JobBytes.{Policed, Header, further_buckets, bucket_values, policed_by, no_bucket, nine_values, header_values, header_of, largest_sizes, bucket_limits, header_limits, rate_limits, unit_values, codings, coding_limits, entry_widths, bucket_widths, header_widths, header_kind, header_form, rates_form, unit_form, bucket_of, job_of, header_in, header_parser, unit_parser, parse, unit_bytes, header_bytes, encode, UnitKept, WellFormed, Door, drain_limits, header_read, Formed}
use Rattle.format.proofs.Doors.{header_by, by_header}
use Rattle.format.specs.Fields.{total, Fit}
use Rattle.format.specs.Fields as F
use Rattle.format.specs.Limits.{AllKept}
use Rattle.format.specs.Parser.{done, ◌>>=◌, many, all_bytes, Each}
use Rattle.format.specs.Parser as P
use Rattle.format.specs.Records.{Form, head_widths, head_values, record_due, form_for, Filled, filled, filled_bytes, record_bytes}
use Rattle.format.specs.Places.{unit_size}
use Rattle.format.specs.Claims.{ReadsBack, WritesBack, Sized}
use Rattle.format.proofs.Records.{total_same, total_entries}
use Rattle.format.proofs.Header.{buckets_apart, header_back}
use Rattle.format.proofs.Either.{FilledGood, exact_either, first_form, second_form, either_form}
use Rattle.format.proofs.Exact.{Exact, RecordGood, record_length, exact_record, exact_map, exact_then, exact_many, exact_same, exact_written}
use mathlib.Core.Logic.{◌⊎◌, inl, inr}

-- values of two bytes
small : (vs : List ℕ) → Each (λ v. v < 65536) vs → Fit (replicate (length vs) 2) vs
small [] P.no_more = F.no_more
small (v ∷ vs) (P.one_more h t) = F.one_more {w = 2} h (small vs t)

pub head_fit : (f : Form) → total f.widths < 65534 → f.kind < 65536 → Fit head_widths (head_values f)
unfolding head_values
head_fit f h k = small ((2 + total f.widths) ∷ f.kind ∷ []) (P.one_more {a = 2 + total f.widths} (omega arith) (P.one_more k P.no_more))

abbrev Small : List ℕ → Type 0
Small [] = Unit {0}
Small (v ∷ vs) = (v < 65536) × Small vs

each_small : (vs : List ℕ) → Small vs → Each (λ v. v < 65536) vs
each_small [] h = P.no_more
each_small (v ∷ vs) h = P.one_more h.0 (each_small vs h.1)

-- the header: nine values within their limits, and three for each further bucket
bucket_fit : (ss : List ℕ) (ks : List Policed) → length ks ≤ length ss → Each (λ s. s < 65536) ss → AllKept (bucket_limits ss ks) → Fit (bucket_widths (length ks)) (bucket_values ks)
unfolding bucket_widths bucket_values
bucket_fit ss [] h e k = F.no_more
bucket_fit [] (p ∷ ks) h e k = absurd (omega arith)
bucket_fit (s ∷ ss) (p ∷ ks) h (P.one_more l e) k =
    F.one_more {w = 2} {v = p.size} (omega arith)
    (F.one_more {w = 2} {v = p.drain} (omega arith)
    (F.one_more {w = 2} {v = p.fill} (omega arith) (bucket_fit ss ks (omega arith) e k.1.1.1)))

-- the nine fields are small
abbrev Nine : Header → Policed → Type 0
Nine h p = (h.units < 65536) × (h.delay < 65536) × (h.decoder < 65536) × (p.size < 65536) × (p.drain < 65536) × (h.level < 65536) × (p.fill < 65536) × (h.rates < 65536) × (h.choices < 65536)

nine_fit : (h : Header) (p : Policed) (n : ℕ) (more : List ℕ) → Nine h p → Fit (bucket_widths n) more → Fit (header_widths n) (nine_values h p more)
unfolding header_widths nine_values
nine_fit h p n more k t =
    F.one_more {w = 2} k.0 (F.one_more {w = 2} k.1 (F.one_more {w = 2} k.2 (F.one_more {w = 2} k.3 (F.one_more {w = 2} k.4 (F.one_more {w = 2} k.5 (F.one_more {w = 2} k.6 (F.one_more {w = 2} k.7 (F.one_more {w = 2} k.8 t))))))))

-- the fields of a header, there and back
policed_back : (ks : List Policed) → policed_by (bucket_values ks) ≡ ks
unfolding policed_by bucket_values
policed_back [] = refl
policed_back (p ∷ ks) = ap (λ (l : List Policed). p ∷ l) (policed_back ks)

record Triples (n : ℕ) (vs : List ℕ) : Type 0 where
  back : bucket_values (policed_by vs) ≡ vs
  count : length (policed_by vs) ≡ n

triples : (n : ℕ) {vs : List ℕ} → Fit (bucket_widths n) vs → Triples n vs
unfolding bucket_widths policed_by bucket_values
triples zero F.no_more = record { back = refl; count = refl }
triples (suc n) (F.one_more {v = a} h (F.one_more {v = b} k (F.one_more {v = c} l t))) =
    let r = triples n t in
    record { back = ap (λ (m : List ℕ). a ∷ b ∷ c ∷ m) r.back; count = ap suc r.count }

nine_back : (n : ℕ) {vs : List ℕ} → Fit (header_widths n) vs → (header_values (header_of vs) ≡ vs) × (length (header_of vs).buckets ≡ suc n)
unfolding header_values header_of nine_values header_widths
nine_back n (F.one_more {v = a} h₁ (F.one_more {v = b} h₂ (F.one_more {v = c} h₃ (F.one_more {v = d} h₄ (F.one_more {v = e} h₅ (F.one_more {v = f} h₆ (F.one_more {v = g} h₇ (F.one_more {v = h} h₈ (F.one_more {v = i} h₉ t))))))))) =
    let r = triples n t in
    (ap (λ (m : List ℕ). a ∷ b ∷ c ∷ d ∷ e ∷ f ∷ g ∷ h ∷ i ∷ m) r.back, ap suc r.count)

-- the same header with these buckets
with_policed : Header → List Policed → Header
with_policed h ks = record { units = h.units; delay = h.delay; decoder = h.decoder; level = h.level; buckets = ks; rates = h.rates; choices = h.choices }

again : (h : Header) (ks : List Policed) → 1 ≤ length ks → header_of (nine_values h (get_or ks 0 no_bucket) (bucket_values (drop 1 ks))) ≡ with_policed h ks
unfolding header_of nine_values with_policed
again h [] l = absurd (omega arith)
again h (p ∷ ks) l = rw (policed_back ks)

pub header_again : (h : Header) → 1 ≤ length h.buckets → header_of (header_values h) ≡ h
unfolding header_values with_policed
header_again h l = again h h.buckets l

header_fit : (h : Header) → AllKept (header_limits h) → Fit (header_widths (further_buckets h)) (header_values h)
unfolding header_values with_policed
header_fit h k = go h.buckets k
  where
    go : (ks : List Policed) → AllKept (header_limits (with_policed h ks)) → Fit (header_widths (length ks - 1)) (nine_values h (get_or ks 0 no_bucket) (bucket_values (drop 1 ks)))
    go [] k = absurd (omega arith)
    go (p ∷ ks) k =
        let e : length (p ∷ ks) - 1 ≡ length ks = omega arith in
        let nine : Nine h p = unfold with_policed in (omega arith) in
        rw e (nine_fit h p (length ks) (bucket_values ks) nine (bucket_fit (drop 1 largest_sizes) ks (unfold with_policed in (omega arith)) (each_small (drop 1 largest_sizes) (omega arith)) k.1.1.1.1.1.1.1.1.1.1))

header_good : (h : Header) → AllKept (header_limits h) → RecordGood (header_form (further_buckets h)) (header_values h)
unfolding header_form
header_good h k = record { fit = header_fit h k; kept = rw (header_again h (omega arith)) k }

-- how many bytes its record has
bucket_total : (n : ℕ) → total (bucket_widths n) ≡ 6 * n
unfolding total bucket_widths
bucket_total zero = refl
bucket_total (suc n) = omega (arith, bucket_total n)

pub header_total : (n : ℕ) → total (header_form n).widths ≡ 18 + 6 * n
unfolding header_form header_widths total
header_total n = omega (arith, bucket_total n)

kind_small : (n : ℕ) → header_kind n < 65536
unfolding header_kind
kind_small zero = omega arith
kind_small (suc n) = omega arith

header_head : (n : ℕ) → n ≤ 1 → Fit head_widths (head_values (header_form n))
header_head n h = head_fit (header_form n) (omega (arith, header_total n)) (unfold header_form in (kind_small n))

-- the form of a record of either kind
pub kinds_apart : (header_form 0).kind ≡ (header_form 1).kind → ⊥
unfolding header_form header_kind
kinds_apart e = omega arith

pub form_count : (n : ℕ) → n ≤ 1 → form_for (header_form 0) (header_form 1) (header_form n).kind ≡ header_form n
form_count zero h = first_form (header_form 0) (header_form 1) kinds_apart _ refl
form_count (suc zero) h = second_form (header_form 0) (header_form 1) kinds_apart _ refl
form_count (suc (suc n)) h = absurd (omega arith)

pub either_count : (k : ℕ) → (n : ℕ) × (n ≤ 1) × (form_for (header_form 0) (header_form 1) k ≡ header_form n)
either_count k = go (either_form (header_form 0) (header_form 1) kinds_apart k)
  where
    go : ((form_for (header_form 0) (header_form 1) k ≡ header_form 0) ⊎ (form_for (header_form 0) (header_form 1) k ≡ header_form 1)) → (n : ℕ) × (n ≤ 1) × (form_for (header_form 0) (header_form 1) k ≡ header_form n)
    go (inl e) = (0, omega arith, e)
    go (inr e) = (1, omega arith, e)

head_either : (k : ℕ) → Fit head_widths (head_values (form_for (header_form 0) (header_form 1) k))
head_either k = let c = either_count k in rw c.2 (header_head c.0 c.1)

-- a header as a record, and the bytes of it
header_record : Header → Filled
header_record h = filled (header_form (further_buckets h)) (header_values h)

record_good : (h : Header) → AllKept (header_limits h) → FilledGood (header_form 0) (header_form 1) (header_record h)
unfolding header_record
record_good h k =
    let e = form_count (further_buckets h) (omega arith) in
    record { due = ap (λ (f : Form). f.kind) e; good = rw e (header_good h k) }

values_good : (n : ℕ) (vs : List ℕ) → n ≤ 1 → RecordGood (header_form n) vs → AllKept (header_limits (header_of vs)) × (header_values (header_of vs) ≡ vs) × (further_buckets (header_of vs) ≡ n)
unfolding header_form
values_good n vs h g =
    let r = nine_back n g.fit in
    (g.kept, r.0, omega (arith, r.1))

good_values : (r : Filled) → FilledGood (header_form 0) (header_form 1) r → AllKept (header_limits (header_of r.values)) × (header_record (header_of r.values) ≡ r)
unfolding header_record
good_values r g =
    let c = either_count r.kind in
    let v = values_good c.0 r.values c.1 (rw c.2 at g.good) in
    let k : (header_form (further_buckets (header_of r.values))).kind ≡ r.kind = ap (λ (n : ℕ). (header_form n).kind) v.2 ∙ ap (λ (f : Form). f.kind) (sym c.2) ∙ g.due in
    (v.0, λ i. record { kind = k i; values = v.1 i })

written_so : (h : Header) → AllKept (header_limits h) → filled_bytes (header_form 0) (header_form 1) (header_record h) ≡ header_bytes h
unfolding filled_bytes header_record header_bytes
written_so h k = ap (λ (f : Form). record_bytes f (header_values h)) (form_count (further_buckets h) (omega arith))

exact_read : Exact header_read (λ h. AllKept (header_limits h)) header_bytes
unfolding header_read header_record
exact_read =
    exact_written
    (exact_map (exact_either (header_form 0) (header_form 1) head_either) (λ r. header_of r.values) header_record (λ h. AllKept (header_limits h))
    (λ h k. (record_good h k, header_again h (omega arith))) good_values)
    header_bytes written_so

-- with the drains that a door takes
abbrev HeaderKept : Door → Header → Type 0
HeaderKept d h = AllKept (header_limits h) × AllKept (drain_limits d h.buckets)

exact_header : (d : Door) → Exact (header_parser d) (HeaderKept d) header_bytes
exact_header d = record {
  forth = λ h k rest. by_header d _ h _ (record { read = exact_read.forth h k.0 rest; drains = k.1 });
  back = λ b B h n e.
      let x = header_by d b h n e in
      let r = exact_read.back b B h n x.read in
      record { size = r.size; same = r.same; good = (r.good, x.drains) };
}

-- the rates
rates_small : (low : ℕ) (rs : List ℕ) → AllKept (rate_limits low rs) → Each (λ v. v < 65536) rs
rates_small low [] k = P.no_more
rates_small low (r ∷ rs) k = P.one_more {a = r} (omega arith) (rates_small _ rs k.1)

fit_count : {ws vs : List ℕ} → Fit ws vs → length vs ≡ length ws
fit_count F.no_more = refl
fit_count (F.one_more h t) = ap suc (fit_count t)

-- P rates within their limits
pub record RatesKept (p : ℕ) (rs : List ℕ) : Type 0 where
  pub count : length rs ≡ p
  pub limits : AllKept ((rates_form p).limits rs)

rates_good : (p : ℕ) (rs : List ℕ) → RatesKept p rs → RecordGood (rates_form p) rs
unfolding rates_form
rates_good p rs k = record { fit = rw (← k.count) (small rs (rates_small _ rs k.limits)); kept = k.limits }

rates_kept : (p : ℕ) (rs : List ℕ) → RecordGood (rates_form p) rs → RatesKept p rs
unfolding rates_form
rates_kept p rs g = record { count = fit_count g.fit ∙ length-replicate p 2; limits = g.kept }

rates_head : (p : ℕ) → 2 * p < 65534 → Fit head_widths (head_values (rates_form p))
unfolding rates_form
rates_head p h = head_fit (rates_form p) (omega (arith, total_same p 2)) (omega arith)

exact_rates : (p : ℕ) → 2 * p < 65534 → Exact (record_due (rates_form p)) (RatesKept p) (record_bytes (rates_form p))
exact_rates p h = exact_same (RatesKept p) (exact_record (rates_form p) (rates_head p h)) (rates_good p) (rates_kept p)

-- a unit
values_back : (u : List Coding) → codings (unit_values u) ≡ u
unfolding codings unit_values
values_back [] = refl
values_back (c ∷ u) = ap (λ (l : List Coding). c ∷ l) (values_back u)

codings_back : (m : ℕ) (vs : List ℕ) → Fit (entry_widths m) vs → (unit_values (codings vs) ≡ vs) × (length (codings vs) ≡ m)
unfolding codings unit_values entry_widths
codings_back zero vs F.no_more = (refl, refl)
codings_back (suc m) vs (F.one_more {v = s} h (F.one_more {v = d} {vs = ws} k t)) =
    let r = codings_back m ws t in
    (ap (λ (l : List ℕ). s ∷ d ∷ l) r.0, ap suc r.1)

unit_fit : (u : List Coding) → AllKept (coding_limits u) → Fit (entry_widths (length u)) (unit_values u)
unfolding unit_values entry_widths
unit_fit [] k = F.no_more
unit_fit (c ∷ u) k = F.one_more {w = 2} {v = c.size} (omega arith) (F.one_more {w = 4} {v = c.distortion} (omega arith) (unit_fit u k.1.1))

unit_good : (m : ℕ) (u : List Coding) → UnitKept m u → RecordGood (unit_form m) (unit_values u)
unfolding unit_form
unit_good m u k = record { fit = rw (← k.count) (unit_fit u k.limits); kept = rw values_back k.limits }

unit_kept : (m : ℕ) (vs : List ℕ) → RecordGood (unit_form m) vs → UnitKept m (codings vs)
unfolding unit_form
unit_kept m vs g = record { count = (codings_back m vs g.fit).1; limits = g.kept }

unit_same : (m : ℕ) (vs : List ℕ) → RecordGood (unit_form m) vs → unit_values (codings vs) ≡ vs
unfolding unit_form
unit_same m vs g = (codings_back m vs g.fit).0

unit_head : (m : ℕ) → 6 * m < 65534 → Fit head_widths (head_values (unit_form m))
unfolding unit_form
unit_head m h = head_fit (unit_form m) (omega (arith, total_entries m)) (omega arith)

exact_unit : (m : ℕ) → 6 * m < 65534 → Exact (unit_parser m) (UnitKept m) (unit_bytes m)
unfolding unit_parser unit_bytes
exact_unit m h =
    exact_map (exact_record (unit_form m) (unit_head m h)) codings unit_values (UnitKept m) (λ u k. (unit_good m u k, values_back u)) (λ vs g. (unit_kept m vs g, unit_same m vs g))

-- the units make the job whole
pub record UnitsGood (h : Header) (rs : List ℕ) (j : Job) : Type 0 where
  pub job_is : j ≡ job_of h rs j.units
  pub count : length j.units ≡ h.units
  pub units : Each (UnitKept h.choices) j.units

pub record RestGood (h : Header) (j : Job) : Type 0 where
  pub rates : RatesKept h.rates j.line.rates
  pub units : UnitsGood h j.line.rates j

module _ (h : Header) (k : AllKept (header_limits h)) where
  exact_units : (rs : List ℕ) → Exact (many h.units (unit_parser h.choices) >>= λ us. done (job_of h rs us)) (UnitsGood h rs) (λ j. all_bytes (unit_bytes h.choices) j.units)
  unfolding job_of
  exact_units rs =
      exact_map (exact_many (exact_unit h.choices (omega arith)) h.units) (job_of h rs) (λ j. j.units) (UnitsGood h rs)
      (λ j g. ((g.count, g.units), sym g.job_is))
      (λ us g. (record { job_is = refl; count = g.0; units = g.1 }, refl))

  told_rates : (rs : List ℕ) (j : Job) → UnitsGood h rs j → j.line.rates ≡ rs
  unfolding job_of
  told_rates rs j g = ap (λ (i : Job). i.line.rates) g.job_is

  exact_rest : Exact (record_due (rates_form h.rates) >>= λ rs. many h.units (unit_parser h.choices) >>= λ us. done (job_of h rs us)) (RestGood h) (λ j. record_bytes (rates_form h.rates) j.line.rates ++ all_bytes (unit_bytes h.choices) j.units)
  exact_rest =
      exact_same (RestGood h)
      (exact_then (exact_rates h.rates (omega arith)) (λ j. j.line.rates) (λ rs. many h.units (unit_parser h.choices) >>= λ us. done (job_of h rs us)) (UnitsGood h) (λ rs j. all_bytes (unit_bytes h.choices) j.units) (λ rs g. exact_units rs) told_rates)
      (λ j g. (g.rates, g.units))
      (λ j g. record { rates = g.0; units = g.1 })

told_header : (h : Header) (j : Job) → RestGood h j → header_in j ≡ h
told_header h j g = ap header_in g.units.job_is ∙ header_back h j.line.rates j.units g.rates.count g.units.count

-- a job with other buckets and levels
with_buckets : Job → List Bucket → List ℕ → Job
with_buckets j bs ls = record {
  delay = j.delay;
  line = record { decoder = j.line.decoder; buckets = bs; rates = j.line.rates };
  start = record { decoder = j.start.decoder; buckets = ls };
  choices = j.choices;
  units = j.units;
}

pub job_back : (j : Job) → WellFormed j → j ≡ job_of (header_in j) j.line.rates j.units
unfolding job_of header_in with_buckets
job_back j w = let r = buckets_apart j.line.buckets j.start.buckets w.fills in ap₂ (with_buckets j) (sym r.0) (sym r.1)

pub record JobGood (j : Job) : Type 0 where
  pub header : AllKept (header_limits (header_in j))
  pub rest : RestGood (header_in j) j

good_job : (j : Job) → WellFormed j → JobGood j
unfolding header_in rates_form
good_job j w = record {
  header = w.header;
  rest = record {
    rates = record { count = refl; limits = w.rates };
    units = record { job_is = job_back j w; count = refl; units = w.units };
  };
}

each_level : (ks : List Policed) → length (map (λ k. k.fill) ks) ≡ length (map bucket_of ks)
each_level ks = length-map ks (λ k. k.fill) ∙ sym (length-map ks bucket_of)

pub level_each : (j : Job) (h : Header) (rs : List ℕ) (us : List (List Coding)) → j ≡ job_of h rs us → length j.start.buckets ≡ length j.line.buckets
unfolding job_of
level_each j h rs us e = ap (λ (i : Job). length i.start.buckets) e ∙ each_level h.buckets ∙ sym (ap (λ (i : Job). length i.line.buckets) e)

well_formed : (j : Job) → JobGood j → WellFormed j
unfolding header_in rates_form
well_formed j g = record {
  fills = level_each j (header_in j) _ _ g.rest.units.job_is;
  header = g.header;
  rates = g.rest.rates.limits;
  units = g.rest.units.units;
}

pub exact_parse : (d : Door) → Exact (parse d) (Formed d) encode
unfolding parse encode
exact_parse d =
    exact_same (Formed d)
    (exact_then (exact_header d) header_in (λ h. record_due (rates_form h.rates) >>= λ rs. many h.units (unit_parser h.choices) >>= λ us. done (job_of h rs us)) RestGood (λ h j. record_bytes (rates_form h.rates) j.line.rates ++ all_bytes (unit_bytes h.choices) j.units) (λ h k. exact_rest h k.0) told_header)
    (λ j w. let g = good_job j w.well_formed in ((g.header, w.drains), g.rest))
    (λ j g. record { well_formed = well_formed j (record { header = g.0.0; rest = g.1 }); drains = g.0.1 })

pub parse_encode : ReadsBack
parse_encode d j w rest = (exact_parse d).forth j w rest

pub encode_parse : WritesBack
encode_parse d b B j n e = let r = (exact_parse d).back b B j n e in record { size = r.size; same = r.same; formed = r.good }

-- how many bytes that is
unit_length : (m : ℕ) → 6 * m < 65534 → (u : List Coding) → UnitKept m u → length (unit_bytes m u) ≡ unit_size m
unfolding unit_bytes unit_form
unit_length m h u k = record_length (unit_form m) (unit_values u) (unit_head m h) (unit_good m u k).fit ∙ rw total_entries

units_length : (m : ℕ) → 6 * m < 65534 → (us : List (List Coding)) → Each (UnitKept m) us → length (all_bytes (unit_bytes m) us) ≡ length us * unit_size m
unfolding all_bytes
units_length m h [] P.no_more = sym (zero-mul (unit_size m))
units_length m h (u ∷ us) (P.one_more k t) =
    length-append (unit_bytes m u) (all_bytes (unit_bytes m) us)
    ∙ ap₂ ◌+◌ (unit_length m h u k) (units_length m h us t)
    ∙ omega (arith, suc-mul (length us) (unit_size m))

pub sized : Sized
unfolding encode header_bytes header_in rates_form
sized j w =
    let h = header_in j in
    let k = w.header in
    let r = record_length (header_form (further_buckets h)) (header_values h) (header_head (further_buckets h) (omega arith)) (header_good h k).fit in
    let s = record_length (rates_form h.rates) j.line.rates (rates_head h.rates (omega arith)) (rates_good h.rates j.line.rates (record { count = refl; limits = w.rates })).fit in
    let u = units_length h.choices (omega arith) j.units w.units in
    let units = all_bytes (unit_bytes h.choices) j.units in
    omega (arith, header_total (further_buckets h), total_same h.rates 2, length-append (header_bytes h) (record_bytes (rates_form h.rates) j.line.rates ++ units), length-append (record_bytes (rates_form h.rates) j.line.rates) units)
