-- What stands where in the bytes of a job that opens, and that it is within its limits: `LooksUp` and `WellRead`; and that it takes no more bytes than there are.
use Prim.Native.Nat.{ℕ, zero, suc, ◌+◌, ◌*◌, ◌-◌, ◌≤◌, ◌<◌}
use mathlib.Core.Path.{◌≡◌, refl, sym, ap, ◌∙◌}
use mathlib.Core.List.{List, [], ◌∷◌}
use native.Mathlib.Omega.{arith}
use native.Mathlib.Nat.{suc-mul, zero-mul}
use borrow.Author.Tests.{le-leb}
use lib.ListN.{length, get_or, take, drop, replicate, length-drop, length-replicate}
use lib.Seq.{drop-drop}
use Rattle.model.specs.Job.{Coding, Job, nothing, job_coding}
use Rattle.format.specs.Fields.{number, total, fields}
use Rattle.format.specs.Parser.{refused, took, Parser, many, Each, no_more, one_more}
use Rattle.format.specs.Records.{Form, record_due, kind_in, record_either}
use Rattle.format.specs.Limits.{AllKept}
use Rattle.format.specs.JobBytes.{Header, further_buckets, policed_by, header_of, codings, entry_widths, bucket_widths, header_widths, header_form, rates_form, unit_form, job_of, header_in, header_parser, unit_parser, parse, UnitKept, Door, opening, archive, drain_limits, header_limits, draining, header_read}
use Rattle.format.proofs.Doors.{header_by, by_header, draining_refused}
use Rattle.format.specs.Places.{field_at, header_size, rates_size, unit_size, job_size, rate_place, rate_at, coding_place, coding_at}
use Rattle.format.specs.Claims.{WellRead, LooksUp}
use Rattle.format.proofs.Fields.{nth_field}
use Rattle.format.proofs.Records.{total_same, total_entries}
use Rattle.format.proofs.Parsing.{bind_refused, bind_later, bind_took, RecordTook, bound, record_is, fields_length, many_is, many_length, done_is}
use Rattle.format.proofs.Header.{header_back}
use Rattle.format.proofs.Either.{either_is}
use Rattle.format.proofs.RoundTrip.{header_total, either_count, level_each}

-- a field that is wholly there
pub field_there : (w : ℕ) (b : List ℕ) (at : ℕ) → at + w ≤ length b → field_at w b at ≡ number (take w (drop at b))
unfolding field_at
field_there w b at h = rw (le-leb (at + w) (length b) h)

-- the same record at a place and of a size that are shown equal
moved : (f : Form) {a b vs : List ℕ} {m n : ℕ} → a ≡ b → m ≡ n → RecordTook f a vs m → RecordTook f b vs n
moved f p q t = rw (← p, ← q) t

record UnitTook (m : ℕ) (b : List ℕ) (cs : List Coding) (n : ℕ) : Type 0 where
  values : List ℕ
  taken : RecordTook (unit_form m) b values n
  codings_are : cs ≡ codings values
  size : n ≡ unit_size m

unit_is : (m : ℕ) (b : List ℕ) (cs : List Coding) (n : ℕ) → unit_parser m b ≡ took cs n → UnitTook m b cs n
unfolding unit_parser unit_form
unit_is m b cs n e =
    let h = bound (record_due (unit_form m)) _ b cs n e in
    let z = done_is (codings h.value) (drop h.size b) cs h.more h.second in
    let k : n ≡ h.size = omega (arith, h.sizes, z.1) in
    let t = record_is (unit_form m) b h.value h.size h.first in
    record { values = h.value; taken = moved (unit_form m) refl (sym k) t; codings_are = z.0; size = k ∙ t.size ∙ rw total_entries }

-- how many further buckets the fields of a header tell
policed_count : (n : ℕ) (b : List ℕ) → length (policed_by (fields (bucket_widths n) b)) ≡ n
unfolding policed_by fields bucket_widths
policed_count zero b = refl
policed_count (suc n) b = ap suc (policed_count n (drop 2 (drop 2 (drop 2 b))))

pub header_count : (n : ℕ) (b : List ℕ) → further_buckets (header_of (fields (header_form n).widths b)) ≡ n
unfolding header_of header_form header_widths fields
header_count n b = omega (arith, policed_count n (drop 2 (drop 2 (drop 2 (drop 2 (drop 2 (drop 2 (drop 2 (drop 2 (drop 2 b))))))))))

-- the parts of a job that was read
pub record ParseTook (d : Door) (b : List ℕ) (j : Job) (n : ℕ) : Type 0 where
  pub values : List ℕ
  pub header : Header
  pub few : further_buckets header ≤ 1
  pub drains : AllKept (drain_limits d header.buckets)
  pub header_taken : RecordTook (header_form (further_buckets header)) b values (header_size header)
  pub header_is : header ≡ header_of values
  pub rates : List ℕ
  pub rates_taken : RecordTook (rates_form header.rates) (drop (header_size header) b) rates (rates_size header.rates)
  pub units : List (List Coding)
  pub sizes : ℕ
  pub units_read : many header.units (unit_parser header.choices) (drop (header_size header + rates_size header.rates) b) ≡ took units sizes
  pub job_is : j ≡ job_of header rates units
  pub size : n ≡ header_size header + rates_size header.rates + sizes

-- its header
record HeaderTook (b : List ℕ) (h : Header) (n : ℕ) : Type 0 where
  values : List ℕ
  few : further_buckets h ≤ 1
  taken : RecordTook (header_form (further_buckets h)) b values n
  is : h ≡ header_of values
  size : n ≡ header_size h

header_took : (b : List ℕ) (h : Header) (n : ℕ) → header_read b ≡ took h n → HeaderTook b h n
unfolding header_read
header_took b h n e =
    let y = bound (record_either (header_form 0) (header_form 1)) _ b h n e in
    let z = done_is (header_of y.value.values) (drop y.size b) h y.more y.second in
    let c = either_count (kind_in b) in
    let t : RecordTook (header_form c.0) b y.value.values y.size = rw c.2 at (either_is (header_form 0) (header_form 1) b y.value y.size y.first) in
    let k : further_buckets h ≡ c.0 = ap (λ (i : Header). further_buckets i) (z.0 ∙ ap header_of t.values) ∙ header_count c.0 (drop 4 b) in
    let s : n ≡ y.size = omega (arith, y.sizes, z.1) in
    record {
      values = y.value.values;
      few = omega (arith, k, c.1);
      taken = rw k (moved (header_form c.0) refl (sym s) t);
      is = z.0;
      size = omega (arith, s, t.size, header_total c.0, k);
    }

pub read_kept : (b : List ℕ) (h : Header) (n : ℕ) → header_read b ≡ took h n → AllKept (header_limits h)
unfolding header_form
read_kept b h n e = let t = header_took b h n e in rw t.is t.taken.kept

pub parse_is : (d : Door) (b : List ℕ) (j : Job) (n : ℕ) → parse d b ≡ took j n → ParseTook d b j n
unfolding parse
parse_is door b j n e =
    let x = bound (header_parser door) _ b j n e in
    let by = header_by door b x.value x.size x.first in
    let h = x.value in
    let t = header_took b h x.size by.read in
    let d : x.size ≡ header_size h = t.size in
    let u = bound (record_due (rates_form h.rates)) _ (drop x.size b) j x.more x.second in
    let r = record_is (rates_form h.rates) (drop x.size b) u.value u.size u.first in
    let k : u.size ≡ rates_size h.rates = r.size ∙ unfold rates_form in (rw total_same) in
    let w = bound (many h.units (unit_parser h.choices)) _ (drop u.size (drop x.size b)) j u.more u.second in
    let v = done_is (job_of h u.value w.value) (drop w.size (drop u.size (drop x.size b))) j w.more w.second in
    let at : x.size + u.size ≡ header_size h + rates_size h.rates = omega arith in
    record {
      values = t.values;
      header = h;
      few = t.few;
      drains = by.drains;
      header_taken = moved (header_form (further_buckets h)) refl d t.taken;
      header_is = t.is;
      rates = u.value;
      rates_taken = moved (rates_form h.rates) (ap (λ (i : ℕ). drop i b) d) k r;
      units = w.value;
      sizes = w.size;
      units_read = ap (many h.units (unit_parser h.choices)) (sym (drop-drop u.size x.size b ∙ ap (λ (i : ℕ). drop i b) at)) ∙ w.first;
      job_is = v.0;
      size = omega (arith, x.sizes, u.sizes, w.sizes, v.1);
    }

-- the u-th of many readings that all take s bytes
module _ {A : Type 0} (p : Parser A) (s : ℕ) (same : (b : List ℕ) (a : A) (k : ℕ) → p b ≡ took a k → k ≡ s) where
  many_at : (n : ℕ) (b : List ℕ) (xs : List A) (m u : ℕ) (d : A) → many n p b ≡ took xs m → u < n → p (drop (u * s) b) ≡ took (get_or xs u d) s
  many_at zero b xs m u d e h = absurd (omega arith)
  many_at (suc n) b xs m zero d e h =
      let t = many_is p n b xs m e in
      let k : t.size ≡ s = same b t.value t.size t.first in
      rw (zero-mul, t.list, ← k) t.first
  many_at (suc n) b xs m (suc u) d e h =
      let t = many_is p n b xs m e in
      let k : t.size ≡ s = same b t.value t.size t.first in
      let r = many_at n (drop t.size b) t.values t.sizes u d t.others (omega arith) in
      let a : t.size + u * s ≡ suc u * s = omega (arith, suc-mul u s) in
      rw t.list (rw (drop-drop, a) at r)

-- the x-th entry of a unit's fields
pub entry_at : (m x : ℕ) (b : List ℕ) → x < m → get_or (codings (fields (entry_widths m) b)) x nothing ≡ record { size = number (take 2 (drop (6 * x) b)); distortion = number (take 4 (drop (6 * x + 2) b)) }
unfolding fields entry_widths codings
entry_at zero x b h = absurd (omega arith)
entry_at (suc m) zero b h = refl
entry_at (suc m) (suc x) b h =
    let p : 2 + (4 + 6 * x) ≡ 6 * suc x = omega arith in
    let q : 2 + (4 + (6 * x + 2)) ≡ 6 * suc x + 2 = omega arith in
    entry_at m x (drop 4 (drop 2 b)) (omega arith) ∙ rw (drop-drop, drop-drop, drop-drop, drop-drop, p, q)

module _ (d : Door) (b : List ℕ) (j : Job) (n : ℕ) (t : ParseTook d b j n) (h : Header) (e : t.header ≡ h) where
  -- where a rate stands
  rates_of : j.line.rates ≡ fields (replicate h.rates 2) (drop (header_size h + 4) b)
  unfolding job_of rates_form
  rates_of = ap (λ (k : Job). k.line.rates) t.job_is ∙ t.rates_taken.values ∙ rw (drop-drop, e)

  rates_room : header_size h + rates_size h.rates ≤ length b
  unfolding rates_form
  rates_room =
      let g : t.header.rates ≡ h.rates = ap (λ (k : Header). k.rates) e in
      let w : length (drop (header_size t.header) b) ≡ length (drop (header_size h) b) = ap (λ (k : Header). length (drop (header_size k) b)) e in
      let d : length (drop (header_size h) b) ≡ length b - header_size h = length-drop (header_size h) b in
      let s : total (replicate t.header.rates 2) ≡ 2 * t.header.rates = total_same t.header.rates 2 in
      omega (arith, t.rates_taken.there)

  rate_here : (y : ℕ) → y < h.rates → rate_at b h y ≡ get_or j.line.rates y 0
  unfolding rate_at rate_place
  rate_here y l =
      field_there 2 b (header_size h + 4 + 2 * y) (omega (arith, rates_room))
      ∙ sym (ap (λ (r : List ℕ). get_or r y 0) rates_of ∙ nth_field h.rates 2 y (drop (header_size h + 4) b) l ∙ rw drop-drop)

  -- where a unit's record stands, and one of its entries
  unit_place : ℕ → ℕ
  unit_place i = header_size h + rates_size h.rates + i * unit_size h.choices

  unit_here : (i : ℕ) → i < h.units → unit_parser h.choices (drop (unit_place i) b) ≡ took (get_or j.units i []) (unit_size h.choices)
  unfolding job_of unit_place
  unit_here i l =
      let q : j.units ≡ t.units = ap (λ (k : Job). k.units) t.job_is in
      let m : many h.units (unit_parser h.choices) (drop (header_size h + rates_size h.rates) b) ≡ took t.units t.sizes = rw (← e) t.units_read in
      rw (q, ← drop-drop) (many_at (unit_parser h.choices) (unit_size h.choices) (λ c a k z. (unit_is h.choices c a k z).size) h.units (drop (header_size h + rates_size h.rates) b) t.units t.sizes i [] m l)

  module _ (i x : ℕ) (l : i < h.units) (k : x < h.choices) where
    unit_taken : UnitTook h.choices (drop (unit_place i) b) (get_or j.units i []) (unit_size h.choices)
    unit_taken = unit_is h.choices _ _ _ (unit_here i l)

    coding_room : unit_place i + 4 + 6 * x + 6 ≤ length b
    unfolding unit_form
    coding_room =
        let d : length (drop (unit_place i) b) ≡ length b - unit_place i = length-drop _ b in
        omega (arith, unit_taken.taken.there, total_entries h.choices)

    coding_values : job_coding j i x ≡ record { size = number (take 2 (drop (unit_place i + 4 + 6 * x) b)); distortion = number (take 4 (drop (unit_place i + 4 + 6 * x + 2) b)) }
    unfolding unit_form job_coding
    coding_values =
        let c : get_or j.units i [] ≡ codings (fields (entry_widths h.choices) (drop (unit_place i + 4) b)) = unit_taken.codings_are ∙ ap codings (unit_taken.taken.values ∙ rw drop-drop) in
        let z : unit_place i + 4 + (6 * x + 2) ≡ unit_place i + 4 + 6 * x + 2 = omega arith in
        ap (λ (cs : List Coding). get_or cs x nothing) c ∙ entry_at h.choices x (drop (unit_place i + 4) b) k ∙ rw (drop-drop, drop-drop, z)

    coding_here : (u : ℕ) → u - 1 ≡ i → coding_at b h u x ≡ job_coding j i x
    unfolding coding_at coding_place unit_place
    coding_here u q =
        rw (q, field_there 2 b (unit_place i + 4 + 6 * x) (omega (arith, coding_room)), field_there 4 b (unit_place i + 4 + 6 * x + 2) (omega (arith, coding_room)))
        (sym coding_values)

-- the header of the job that was read
header_of_parts : (d : Door) (b : List ℕ) (j : Job) (n : ℕ) (t : ParseTook d b j n) → t.header ≡ header_in j
unfolding rates_form
header_of_parts d b j n t =
    sym (
    ap header_in t.job_is
    ∙ header_back t.header t.rates t.units (ap length t.rates_taken.values ∙ fields_length _ _ ∙ length-replicate t.header.rates 2)
    (many_length (unit_parser t.header.choices) t.header.units (drop (header_size t.header + rates_size t.header.rates) b) t.units t.sizes t.units_read)
    )

-- a unit that was read has its entries, each within its limits
pub entries_count : (m : ℕ) (b : List ℕ) → length (codings (fields (entry_widths m) b)) ≡ m
unfolding codings fields entry_widths
entries_count zero b = refl
entries_count (suc m) b = ap suc (entries_count m (drop 4 (drop 2 b)))

unit_well : (m : ℕ) (b : List ℕ) (cs : List Coding) (n : ℕ) → unit_parser m b ≡ took cs n → UnitKept m cs
unfolding unit_form
unit_well m b cs n e =
    let t = unit_is m b cs n e in
    record {
      count = ap length (t.codings_are ∙ ap codings t.taken.values) ∙ entries_count m (drop 4 b);
      limits = rw t.codings_are t.taken.kept;
    }

units_well : (m n : ℕ) (b : List ℕ) (us : List (List Coding)) (k : ℕ) → many n (unit_parser m) b ≡ took us k → Each (UnitKept m) us
units_well m zero b us k e = let l = many_length (unit_parser m) zero b us k e in none_left us l
  where
    none_left : (us : List (List Coding)) → length us ≡ 0 → Each (UnitKept m) us
    none_left [] l = no_more
    none_left (u ∷ us) l = absurd (omega arith)
units_well m (suc n) b us k e =
    let t = many_is (unit_parser m) n b us k e in
    rw t.list (one_more (unit_well m b t.value t.size t.first) (units_well m n (drop t.size b) t.values t.sizes t.others))

pub well_read : WellRead
unfolding job_of header_form rates_form
well_read d b j n e =
    let t = parse_is d b j n e in
    let h = header_of_parts d b j n t in
    record {
      well_formed = record {
        fills = level_each j t.header _ _ t.job_is;
        header = rw (sym h ∙ t.header_is) t.header_taken.kept;
        rates = rw (ap (λ (i : Job). i.line.rates) t.job_is) t.rates_taken.kept;
        units = rw t.job_is (units_well t.header.choices t.header.units (drop (header_size t.header + rates_size t.header.rates) b) t.units t.sizes t.units_read);
      };
      drains = rw (sym h) t.drains;
    }

pub looks_up : LooksUp
unfolding header_in
looks_up d b j n e =
    let t = parse_is d b j n e in
    let h = header_of_parts d b j n t in
    record {
      rate = λ y l. rate_here d b j n t (header_in j) h y l;
      coding = λ u x o l k. coding_here d b j n t (header_in j) h (u - 1) x (omega arith) k u refl;
    }

-- readings that all take s bytes
many_size : {A : Type 0} (p : Parser A) (s : ℕ) → ((b : List ℕ) (a : A) (k : ℕ) → p b ≡ took a k → k ≡ s) → (n : ℕ) (b : List ℕ) (xs : List A) (m : ℕ) → many n p b ≡ took xs m → m ≡ n * s
unfolding many
many_size p s same zero b xs m e = (done_is [] b xs m e).1 ∙ sym (zero-mul s)
many_size p s same (suc n) b xs m e =
    let t = many_is p n b xs m e in
    omega (arith, t.total_size, same b t.value t.size t.first, many_size p s same n (drop t.size b) t.values t.sizes t.others, suc-mul n s)

-- how many bytes a job takes
pub read_size : (d : Door) (b : List ℕ) (j : Job) (n : ℕ) → parse d b ≡ took j n → n ≡ job_size (header_in j)
read_size d b j n e =
    let t = parse_is d b j n e in
    let h = header_of_parts d b j n t in
    t.size
    ∙ ap (λ (k : ℕ). header_size t.header + rates_size t.header.rates + k) (many_size (unit_parser t.header.choices) (unit_size t.header.choices) (λ c a k z. (unit_is t.header.choices c a k z).size) t.header.units _ t.units t.sizes t.units_read)
    ∙ ap job_size h

-- what was read lies within the bytes
many_within : {A : Type 0} (p : Parser A) → ((b : List ℕ) (a : A) (k : ℕ) → p b ≡ took a k → k ≤ length b) → (n : ℕ) (b : List ℕ) (xs : List A) (m : ℕ) → many n p b ≡ took xs m → m ≤ length b
unfolding many
many_within p w zero b xs m e = omega (arith, (done_is [] b xs m e).1)
many_within p w (suc n) b xs m e =
    let t = many_is p n b xs m e in
    let d = length-drop t.size b in
    omega (arith, t.total_size, w b t.value t.size t.first, many_within p w n (drop t.size b) t.values t.sizes t.others)

unit_within : (m : ℕ) (b : List ℕ) (cs : List Coding) (n : ℕ) → unit_parser m b ≡ took cs n → n ≤ length b
unit_within m b cs n e = let t = (unit_is m b cs n e).taken in omega (arith, t.there, t.size)

pub read_within : (d : Door) (b : List ℕ) (j : Job) (n : ℕ) → parse d b ≡ took j n → n ≤ length b
read_within d b j n e =
    let t = parse_is d b j n e in
    let start = header_size t.header + rates_size t.header.rates in
    let u = many_within (unit_parser t.header.choices) (unit_within t.header.choices) t.header.units (drop start b) t.units t.sizes t.units_read in
    omega (arith, t.size, rates_room d b j n t t.header refl, u, length-drop start b)

-- what one door reads the other reads too, where it takes the drains
pub other_door : (d e : Door) (b : List ℕ) (j : Job) (n : ℕ) → parse d b ≡ took j n → AllKept (drain_limits e (header_in j).buckets) → parse e b ≡ took j n
unfolding parse parse_is
other_door d e b j n q k =
    let x = bound (header_parser d) _ b j n q in
    let by = header_by d b x.value x.size x.first in
    let h : x.value ≡ header_in j = header_of_parts d b j n (parse_is d b j n q) in
    bind_took (header_parser e) _ b x.value x.size j x.more (by_header e b x.value x.size (record { read = by.read; drains = rw h k })) x.second
    ∙ rw (← x.sizes)

-- and where opening does not take the drains it refuses by 17
pub not_drained : (b : List ℕ) (j : Job) (n : ℕ) → parse archive b ≡ took j n → (AllKept (drain_limits opening (header_in j).buckets) → ⊥) → parse opening b ≡ refused 17
unfolding parse parse_is header_parser
not_drained b j n q f =
    let x = bound (header_parser archive) _ b j n q in
    let by = header_by archive b x.value x.size x.first in
    let h : x.value ≡ header_in j = header_of_parts archive b j n (parse_is archive b j n q) in
    bind_refused (header_parser opening) _ b 17 (bind_later header_read (draining opening) b x.value x.size 17 by.read (draining_refused opening x.value (drop x.size b) (λ a. f (rw h at a))))
