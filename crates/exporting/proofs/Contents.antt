-- The claims of reading a job back: `ReadingBack`, `Restores`, `SameByArchive`, `RewritesRead` and `Enough`.
use Prim.Native.Nat.{ℕ, suc, ◌+◌, ◌*◌, ◌-◌, ◌<◌, ◌≤◌}
use mathlib.Core.Path.{◌≡◌, refl, sym, ◌∙◌, ap}
use mathlib.Core.Logic.{◌↔◌, ◌⊎◌, inl, inr}
use mathlib.Core.Bool.{Bool, true, false}
use mathlib.Core.Option.{Option, none, some}
use mathlib.Core.List.{List, [], ◌∷◌, ◌++◌}
use native.Mathlib.Decide.{dec_lt}
use native.Mathlib.Omega.{arith}
use native.Mathlib.Nat.{suc-mul, mul-add, mul_left_comm, mul-le-mul}
use lib.Dec.{leb}
use lib.ListN.{length, get_or, take, drop}
use lib.Seq.{take_at}
use borrow.Author.Tests.{leb-true, le-leb}
use Rattle.base.specs.Answer.{gives}
use Rattle.base.specs.Refusals.{Test, refusal, unless, guarded}
use Rattle.base.specs.Lent.{Ended, over, put}
use Rattle.base.proofs.Lent.{over_length, over_here, over_rest}
use Rattle.base.proofs.Refusals.{not_none, some_same, refusal_past, refusal_here, unless_none, Decides, no_more, one_more, AllHold, none_refuses, guarded_last, in_order}
use Rattle.model.specs.Job.{bucket_at, Job}
use Rattle.format.specs.Parser.{on_took}
use Rattle.format.specs.Parser as P
use Rattle.format.specs.JobBytes.{Policed, no_bucket, nine_values, header_values, header_of, policed, header_in, Door, opening, parse, encode, WellFormed}
use Rattle.format.specs.Claims.{OwnNumber}
use Rattle.format.proofs.Header.{buckets_count, bucket_told}
use Rattle.format.proofs.HeaderValues.{ThreeAt, values_count, further_at}
use Rattle.format.proofs.RoundTrip.{header_again, encode_parse}
use Rattle.format.proofs.Bounds.{limited, two_doors}
use Rattle.format.proofs.Numbers.{own_numbers}
use Rattle.format.proofs.Places.{well_read, read_size, read_within}
use Rattle.writing.specs.Lists.{sizes_in, distortions_in}
use Rattle.writing.proofs.Own.{own_sizes, own_distortions, size_there, distortion_there, own_job}
use Rattle.writing.proofs.Writes.{own_unrefused, rewrites}
use Rattle.exporting.specs.Exports.{number_of, written, after_write, job_export}
use Rattle.exporting.specs.Contents.{Contents, contents, read_values, unread, read_tests, held, read_held, read_export}
use Rattle.exporting.specs.ContentsClaims.{field_count, coding_count, ReadRoom, ReadBack, ReadingBack, taken_read, fields_read, rates_read, sizes_read, distortions_read, job_read, Restored, Restores, SameByArchive, Rewritten, RewritesRead, Enough}
use Rattle.exporting.proofs.Fields.{is_header}
use Rattle.exporting.proofs.Rooms.{behind}

-- the header of a job has a bucket for each of the line's, with its starting level
module _ (j : Job) (w : WellFormed j) where
  header_buckets : length (header_in j).buckets ≡ length j.line.buckets
  unfolding header_in
  header_buckets = buckets_count j.line.buckets j.start.buckets w.fills

  header_bucket : (i : ℕ) → i < length j.line.buckets → get_or (header_in j).buckets i no_bucket ≡ policed (bucket_at j.line.buckets i) (get_or j.start.buckets i 0)
  unfolding header_in
  header_bucket i h = bucket_told j.line.buckets j.start.buckets w.fills i h

  own_fields : length (header_values (header_in j)) ≡ field_count j
  own_fields = values_count (header_in j) ∙ rw header_buckets

  -- there is a first bucket
  a_bucket : 0 < length j.line.buckets
  a_bucket = omega (arith, w.header, header_buckets)

  first_bucket : get_or (header_in j).buckets 0 no_bucket ≡ policed (bucket_at j.line.buckets 0) (get_or j.start.buckets 0 0)
  first_bucket = header_bucket 0 a_bucket

  further_bucket : (i : ℕ) → suc i < length j.line.buckets → ThreeAt (header_values (header_in j)) (9 + 3 * i) (policed (bucket_at j.line.buckets (suc i)) (get_or j.start.buckets (suc i) 0))
  further_bucket i h = rw (header_bucket (suc i) h) at (further_at (header_in j) i (omega (arith, header_buckets)))

-- a test of a length that is known otherwise
decides_length : (a c n : ℕ) → a ≡ c → (leb a n ≡ true) ↔ (c ≤ n)
decides_length a c n e = (λ t. omega (arith, leb-true a n t), λ h. le-leb a n (omega arith))

-- a choice of one of n units stands within n × m places
place_within : (n m u x : ℕ) → 1 ≤ u → u ≤ n → x < m → (u - 1) * m + x < n * m
place_within n m u x one most l =
    let k : suc (u - 1) * m ≤ n * m = mul-le-mul {n₂ = n} {m₂ = m} (omega arith) (omega arith) in
    omega (arith, suc-mul (u - 1) m)

-- a number that is written over the first of a list
at_over : (new old : List ℕ) (i x : ℕ) → length new ≤ length old → i < length new → get_or new i 0 ≡ x → get_or (over new old) i 0 ≡ x
at_over new old i x fits l e = over_here new old fits i l ∙ e

module _ (j : Job) (w : WellFormed j) (fields rates sizes distortions values : List ℕ) where
  decides : Decides (read_tests fields rates sizes distortions values j) (ReadRoom j fields rates sizes distortions values)
  unfolding read_tests
  decides =
      one_more refl (decides_length _ (field_count j) (length fields) (own_fields j w))
      (one_more refl (decides_length _ (length j.line.rates) (length rates) refl)
      (one_more refl (decides_length _ (coding_count j) (length sizes) (own_sizes j w))
      (one_more refl (decides_length _ (coding_count j) (length distortions) (own_distortions j w))
      (one_more refl (decides_length _ 2 (length values) refl) no_more))))

  -- the job in lists that have room for it
  module _ (h : AllHold (ReadRoom j fields rates sizes distortions values)) where
    fields_fit : length (header_values (header_in j)) ≤ length fields
    fields_fit = omega (arith, own_fields j w, h.0)

    sizes_fit : length (sizes_in j) ≤ length sizes
    sizes_fit = omega (arith, own_sizes j w, h.1.1.0)

    distortions_fit : length (distortions_in j) ≤ length distortions
    distortions_fit = omega (arith, own_distortions j w, h.1.1.1.0)

    -- one of the fields
    field : (i x : ℕ) → i < field_count j → get_or (header_values (header_in j)) i 0 ≡ x → get_or (over (header_values (header_in j)) fields) i 0 ≡ x
    field i x l e = at_over (header_values (header_in j)) fields i x fields_fit (omega (arith, own_fields j w)) e

    -- what stands behind the rates
    rates_behind : (k : ℕ) → drop (length j.line.rates) (held fields rates sizes distortions values j k).rates ≡ drop (length j.line.rates) rates
    unfolding held
    rates_behind k = over_rest j.line.rates rates h.1.0 _ refl

    in_lists : (k : ℕ) → ReadBack j fields rates sizes distortions values k (held fields rates sizes distortions values j k)
    unfolding held read_values
    in_lists k = record {
      done = refl;
      units_field = field 0 _ (omega arith) (unfold header_values nine_values header_in in refl);
      delay_field = field 1 _ (omega arith) (unfold header_values nine_values header_in in refl);
      decoder_field = field 2 _ (omega arith) (unfold header_values nine_values header_in in refl);
      size_field = field 3 _ (omega arith) (unfold header_values nine_values policed in (ap (λ (k : Policed). k.size) (first_bucket j w)));
      drain_field = field 4 _ (omega arith) (unfold header_values nine_values policed in (ap (λ (k : Policed). k.drain) (first_bucket j w)));
      level_field = field 5 _ (omega arith) (unfold header_values nine_values header_in in refl);
      fill_field = field 6 _ (omega arith) (unfold header_values nine_values policed in (ap (λ (k : Policed). k.fill) (first_bucket j w)));
      rates_field = field 7 _ (omega arith) (unfold header_values nine_values header_in in refl);
      choices_field = field 8 _ (omega arith) (unfold header_values nine_values header_in in refl);
      further_sizes = λ i l. field (9 + 3 * i) _ (omega arith) (unfold policed in (further_bucket j w i l).size);
      further_drains = λ i l. field (9 + 3 * i + 1) _ (omega arith) (unfold policed in (further_bucket j w i l).drain);
      further_fills = λ i l. field (9 + 3 * i + 2) _ (omega arith) (unfold policed in (further_bucket j w i l).fill);
      rate = λ i l. at_over _ rates i _ h.1.0 l refl;
      size = λ u x one most l. at_over _ sizes _ _ (omega (arith, own_sizes j w, own_distortions j w, h.1.1.0)) (omega (arith, own_sizes j w, own_distortions j w, place_within (length j.units) j.choices u x one most l)) (size_there j w (u - 1) x (omega arith) l);
      distortion = λ u x one most l. at_over _ distortions _ _ (omega (arith, own_sizes j w, own_distortions j w, h.1.1.1.0)) (omega (arith, own_sizes j w, own_distortions j w, place_within (length j.units) j.choices u x one most l)) (distortion_there j w (u - 1) x (omega arith) l);
      taken_value = at_over _ values 0 _ h.1.1.1.1.0 (omega arith) refl;
      fields_value = at_over _ values 1 _ h.1.1.1.1.0 (omega arith) (own_fields j w);
      fields_rest = over_rest (header_values (header_in j)) fields fields_fit (field_count j) (own_fields j w);
      rates_rest = rates_behind k;
      sizes_rest = over_rest (sizes_in j) sizes sizes_fit (coding_count j) (own_sizes j w);
      distortions_rest = over_rest (distortions_in j) distortions distortions_fit (coding_count j) (own_distortions j w);
      values_rest = over_rest (read_values j k) values h.1.1.1.1.0 2 refl;
      fields_length = over_length (header_values (header_in j)) fields fields_fit;
      rates_length = over_length j.line.rates rates h.1.0;
      sizes_length = over_length (sizes_in j) sizes sizes_fit;
      distortions_length = over_length (distortions_in j) distortions distortions_fit;
      values_length = over_length (read_values j k) values h.1.1.1.1.0;
    }

pub reading_back : ReadingBack
unfolding read_export on_took read_held
reading_back d b fields rates sizes distortions values = (
  λ n e. rw e,
  λ j k e.
      let w = (well_read d b j k e).well_formed in
      rw e (in_order (λ n. contents n fields rates sizes distortions values) (decides j w fields rates sizes distortions values) (λ r. ReadBack j fields rates sizes distortions values k r) (held fields rates sizes distortions values j k) _ refl (λ h. in_lists j w fields rates sizes distortions values h k)),
)

-- tests that all have one number refuse by it
abbrev AllBy : ℕ → List Test → Type 0
AllBy k [] = Unit {0}
AllBy k (t ∷ ts) = (t.number ≡ k) × AllBy k ts

refused_by : (k : ℕ) (ts : List Test) → AllBy k ts → (n : ℕ) → refusal ts ≡ some n → k ≡ n
refused_by k [] a n e = unfold refusal in (absurd (not_none (sym e)))
refused_by k (t ∷ ts) a n e = go t.passes refl (λ f. refused_by k ts a.1 n f)
  where
    go : (p : Bool) → t.passes ≡ p → (refusal ts ≡ some n → k ≡ n) → k ≡ n
    go true q r = r (sym (refusal_past t ts q) ∙ e)
    go false q r = sym a.0 ∙ some_same (sym (refusal_here t ts q) ∙ e)

no_zero : (d : Door) (n : ℕ) → OwnNumber d n → n ≡ 0 → ⊥
no_zero d n (inl h) e = omega arith
no_zero d n (inr h) e = omega (arith, h.1)

module _ (fields rates sizes distortions values : List ℕ) where
  abbrev lists : Job → ℕ → Contents
  lists = held fields rates sizes distortions values

  -- the number is 0: the door took a job, and there was room for it
  record ReadZero (d : Door) (b : List ℕ) : Type 0 where
    job : Job
    taken : ℕ
    parsed : parse d b ≡ P.took job taken
    is : read_export fields rates sizes distortions values d b ≡ lists job taken
    room : AllHold (ReadRoom job fields rates sizes distortions values)

  read_zero : (d : Door) (b : List ℕ) → (read_export fields rates sizes distortions values d b).number ≡ 0 → ReadZero d b
  unfolding read_export on_took read_held
  read_zero d b z = go (parse d b) refl z
    where
      tested : (j : Job) (k : ℕ) → parse d b ≡ P.took j k → (o : Option ℕ) → refusal (read_tests fields rates sizes distortions values j) ≡ o → (unless (unread fields rates sizes distortions values) o (lists j k)).number ≡ 0 → ReadZero d b
      tested j k e (some n) q z = unfold unless in (let i : 12 ≡ n = refused_by 12 (read_tests fields rates sizes distortions values j) (unfold read_tests in (refl, (refl, (refl, (refl, (refl, tt)))))) n q in absurd (omega arith))
      tested j k e none q z = record {
        job = j;
        taken = k;
        parsed = e;
        is = rw e (unfold guarded in (unless_none (unread fields rates sizes distortions values) _ (lists j k) q));
        room = none_refuses (decides j (well_read d b j k e).well_formed fields rates sizes distortions values) q;
      }

      go : (p : P.Result Job) → parse d b ≡ p → (on_took (unread fields rates sizes distortions values) p (read_held fields rates sizes distortions values)).number ≡ 0 → ReadZero d b
      go (P.refused n) e z = absurd (no_zero d n (own_numbers d b n e) z)
      go (P.took j k) e z = tested j k e (refusal (read_tests fields rates sizes distortions values j)) refl (unfold guarded in z)

  -- what the lists then hold, as the writer takes it, is the job's own
  module _ (j : Job) (w : WellFormed j) (k : ℕ) (h : AllHold (ReadRoom j fields rates sizes distortions values)) where
    abbrev back : ReadBack j fields rates sizes distortions values k (lists j k)
    back = in_lists j w fields rates sizes distortions values h k

    own_fields_read : fields_read (lists j k) ≡ header_values (header_in j)
    own_fields_read = ap (λ (n : ℕ). take n (lists j k).fields) back.fields_value ∙ unfold held over in (take_at (header_values (header_in j)) _ (field_count j) (own_fields j w))

    own_rates_read : rates_read (lists j k) ≡ j.line.rates
    own_rates_read = ap (λ (n : ℕ). take n (lists j k).rates) back.rates_field ∙ unfold held over in (take_at j.line.rates _ _ refl)

    own_count : get_or (lists j k).fields 0 0 * get_or (lists j k).fields 8 0 ≡ coding_count j
    own_count = rw (back.units_field, back.choices_field)

    own_sizes_read : sizes_read (lists j k) ≡ sizes_in j
    own_sizes_read = ap (λ (n : ℕ). take n (lists j k).sizes) own_count ∙ unfold held over in (take_at (sizes_in j) _ (coding_count j) (own_sizes j w))

    own_distortions_read : distortions_read (lists j k) ≡ distortions_in j
    own_distortions_read = ap (λ (n : ℕ). take n (lists j k).distortions) own_count ∙ unfold held over in (take_at (distortions_in j) _ (coding_count j) (own_distortions j w))

    own_header_read : header_of (fields_read (lists j k)) ≡ header_in j
    own_header_read = ap header_of own_fields_read ∙ header_again (header_in j) (omega (arith, w.header))

    own_job_read : job_read (lists j k) ≡ j
    own_job_read = rw (own_header_read, own_rates_read, own_sizes_read, own_distortions_read) (own_job j w)

pub restores : Restores
restores d b B fields rates sizes distortions values z =
    let r = read_zero fields rates sizes distortions values d b z in
    let back = encode_parse d b B r.job r.taken r.parsed in
    let w = back.formed.well_formed in
    let same = own_job_read fields rates sizes distortions values r.job w r.taken r.room in
    let taken = (in_lists r.job w fields rates sizes distortions values r.room r.taken).taken_value in
    rw r.is (restored r.job r.taken r.parsed back.same _ same taken)
  where
    restored : (j : Job) (k : ℕ) → parse d b ≡ P.took j k → take k b ≡ encode j → (c : Contents) → job_read c ≡ j → taken_read c ≡ k → Restored d b c
    restored j k e bytes c same taken = record {
      read = rw (same, taken) e;
      bytes = rw (same, taken) (sym bytes);
    }

-- opening's job is the archive's, with as many bytes
pub same_by_archive : SameByArchive
unfolding read_export
same_by_archive b j k e fields rates sizes distortions values = rw (((two_doors b j k).opening_iff.0 e).0, e) refl

-- as many fields as a header has
nine_or_twelve : (j : Job) (w : WellFormed j) → (length (header_values (header_in j)) ≡ 9) ⊎ (length (header_values (header_in j)) ≡ 12)
nine_or_twelve j w = let l = (limited j w).buckets in go (dec_lt 1 (length j.line.buckets))
  where
    go : Dec (1 < length j.line.buckets) → (length (header_values (header_in j)) ≡ 9) ⊎ (length (header_values (header_in j)) ≡ 12)
    go (yes m) = inr (omega (arith, own_fields j w, (limited j w).buckets))
    go (no m) = inl (omega (arith, own_fields j w))

-- the exported writer of a job that nothing refuses
write_shown : (fields : List ℕ) (looked : Option ℕ) (made : Ended ℕ) (k : ℕ) (list job values : List ℕ) → (length fields ≡ 9) ⊎ (length fields ≡ 12) → looked ≡ none → made ≡ record { answer = gives k; list = list } → 1 ≤ length values → job_export fields looked made job values ≡ written 0 list (over (k ∷ []) values)
unfolding job_export after_write number_of put
write_shown fields looked made k list job values nine free e room =
    guarded_last (λ n. written n job values) _ _ (is_header (length fields) nine)
    ∙ behind (λ n. written n job values) looked 1 values _ (sym free) room
    ∙ rw e

pub rewrites_read : RewritesRead
rewrites_read b B fields rates sizes distortions values z out l =
    let r = read_zero fields rates sizes distortions values opening b z in
    rewritten r.job r.taken r.parsed r.room _ r.is l
  where
    rewritten : (j : Job) (k : ℕ) → parse opening b ≡ P.took j k → AllHold (ReadRoom j fields rates sizes distortions values) → (r : Contents) → r ≡ held fields rates sizes distortions values j k → taken_read r ≤ length out → Rewritten b r out
    rewritten j k e h r q l =
        let w = (well_read opening b j k e).well_formed in
        let taken : taken_read r ≡ k = ap (λ (c : Contents). taken_read c) q ∙ (in_lists j w fields rates sizes distortions values h k).taken_value in
        let fs : fields_read r ≡ header_values (header_in j) = ap (λ (c : Contents). fields_read c) q ∙ own_fields_read fields rates sizes distortions values j w k h in
        let rs : rates_read r ≡ j.line.rates = ap (λ (c : Contents). rates_read c) q ∙ own_rates_read fields rates sizes distortions values j w k h in
        let ss : sizes_read r ≡ sizes_in j = ap (λ (c : Contents). sizes_read c) q ∙ own_sizes_read fields rates sizes distortions values j w k h in
        let ds : distortions_read r ≡ distortions_in j = ap (λ (c : Contents). distortions_read c) q ∙ own_distortions_read fields rates sizes distortions values j w k h in
        let hs : header_of (header_values (header_in j)) ≡ header_in j = header_again (header_in j) (omega (arith, w.header)) in
        let call = rewrites b B j k e out (omega arith) in
        record {
          write = rw (fs, hs, rs, ss, ds, taken) call;
          exported = λ values room. rw (fs, hs, rs, ss, ds, taken) (write_shown (header_values (header_in j)) _ _ k (take k b ++ drop k out) out values (nine_or_twelve j w) (own_unrefused b B j k e (length out) (omega arith)) call room);
        }

-- six bytes of a job for each coding
six_each : (d : Door) (b : List ℕ) (j : Job) (k : ℕ) → parse d b ≡ P.took j k → 6 * coding_count j ≤ length b
unfolding header_in
six_each d b j k e =
    let n = length j.units in
    omega (arith, read_size d b j k e, read_within d b j k e, mul-add n 4 (6 * j.choices), mul_left_comm n 6 j.choices)

pub enough : Enough
enough d b fields rates sizes distortions values f r s t v = (
  λ z. let read = read_zero fields rates sizes distortions values d b z in (read.job, read.taken, read.parsed),
  λ took. all took.0 took.1 took.2,
)
  where
    all : (j : Job) (k : ℕ) → parse d b ≡ P.took j k → (read_export fields rates sizes distortions values d b).number ≡ 0
    all j k e =
        let l = limited j (well_read d b j k e).well_formed in
        let m = six_each d b j k e in
        (((((((reading_back d b fields rates sizes distortions values).1 j k e).1 (omega (arith, l.buckets))).1 (omega (arith, l.rates))).1 (omega arith)).1 (omega arith)).1 v).done
