-- The records of a job as they are written: any record's, all units', the header's of either kind, and the whole job's bytes.
use Prim.Native.Nat.{ℕ, suc, ◌+◌, ◌-◌, ◌*◌, ◌<◌, ◌≤◌}
use mathlib.Core.Path.{◌≡◌, refl, sym, ap, ap₂, ◌∙◌}
use mathlib.Core.List.{List, [], ◌∷◌, ◌++◌}
use native.Mathlib.Omega.{arith}
use native.Mathlib.Nat.{suc-mul, mul-le-mul}
use lib.ListN.{length, get_or, take, drop, replicate, length-append, length-drop}
use lib.Seq.{drop-drop, length-take-le}
use Rattle.base.specs.Lent.{over}
use Rattle.model.specs.Job.{Coding, Job}
use Rattle.base.proofs.Lent.{stored}
use Rattle.format.specs.Fields.{bytes, total, spelled}
use Rattle.format.specs.Parser.{all_bytes}
use Rattle.format.specs.Records.{Form, head_values, record_bytes}
use Rattle.format.specs.JobBytes.{Policed, Header, further_buckets, bucket_values, no_bucket, nine_values, header_values, unit_values, entry_widths, bucket_widths, header_widths, header_kind, header_form, rates_form, unit_form, job_of, header_in, unit_bytes, header_bytes, encode}
use Rattle.format.specs.Places.{header_size, rates_size, unit_size}
use Rattle.format.proofs.HeaderValues.{bucket_count}
use Rattle.format.proofs.RoundTrip.{header_total}
use Rattle.format.proofs.Spelling.{bytes_length}
use Rattle.std.specs.Prelude.{Some, None}
use Rattle.header.specs.declared.Bucket.{Bucket}
use Rattle.header.specs.declared.Header as code
use Rattle.header.specs.Answers.{policed_of, plain}
use Rattle.writing.specs.Lists.{parted, codings_from}
use Rattle.writing.proofs.Lists.{codings_take, codings_drop}
use Rattle.fields.specs.Written.{put_at}
use Rattle.fields.proofs.Setting.{put_next, put_nothing}

-- a record: its head, then its fields
pub put_record : (f : Form) (vs l m o : List ℕ) (at len : ℕ) → 2 + total f.widths ≡ len → m ≡ put_at l at (spelled (2 ∷ 2 ∷ []) (len ∷ f.kind ∷ [])) → o ≡ put_at m (at + 4) (spelled f.widths vs) → o ≡ put_at l at (record_bytes f vs)
unfolding record_bytes head_values
put_record f vs l m o at len s e g = g ∙ rw (e, s) (sym (put_next l at 4 (at + 4) (spelled (2 ∷ 2 ∷ []) (len ∷ f.kind ∷ [])) (spelled f.widths vs) (unfold spelled bytes in refl) refl))

-- how many bytes a unit's record takes
coded : (cs : List Coding) → length (spelled (entry_widths (length cs)) (unit_values cs)) ≡ 6 * length cs
unfolding spelled entry_widths unit_values
coded [] = refl
coded (c ∷ cs) =
    length-append (bytes 2 c.size) _
    ∙ ap₂ ◌+◌ (bytes_length 2 c.size) (length-append (bytes 4 c.distortion) _ ∙ ap₂ ◌+◌ (bytes_length 4 c.distortion) (coded cs))
    ∙ omega arith

unit_length : (n : ℕ) (cs : List Coding) → length cs ≡ n → length (unit_bytes n cs) ≡ unit_size n
unfolding unit_bytes record_bytes unit_form head_values spelled bytes
unit_length n cs e = rw (← e) (let c = coded cs in omega arith)

-- a part of a list, as a slice of m from a place on has it
pub part_length : (l : List ℕ) (from m : ℕ) → from + m ≤ length l → length (take (from + m - from) (drop from l)) ≡ m
part_length l from m h = let e : from + m - from ≡ m = omega arith in rw e (length-take-le m (drop from l) (rw length-drop (omega arith)))

pub unit_part : (sizes distortions : List ℕ) (from m : ℕ) → from + m ≤ length sizes → length sizes ≡ length distortions → unit_bytes (length (take (from + m - from) (drop from sizes))) (codings_from (take (from + m - from) (drop from sizes)) (take (from + m - from) (drop from distortions))) ≡ unit_bytes m (take m (drop from (codings_from sizes distortions)))
unit_part sizes distortions from m h e =
    let k : from + m - from ≡ m = omega arith in
    rw (part_length sizes from m h, k) (ap (unit_bytes m) (codings_take m (drop from sizes) (drop from distortions) ∙ ap (take m) (codings_drop from sizes distortions e)))

-- all units: n of them are left to write, from a place on, their codings from another on
module _ (m : ℕ) (cs : List Coding) where
  unfoldable pub units_left : List ℕ → ℕ → ℕ → ℕ → List ℕ
  units_left l place from n = put_at l place (all_bytes (unit_bytes m) (parted n m (drop from cs)))

  pub units_start : (l : List ℕ) (place n : ℕ) → units_left l place 0 (n - 0) ≡ put_at l place (all_bytes (unit_bytes m) (parted n m cs))
  unfolding units_left
  units_start l place n = let e : n - 0 ≡ n = omega arith in rw e

  -- of n, i are written, and now one more
  pub units_step : (l o : List ℕ) (place from n i : ℕ) → i < n → from + m ≤ length cs → o ≡ put_at l place (unit_bytes m (take m (drop from cs))) → units_left o (place + unit_size m) (from + m) (n - (i + 1)) ≡ units_left l place from (n - i)
  unfolding units_left all_bytes parted
  units_step l o place from n i less h q =
      let k : length (take m (drop from cs)) ≡ m = length-take-le m (drop from cs) (rw length-drop (omega arith)) in
      let z : n - i ≡ suc (n - (i + 1)) = omega arith in
      rw (q, z, ← drop-drop) (sym (put_next l place (unit_size m) (place + unit_size m) (unit_bytes m (take m (drop from cs))) _ (unit_length m (take m (drop from cs)) k) refl))

  pub units_end : (l : List ℕ) (place from n i : ℕ) → n ≤ i → units_left l place from (n - i) ≡ l
  unfolding units_left all_bytes parted
  units_end l place from n i h = let e : n - i ≡ 0 = omega arith in rw e (put_nothing l place)

-- there is room for one more of n
pub room : (i n m : ℕ) → i < n → i * m + m ≤ n * m
room i n m h = rw (← suc-mul i m) (mul-le-mul {n₂ = n} {m₂ = m} h (omega arith))

-- how many bytes numbers take, two each
numbers_length : (l : List ℕ) → length (spelled (replicate (length l) 2) l) ≡ 2 * length l
unfolding spelled
numbers_length [] = refl
numbers_length (x ∷ l) = length-append (bytes 2 x) _ ∙ ap₂ ◌+◌ (bytes_length 2 x) (numbers_length l) ∙ omega arith

-- the fields of the buckets behind the first are such numbers, three of each bucket
bucket_twos : (ks : List Policed) → bucket_widths (length ks) ≡ replicate (length (bucket_values ks)) 2
unfolding bucket_widths bucket_values
bucket_twos [] = refl
bucket_twos (k ∷ ks) = ap (λ (ws : List ℕ). 2 ∷ 2 ∷ 2 ∷ ws) (bucket_twos ks)

-- a header's record: its head and nine fields, then those of the buckets behind the first
head_is : (n : ℕ) → head_values (header_form n) ≡ (20 + 6 * n) ∷ header_kind n ∷ []
unfolding head_values header_form
head_is n = ap (λ (len : ℕ). len ∷ header_kind n ∷ []) (omega (arith, header_total n))

module _ (h : Header) where
  abbrev nine : List ℕ
  nine = spelled (replicate 11 2) ((20 + 6 * further_buckets h) ∷ header_kind (further_buckets h) ∷ nine_values h (get_or h.buckets 0 no_bucket) [])

  abbrev more : List ℕ
  more = bucket_values (drop 1 h.buckets)

  widths_are : bucket_widths (further_buckets h) ≡ replicate (length more) 2
  widths_are = ap bucket_widths (sym (length-drop 1 h.buckets)) ∙ bucket_twos (drop 1 h.buckets)

  header_is : header_bytes h ≡ nine ++ spelled (replicate (length more) 2) more
  unfolding header_bytes record_bytes
  header_is = rw (head_is (further_buckets h)) (unfold header_form header_widths header_values nine_values spelled bytes in (rw widths_are))

  nine_length : length nine ≡ 22
  unfolding nine_values spelled bytes
  nine_length = refl

  header_length : length (header_bytes h) ≡ header_size h
  header_length = rw header_is (length-append nine _ ∙ ap₂ ◌+◌ nine_length (numbers_length more) ∙ omega (arith, bucket_count (drop 1 h.buckets), length-drop 1 h.buckets))

  put_further : (l m o : List ℕ) → m ≡ put_at l 0 nine → o ≡ put_at m 22 (spelled (replicate (length more) 2) more) → o ≡ put_at l 0 (header_bytes h)
  put_further l m o e f = f ∙ rw (e, header_is) (sym (put_next l 0 22 22 nine (spelled (replicate (length more) 2) more) nine_length refl))

-- how many bytes a header with two buckets takes
pub two_size : (h : code.Header) (k : Bucket) → h.second ≡ Some k → header_size (plain h) ≡ 28
unfolding plain
two_size h k e = rw e refl

-- with one bucket there is nothing behind the nine fields, with two the second's three
module _ (h : code.Header) (l m : List ℕ) where
  pub put_one : h.second ≡ None → m ≡ put_at l 0 (spelled (replicate 11 2) (20 ∷ 1 ∷ nine_values (plain h) (policed_of h.first) [])) → m ≡ put_at l 0 (header_bytes (plain h))
  put_one e q = put_further (plain h) l m m (unfold plain header_kind nine_values in (rw e q)) (unfold plain bucket_values spelled in (rw e (sym (put_nothing m 22))))

  pub put_two : (o : List ℕ) (k : Bucket) → h.second ≡ Some k → m ≡ put_at l 0 (spelled (replicate 11 2) (26 ∷ 8 ∷ nine_values (plain h) (policed_of h.first) [])) → o ≡ put_at m 22 (spelled (replicate 3 2) (k.size ∷ k.drain ∷ k.fill ∷ [])) → o ≡ put_at l 0 (header_bytes (plain h))
  put_two o k e q r = put_further (plain h) l m o (unfold plain header_kind nine_values in (rw e q)) (unfold plain policed_of bucket_values in (rw e r))

-- the whole job: the header, the rates, the units
rates_length : (rates : List ℕ) → length (record_bytes (rates_form (length rates)) rates) ≡ rates_size (length rates)
unfolding record_bytes head_values rates_form spelled bytes
rates_length rates = let n = numbers_length rates in omega arith

encoded : (j : Job) (h : Header) (rates : List ℕ) (us : List (List Coding)) → header_in j ≡ h → j.line.rates ≡ rates → j.units ≡ us → encode j ≡ header_bytes h ++ (record_bytes (rates_form h.rates) rates ++ all_bytes (unit_bytes h.choices) us)
unfolding encode
encoded j h rates us e f g = rw (e, f, g)

module _ (h : Header) (rates : List ℕ) (us : List (List Coding)) (given : header_in (job_of h rates us) ≡ h) (count : length rates ≡ h.rates) where
  abbrev front : List ℕ
  front = header_bytes h

  abbrev middle : List ℕ
  middle = record_bytes (rates_form (length rates)) rates

  abbrev units : List ℕ
  units = all_bytes (unit_bytes h.choices) us

  parts : encode (job_of h rates us) ≡ front ++ (middle ++ units)
  parts = encoded (job_of h rates us) h rates us given (unfold job_of in refl) (unfold job_of in refl) ∙ rw count

  pub put_job : (w : ℕ) → w ≡ header_size h → (l m o p : List ℕ) → m ≡ put_at l 0 front → o ≡ put_at m w middle → p ≡ put_at o (w + 4 + 2 * length rates) units → length (encode (job_of h rates us)) ≤ length l → p ≡ over (encode (job_of h rates us)) l
  put_job w s l m o p e f g fits =
      g
      ∙ rw (f, e) (sym (put_next l 0 w w front (middle ++ units) (header_length h ∙ sym s) (omega arith) ∙ put_next (put_at l 0 front) w (rates_size (length rates)) (w + 4 + 2 * length rates) middle units (rates_length rates) (omega arith)))
      ∙ ap (put_at l 0) (sym parts)
      ∙ unfold put_at in (stored (encode (job_of h rates us)) l fits)
