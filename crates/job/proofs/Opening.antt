-- Laws of opening: the three stages of `parse`, from the verdict on each record.
use Rattle.base.proofs.Refusals.{first_none}
use Rattle.base.specs.Refusals.{unless}
use Rattle.format.proofs.Doors.{by_header}
use Rattle.format.proofs.Limits.{all_kept}
use Prim.Native.Nat.{ℕ, suc, ◌+◌, ◌*◌, ◌-◌, ◌≤◌, ◌<◌}
use mathlib.Core.Path.{◌≡◌, refl, sym, ap, ◌∙◌}
use mathlib.Core.Bool.{Bool, true, false}
use mathlib.Core.Option.{none, some, Option}
use mathlib.Core.List.{List, ◌∷◌}
use lib.Dec.{eqb}
use native.Mathlib.Omega.{arith}
use native.Mathlib.Nat.{sub-zero, sub_self, add-zero}
use lib.ListN.{length, take, drop, replicate, length-drop, length-replicate}
use lib.Seq.{drop-drop}
use Rattle.model.specs.Job.{Coding, Job}
use Rattle.format.specs.Fields.{total, fields}
use Rattle.format.specs.Limits.{AllKept, broken}
use Rattle.format.specs.Parser.{Result, refused, took, Parser, done, further, onward, ◌>>=◌, many, refusal_of, with_value, unless_refused}
use Rattle.format.specs.Records.{record_due, record_either}
use Rattle.format.specs.JobBytes.{Header, header_of, header_limits, codings, header_kind, header_form, rates_form, unit_form, job_of, header_in, header_parser, unit_parser, parse, Door, drain_limits, header_read, draining}
use Rattle.std.specs.Prelude.{if◌then◌else◌}
use Rattle.format.specs.Places.{field_at, header_size}
use Rattle.format.proofs.RoundTrip.{header_total}
use Rattle.format.proofs.Places.{header_count}
use Rattle.format.proofs.Records.{total_same, total_entries}
use Rattle.format.proofs.Parsing.{RecordTook, has_refused, bind_refused, bind_on, record_is, record_took, fields_length, many_refused, many_length, bind_later}
use Rattle.format.proofs.Header.{header_back}
use Rattle.std.specs.Prelude.{Ok, Err}
use Rattle.header.specs.declared.refusal.Refusal.{Refusal}
use Rattle.header.proofs.Told.{Verdict}
use Rattle.header.specs.declared.refusal.Refusal.TheVariants as refusals
use Rattle.header.specs.Refusals.{number}
use Rattle.job.specs.declared.Due.{Due}
use Rattle.job.specs.declared.Due.TheVariants as d
use Rattle.header.specs.Answers.{extra, verdict}
use Rattle.job.specs.Answers.{form_of, reading, answering, header_refusal}
use Rattle.job.proofs.Records.{rest_of}
use Rattle.job.proofs.Told.{told_refused, told_took}

-- the verdict r on a record at `at`, as the code has it
module _ (due : Due) (b : List ℕ) (at : ℕ) (r : Verdict) (e : verdict r ≡ refusal_of (record_due (form_of due) (take (length b - at) (drop at b)))) where
  -- a refusal is the record's
  stage_refused : (n : Refusal) → r ≡ Err n → record_due (form_of due) (drop at b) ≡ refused (number n)
  stage_refused n q = has_refused (record_due (form_of due) (drop at b)) (number n) (rw (rest_of at b) at (sym e) ∙ rw q)

  -- without one the record is read
  stage_took : r ≡ Ok tt → record_due (form_of due) (drop at b) ≡ took (fields (form_of due).widths (drop 4 (drop at b))) (4 + total (form_of due).widths)
  stage_took q = record_took (form_of due) (drop at b) (rw (rest_of at b) at (sym e) ∙ rw q)

  -- and lies within the bytes
  stage_room : r ≡ Ok tt → at ≤ length b → at + (4 + total (form_of due).widths) ≤ length b
  stage_room q h = let l : length (drop at b) ≡ length b - at = length-drop at b in omega (arith, (record_is (form_of due) (drop at b) _ _ (stage_took q)).there)

-- a unit whose record is refused
unit_refused : (m : ℕ) (b : List ℕ) (n : ℕ) → record_due (unit_form m) b ≡ refused n → unit_parser m b ≡ refused n
unfolding unit_parser
unit_refused m b n e = bind_refused (record_due (unit_form m)) _ b n e

-- a unit whose record was read
unit_took : (m : ℕ) (b vs : List ℕ) (k : ℕ) → record_due (unit_form m) b ≡ took vs k → unit_parser m b ≡ took (codings vs) k
unfolding unit_parser done further
unit_took m b vs k e = bind_on (record_due (unit_form m)) _ b vs k e ∙ rw add-zero

-- one more reading, where only the size counts
module _ {A : Type 0} (h : Header) (p : Parser A) (n at k : ℕ) (a : A) (b : List ℕ) where
  -- the sizes of two readings are added before or after
  size_on : (s : Result (List A)) → answering h (further at (further k (onward s (λ rest. done (a ∷ rest)) (drop k b)))) ≡ answering h (further (at + k) s)
  unfolding answering further onward done
  size_on (refused x) = refl
  size_on (took xs m) = let e : at + (k + (m + 0)) ≡ at + k + m = omega arith in rw e

  -- after the first reading the others are left
  many_on : p b ≡ took a k → answering h (further at (many (suc n) p b)) ≡ answering h (further (at + k) (many n p (drop k b)))
  unfolding many ◌>>=◌
  many_on e = ap (λ (s : Result (List A)). answering h (further at s)) (bind_on p _ b a k e) ∙ size_on (many n p (drop k b))

module _ (b : List ℕ) (h : Header) where
  -- the units from the u-th on, of which the first starts at `at`
  unfoldable pub units_left : ℕ → ℕ → Result Header
  units_left at u = answering h (further at (many (h.units - u) (unit_parser h.choices) (drop at b)))

  -- at the start all are left
  pub units_start : (at : ℕ) → answering h (further at (many h.units (unit_parser h.choices) (drop at b))) ≡ units_left at 0
  unfolding units_left
  units_start at = rw sub-zero

  -- at the end none
  pub units_end : (at : ℕ) → units_left at h.units ≡ took h at
  unfolding units_left answering further many done
  units_end at = rw (sub_self, add-zero)

  -- r is the verdict on the u-th
  module _ (at u : ℕ) (l : u < h.units) (r : Verdict) (e : verdict r ≡ refusal_of (record_due (form_of (d.Unit h.choices)) (take (length b - at) (drop at b)))) where
    -- one reading is due
    left : h.units - u ≡ suc (h.units - (u + 1))
    left = omega arith

    -- it is refused
    pub units_refused : (n : Refusal) → r ≡ Err n → units_left at u ≡ refused (number n)
    unfolding units_left form_of answering further
    units_refused n q =
        let g = unit_refused h.choices (drop at b) (number n) (stage_refused (d.Unit h.choices) b at r e n q) in
        rw (left, many_refused (unit_parser h.choices) (h.units - (u + 1)) (drop at b) (number n) g)

    -- it is passed
    pub units_step : r ≡ Ok tt → units_left at u ≡ units_left (at + (4 + 6 * h.choices)) (u + 1)
    unfolding units_left form_of unit_form
    units_step q =
        let g = unit_took h.choices (drop at b) _ _ (stage_took (d.Unit h.choices) b at r e q) in
        rw (left) (many_on h (unit_parser h.choices) (h.units - (u + 1)) at _ _ (drop at b) g ∙ rw (drop-drop, total_entries))

    -- and the next starts within the bytes
    pub units_room : r ≡ Ok tt → at ≤ length b → at + (4 + 6 * h.choices) ≤ length b
    unfolding form_of unit_form
    units_room q k = rw total_entries at (stage_room (d.Unit h.choices) b at r e q k)

-- all that follows a header
after_header : Header → Parser Job
unfolding parse
after_header h = do
  rates ← record_due (rates_form h.rates)
  units ← many h.units (unit_parser h.choices)
  done (job_of h rates units)

form_told : (two : Bool) → (if two then header_form 1 else header_form 0) ≡ header_form (extra two)
unfolding extra
form_told true = refl
form_told false = refl

-- behind a header of w bytes
module _ (w : ℕ) (h : Header) (rs : List ℕ) (k : ℕ) (l : length rs ≡ h.rates) (b : List ℕ) where
  -- the answer of the units' readings is that of the whole
  whole : (s : Result (List (List Coding))) → ((us : List (List Coding)) (m : ℕ) → s ≡ took us m → length us ≡ h.units) → with_value header_in (further w (further k (onward s (λ us. done (job_of h rs us)) b))) ≡ answering h (further (w + k) s)
  unfolding with_value further onward answering done
  whole (refused n) g = refl
  whole (took us m) g =
      let e : w + (k + (m + 0)) ≡ w + k + m = omega arith in
      rw (e, header_back h rs us l (g us m refl))

-- by a door
module _ (door : Door) (b : List ℕ) where
  -- a refusal of the header is that of the reading
  open_refused : (n : ℕ) → header_parser door b ≡ refused n → refused n ≡ with_value header_in (parse door b)
  unfolding parse with_value
  open_refused n e = sym (ap (with_value header_in) (bind_refused (header_parser door) _ b n e))

  module _ (w : ℕ) (h : Header) (e : header_parser door b ≡ took h w) where
    -- then all that follows it
    parse_on : parse door b ≡ further w (after_header h (drop w b))
    unfolding parse after_header
    parse_on = bind_on (header_parser door) _ b h w e

    -- a refusal of the rates' record is that of opening
    rates_refused : (n : ℕ) → record_due (rates_form h.rates) (drop w b) ≡ refused n → refused n ≡ with_value header_in (parse door b)
    unfolding after_header with_value further
    rates_refused n g = sym (ap (with_value header_in) (parse_on ∙ ap (further w) (bind_refused (record_due (rates_form h.rates)) _ (drop w b) n g)))

    -- after the rates the units decide
    opened : (rs : List ℕ) (k : ℕ) → record_due (rates_form h.rates) (drop w b) ≡ took rs k → length rs ≡ h.rates → with_value header_in (parse door b) ≡ answering h (further (w + k) (many h.units (unit_parser h.choices) (drop (w + k) b)))
    unfolding after_header ◌>>=◌
    opened rs k g l =
        ap (with_value header_in) (parse_on ∙ ap (further w) (bind_on (record_due (rates_form h.rates)) _ (drop w b) rs k g))
        ∙ whole w h rs k l (drop k (drop w b)) (many h.units (unit_parser h.choices) (drop k (drop w b))) (λ us m z. many_length (unit_parser h.choices) h.units (drop k (drop w b)) us m z)
        ∙ rw drop-drop

-- the verdict on a header's record, and then on its drains
module _ (door : Door) (b : List ℕ) (two : Bool) (r₀ : Verdict) (e₀ : verdict r₀ ≡ refusal_of (record_due (header_form (extra two)) b)) where
  pub record_refused : (n : Refusal) → r₀ ≡ Err n → some (number n) ≡ header_refusal door two b
  unfolding header_refusal unless
  record_refused n q =
      let k : refusal_of (record_due (header_form (extra two)) b) ≡ some (number n) = sym e₀ ∙ rw q in
      rw k refl

  module _ (q₀ : r₀ ≡ Ok tt) where
    fits_none : refusal_of (record_due (header_form (extra two)) b) ≡ none
    fits_none = sym e₀ ∙ rw q₀

    pub body_room : 22 + 6 * extra two ≤ length b
    body_room = omega (arith, (record_is (header_form (extra two)) b _ _ (record_took (header_form (extra two)) b fits_none)).there, header_total (extra two))

    pub body_fields : 18 + 6 * extra two ≤ length (take (length b - 4) (drop 4 b))
    body_fields = rw (rest_of, length-drop) (omega (arith, body_room))

    pub then_drains : (h : Header) → h ≡ header_of (fields (header_form (extra two)).widths (take (length b - 4) (drop 4 b))) → (x : Verdict) → verdict x ≡ broken (drain_limits door h.buckets) → verdict x ≡ header_refusal door two b
    unfolding header_refusal unless
    then_drains h s x g =
        let here : h ≡ header_of (fields (header_form (extra two)).widths (drop 4 b)) = rw (rest_of 4 b) at s in
        g ∙ rw (fits_none, here)

-- the header's record, of the form that its kind tells
module _ (door : Door) (b : List ℕ) (two : Bool) (t : two ≡ eqb (field_at 2 b 2) 8) where
  -- what is read as a header where the record of that form is
  header_refused : (n : ℕ) → refusal_of (record_due (header_form (extra two)) b) ≡ some n → header_read b ≡ refused n
  unfolding header_read header_form header_kind
  header_refused n e = bind_refused (record_either (header_form 0) (header_form 1)) _ b n (told_refused (header_form 0) (header_form 1) b two t (header_form (extra two)) (form_told two) n e)

  header_taken : refusal_of (record_due (header_form (extra two)) b) ≡ none → header_read b ≡ took (header_of (fields (header_form (extra two)).widths (drop 4 b))) (22 + 6 * extra two)
  unfolding header_read done further
  header_taken e =
      let c : 4 + total (header_form (extra two)).widths + 0 ≡ 22 + 6 * extra two = omega (arith, header_total (extra two)) in
      bind_on (record_either (header_form 0) (header_form 1)) _ b _ _ (told_took (header_form 0) (header_form 1) b two (unfold header_form header_kind in t) (header_form (extra two)) (form_told two) e) ∙ rw c

  -- r₁ is the verdict on it, as the code has it
  module _ (r₁ : Verdict) (e₁ : verdict r₁ ≡ header_refusal door two b) where
    -- its refusal is that of opening
    pub first_refused : (n : Refusal) → r₁ ≡ Err n → refused (number n) ≡ with_value header_in (parse door b)
    first_refused n q = open_refused door b (number n) (by_either (refusal_of (record_due (header_form (extra two)) b)) refl (sym e₁ ∙ rw q))
      where
        by_either : (o : Option ℕ) → refusal_of (record_due (header_form (extra two)) b) ≡ o → header_refusal door two b ≡ some (number n) → header_parser door b ≡ refused (number n)
        by_either (some m) k g = unfold header_refusal unless header_parser in bind_refused header_read _ b (number n) (header_refused (number n) (k ∙ (rw k at g)))
        by_either none k g = unfold header_refusal unless header_parser in bind_later header_read _ b _ _ (number n) (header_taken k) (unfold draining unless_refused in rw (rw k at g))

    module _ (q₁ : r₁ ≡ Ok tt) where
      -- without one the header's fields are read
      no_refusals : (refusal_of (record_due (header_form (extra two)) b) ≡ none) × (broken (drain_limits door (header_of (fields (header_form (extra two)).widths (drop 4 b))).buckets) ≡ none)
      unfolding header_refusal
      no_refusals = first_none (refusal_of (record_due (header_form (extra two)) b)) _ (sym e₁ ∙ rw q₁)

      no_refusal : refusal_of (record_due (header_form (extra two)) b) ≡ none
      no_refusal = no_refusals.0

      -- and what a record that was read says holds of them
      header_took : RecordTook (header_form (extra two)) b (fields (header_form (extra two)).widths (drop 4 b)) (4 + total (header_form (extra two)).widths)
      header_took = record_is (header_form (extra two)) b _ _ (record_took (header_form (extra two)) b no_refusal)

      -- the header lies within the bytes
      pub header_room : 22 + 6 * extra two ≤ length b
      header_room = omega (arith, header_took.there, header_total (extra two))

      -- its fields lie within the body that the code takes
      pub fields_room : 18 + 6 * extra two ≤ length (take (length b - 4) (drop 4 b))
      fields_room = rw (rest_of, length-drop) (omega (arith, header_room))

      -- h is the header read, and its record takes w bytes
      module _ (h : Header) (s : h ≡ header_of (fields (header_form (extra two)).widths (take (length b - 4) (drop 4 b)))) (w : ℕ) (z : w ≡ header_size h) where
        -- the same without the body's end
        header_here : h ≡ header_of (fields (header_form (extra two)).widths (drop 4 b))
        header_here = rw (rest_of 4 b) at s

        size_here : w ≡ 22 + 6 * extra two
        size_here = z ∙ ap (λ (i : Header). header_size i) header_here ∙ ap (λ (i : ℕ). 22 + 6 * i) (header_count (extra two) (drop 4 b))

        header_there : header_parser door b ≡ took h w
        header_there = by_header door b h w (record {
          read = header_taken no_refusal ∙ rw (← header_here, ← size_here);
          drains = rw header_here (all_kept _ no_refusals.1);
        })

        pub front_room : w ≤ length b
        front_room = omega (arith, size_here, header_room)

        -- its fields are within their limits
        pub header_kept : AllKept (header_limits h)
        unfolding header_form
        header_kept = rw header_here header_took.kept

        -- r₂ is the verdict on the rates' record
        module _ (r₂ : Verdict) (e₂ : verdict r₂ ≡ refusal_of (record_due (form_of (d.Rates h.rates)) (take (length b - w) (drop w b)))) where
          -- its refusal is that of opening
          pub second_refused : (n : Refusal) → r₂ ≡ Err n → refused (number n) ≡ with_value header_in (parse door b)
          unfolding form_of
          second_refused n q = rates_refused door b w h header_there (number n) (stage_refused (d.Rates h.rates) b w r₂ e₂ n q)

          -- without one the rates lie within the bytes
          pub rates_room : r₂ ≡ Ok tt → w + 4 + 2 * h.rates ≤ length b
          unfolding form_of rates_form
          rates_room q = omega (arith, rw total_same at (stage_room (d.Rates h.rates) b w r₂ e₂ q front_room))

          -- and the units decide
          pub then_units : r₂ ≡ Ok tt → with_value header_in (parse door b) ≡ answering h (further (w + 4 + 2 * h.rates) (many h.units (unit_parser h.choices) (drop (w + 4 + 2 * h.rates) b)))
          unfolding form_of rates_form
          then_units q =
              let k : w + (4 + total (replicate h.rates 2)) ≡ w + 4 + 2 * h.rates = omega (arith, total_same h.rates 2) in
              opened door b w h header_there _ _ (stage_took (d.Rates h.rates) b w r₂ e₂ q) (fields_length _ _ ∙ length-replicate h.rates 2) ∙ rw k
