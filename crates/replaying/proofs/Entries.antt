-- Plans and their bytes: `PlanBytes`.
use Prim.Native.Nat.{ℕ, zero, suc, ◌+◌, ◌*◌, ◌<◌, ◌≤◌}
use mathlib.Core.Path.{◌≡◌, refl, sym, ◌∙◌, ap, ap₂}
use mathlib.Core.Logic.{◌↔◌}
use mathlib.Core.Bool.{Bool, true}
use mathlib.Core.Option.{Option}
use mathlib.Core.List.{List, [], ◌∷◌, ◌++◌, append-nil, append_assoc}
use native.Mathlib.Decide.{dec_lt}
use native.Mathlib.Omega.{arith}
use lib.Dec.{eqb, ltb}
use lib.ListN.{length, get_or, take, drop, length-append}
use lib.Seq.{drop-append-add, drop-drop}
use borrow.Author.Tests.{eqb-true, eq-eqb, ltb-true, ltb-false, lt-ltb, le-ltb}
use Rattle.std.specs.Prelude.{if◌then◌else◌}
use Rattle.model.specs.Job.{Job, Entry, intervals, ChoiceFits, waits, decodes, EntryFits, PlanFits, ends, goes}
use Rattle.model.specs.Levels.{no_entry, entry_of}
use Rattle.base.proofs.Tests.{branch, both_true, true_both}
use Rattle.base.proofs.All.{all_each, each_all}
use Rattle.model.proofs.Walks.{fits_length}
use Rattle.format.specs.JobBytes.{header_in, archive}
use Rattle.format.specs.Choices.{no_choice, choice_width, choice_under, choice_of, choice_number}
use Rattle.format.specs.Fields.{number, bytes, fields, spelled, Fit, no_more, one_more}
use Rattle.format.proofs.Fields.{one_at, two_at}
use Rattle.format.proofs.Spelling.{fields_spelled}
use Rattle.format.proofs.Choices.{under_none, under_some, under_mark, under_choice, of_mark, of_choice}
use Rattle.format.proofs.Bounds.{limited}
use Rattle.format.proofs.Places.{well_read}
use Rattle.replaying.specs.Entries.{entry_widths, entry_size, entry_fields, rate_field, choice_field, entry_under, entry_at, entries_from, plan_from, plan_of, fits_under, entries_fit, shaped, one_entry, entry_bytes}
use Rattle.replaying.specs.Claims.{InShape, Reads, Shapes, PlanBytes}

-- under any mark that is no choice
module _ (j : Job) (mark : ℕ) (few : j.choices ≤ mark) where
  -- numbers that the test passes are an entry in range, and back
  fits_entry : (i rate x : ℕ) → fits_under mark (header_in j) i rate x ≡ true → EntryFits j (suc i) (entry_under mark rate x)
  unfolding fits_under entry_under header_in
  fits_entry i rate x e =
      let p = both_true _ _ e in
      record {
        rate = ltb-true _ _ p.0;
        choice =
            branch (λ (t : Bool). t ≡ true → ChoiceFits j (suc i) (choice_under mark x)) (ltb i j.delay)
            (λ q r. rw (eqb-true x mark r, under_mark mark) (waits (ltb-true i j.delay q)))
            (λ q r. let k = ltb-true x _ r in let l = ltb-false i j.delay q in rw (under_choice mark x (λ z. omega arith)) (decodes (omega arith) k)) p.1;
      }

  entry_fits_true : (i rate x : ℕ) → EntryFits j (suc i) (entry_under mark rate x) → fits_under mark (header_in j) i rate x ≡ true
  unfolding fits_under entry_under header_in
  entry_fits_true i rate x f = true_both _ _ (lt-ltb _ _ f.rate) (go x (choice_under mark x) refl f.choice)
    where
      go : (x : ℕ) (o : Option ℕ) → choice_under mark x ≡ o → ChoiceFits j (suc i) o → (if ltb i j.delay then eqb x mark else ltb x j.choices) ≡ true
      go x o q (waits h) = (rw (lt-ltb i j.delay h) (eq-eqb x mark (under_none mark x q)))
      go x o q (decodes {x = y} h k) = let e = under_some mark x y q in (rw (le-ltb i j.delay (omega arith)) (lt-ltb x j.choices (omega arith)))

  -- whatever numbers the places have
  module _ (rate choice : ℕ → ℕ) where
    -- the entries from place i on
    fits_from : (i n : ℕ) → i + n ≡ intervals j → ((k : ℕ) → k < i + n → fits_under mark (header_in j) k (rate k) (choice k) ≡ true) → PlanFits j i (entries_from (λ k. entry_under mark (rate k) (choice k)) i n)
    unfolding entries_from
    fits_from i zero e f = ends {t = i} (omega arith)
    fits_from i (suc n) e f = goes (fits_entry i (rate i) (choice i) (f i (omega arith))) (fits_from (suc i) n (omega arith) (λ k l. f k (omega arith)))

    from_fits : (i n : ℕ) → PlanFits j i (entries_from (λ k. entry_under mark (rate k) (choice k)) i n) → (k : ℕ) → i ≤ k → k < i + n → fits_under mark (header_in j) k (rate k) (choice k) ≡ true
    unfolding entries_from
    from_fits i zero f k h l = absurd (omega arith)
    from_fits i (suc n) (goes f r) k h l = go (λ q. from_fits (suc i) n r k q (omega arith)) (dec_lt i k)
      where
        go : (i < k → fits_under mark (header_in j) k (rate k) (choice k) ≡ true) → Dec (i < k) → fits_under mark (header_in j) k (rate k) (choice k) ≡ true
        go ih (yes q) = ih q
        go ih (no q) = let z : k ≡ i = omega arith in rw z (entry_fits_true i (rate i) (choice i) f)

    pub entries_fit_iff : (entries_fit mark (header_in j) rate choice (intervals j) ≡ true) ↔ PlanFits j 0 (entries_from (λ k. entry_under mark (rate k) (choice k)) 0 (intervals j))
    unfolding entries_fit
    entries_fit_iff = (
      λ e. fits_from 0 (intervals j) (omega arith) (λ k l. all_each _ (intervals j) e k (omega arith)),
      λ f. each_all _ (intervals j) (λ k l. from_fits 0 (intervals j) f k (omega arith) (omega arith)),
    )

shaped_iff : (j : Job) → j.choices ≤ no_choice → (b : List ℕ) → (shaped (header_in j) b ≡ true) ↔ InShape j b
unfolding shaped plan_of header_in intervals entry_at
shaped_iff j few b = (
  λ e. let p = both_true _ _ e in record { size = eqb-true _ _ p.0; fits = (entries_fit_iff j no_choice few (rate_field b) (choice_field b)).0 p.1 },
  λ h. true_both _ _ (eq-eqb _ _ h.size) ((entries_fit_iff j no_choice few (rate_field b) (choice_field b)).1 h.fits),
)

-- the entries of some places, one by one
module _ (f : ℕ → Entry) where
  pub entries_length : (i n : ℕ) → length (entries_from f i n) ≡ n
  unfolding entries_from
  entries_length i zero = refl
  entries_length i (suc n) = ap suc (entries_length (suc i) n)

  pub entries_at : (i n k : ℕ) → k < n → get_or (entries_from f i n) k no_entry ≡ f (i + k)
  unfolding entries_from
  entries_at i zero k h = absurd (omega arith)
  entries_at i (suc n) zero h = let e : i + 0 ≡ i = omega arith in rw e
  entries_at i (suc n) (suc k) h = let e : i + suc k ≡ suc i + k = omega arith in rw e (entries_at (suc i) n k (omega arith))

pub entries_eq : {a b : Entry} → a.rate ≡ b.rate → a.choice ≡ b.choice → a ≡ b
entries_eq {a} {b} e f = ap₂ (λ (r : ℕ) (c : Option ℕ). record { rate = r; choice = c }) e f

-- whatever stands in front of an entry
later_entry : (w b : List ℕ) (i : ℕ) → length w ≡ entry_size → entry_at (w ++ b) (suc i) ≡ entry_at b i
unfolding entry_at entry_under rate_field choice_field entry_fields
later_entry w b i e =
    let n : entry_size * suc i ≡ length w + entry_size * i = omega arith in
    rw (n, drop-append-add w b (entry_size * i))

later_entries : (w b : List ℕ) (i n : ℕ) → length w ≡ entry_size → plan_from (w ++ b) (suc i) n ≡ plan_from b i n
unfolding entries_from
later_entries w b i zero e = refl
later_entries w b i (suc n) e = ap₂ ◌∷◌ (later_entry w b i e) (later_entries w b (suc i) n e)

-- how many bytes an entry has, whatever its numbers
pub one_size : (e : Entry) → length (one_entry e) ≡ entry_size
unfolding one_entry spelled bytes
one_size e = refl

pub bytes_size : (p : List Entry) → length (entry_bytes p) ≡ entry_size * length p
unfolding entry_bytes
bytes_size [] = refl
bytes_size (e ∷ p) = length-append (one_entry e) (entry_bytes p) ∙ (let ih = bytes_size p in omega (arith, one_size e))

pub bytes_more : (p : List Entry) (e : Entry) → entry_bytes (p ++ (e ∷ [])) ≡ entry_bytes p ++ one_entry e
unfolding entry_bytes
bytes_more [] e = append-nil (one_entry e)
bytes_more (x ∷ p) e = ap (λ (l : List ℕ). one_entry x ++ l) (bytes_more p e) ∙ sym (append_assoc (one_entry x) (entry_bytes p) (one_entry e))

-- an entry's bytes, where they are there
module _ (b : List ℕ) (i : ℕ) (h : 3 * i + 3 ≤ length b) where
  pub rate_is : rate_field b i ≡ get_or b (3 * i) 0
  unfolding rate_field entry_fields fields
  rate_is = one_at b (3 * i) (omega arith)

  pub choice_is : choice_field b i ≡ get_or b (3 * i + 1) 0 + 256 * get_or b (3 * i + 2) 0
  unfolding choice_field entry_fields fields
  choice_is =
      let e : 3 * i + 1 + 1 ≡ 3 * i + 2 = omega arith in
      let two : number (take 2 (drop (3 * i + 1) b)) ≡ get_or b (3 * i + 1) 0 + 256 * get_or b (3 * i + 2) 0 = two_at b (3 * i + 1) (omega arith) ∙ ap (λ (k : ℕ). get_or b (3 * i + 1) 0 + 256 * get_or b k 0) e in
      rw (drop-drop 1 (3 * i) b) two

reads : (j : Job) (b : List ℕ) → length b ≡ 3 * intervals j → Reads j b (plan_of j b)
unfolding plan_of entry_of entry_at entry_under
reads j b n = record {
  count = entries_length (entry_at b) 0 (intervals j);
  rate = λ i l. ap (λ (e : Entry). e.rate) (at i l) ∙ rate_is b i (omega arith);
  no_unit = λ i l e. ap (λ (e : Entry). e.choice) (at i l) ∙ rw (choice_is b i (omega arith) ∙ e) of_mark;
  unit = λ i l f. ap (λ (e : Entry). e.choice) (at i l) ∙ rw (choice_is b i (omega arith)) (of_choice _ f);
}
  where
    at : (i : ℕ) → i < intervals j → get_or (entries_from (entry_at b) 0 (intervals j)) i no_entry ≡ entry_at b i
    at i l = let z : 0 + i ≡ i = omega arith in entries_at (entry_at b) 0 (intervals j) i l ∙ rw z

module _ (j : Job) (few : j.choices ≤ no_choice) (rates : length j.line.rates ≤ 256) where
  choice_back : {t : ℕ} {c : Option ℕ} → ChoiceFits j t c → (choice_of (choice_number c) ≡ c) × (choice_number c ≤ no_choice)
  unfolding choice_number
  choice_back (waits h) = (of_mark, omega arith)
  choice_back (decodes {x} h k) = (of_choice x (λ e. omega arith), omega arith)

  entry_back : (e : Entry) (t : ℕ) (rest : List ℕ) → EntryFits j t e → entry_at (one_entry e ++ rest) 0 ≡ e
  unfolding entry_at entry_under rate_field choice_field entry_fields one_entry
  entry_back e t rest f =
      let c = choice_back f.choice in
      let fit : Fit entry_widths (e.rate ∷ choice_number e.choice ∷ []) = one_more {w = 1} {v = e.rate} (omega (arith, f.rate, rates)) (one_more {w = choice_width} {v = choice_number e.choice} (omega (arith, c.1)) no_more) in
      let z : entry_size * 0 ≡ 0 = omega arith in
      rw (z, fields_spelled fit rest, c.0)

  -- whatever stands behind the bytes of a plan
  pub bytes_back : {t : ℕ} {p : List Entry} (rest : List ℕ) → PlanFits j t p → plan_from (entry_bytes p ++ rest) 0 (length p) ≡ p
  unfolding entries_from entry_bytes
  bytes_back rest (ends e) = refl
  bytes_back rest (goes {t} {e} {p} f r) =
      ap (λ (b : List ℕ). plan_from b 0 (suc (length p))) (append_assoc (one_entry e) (entry_bytes p) rest)
      ∙ ap₂ ◌∷◌ (entry_back e (suc t) (entry_bytes p ++ rest) f) (later_entries (one_entry e) (entry_bytes p ++ rest) 0 (length p) (one_size e) ∙ bytes_back rest r)

  pub plan_back : (p : List Entry) (rest : List ℕ) → PlanFits j 0 p → plan_of j (entry_bytes p ++ rest) ≡ p
  unfolding plan_of
  plan_back p rest f = let n = fits_length f in let e : intervals j ≡ length p = omega arith in rw e (bytes_back rest f)

  pub shapes : Shapes j
  shapes = record {
    shaped_iff = shaped_iff j few;
    read = λ b h. reads j b h.size;
    written = λ p f.
        let e = ap (plan_of j) (sym (append-nil (entry_bytes p))) ∙ plan_back p [] f in
        let n = fits_length f in
        let l : length (entry_bytes p) ≡ entry_size * intervals j = bytes_size p ∙ omega arith in
        ((shaped_iff j few (entry_bytes p)).1 (record { size = l; fits = rw e f }), e);
  }

pub plan_bytes : PlanBytes
plan_bytes b j n e = let k = limited j (well_read archive b j n e).well_formed in shapes j (omega (arith, k.choices)) (omega (arith, k.rates))
