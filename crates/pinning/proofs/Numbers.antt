-- A set of pins as numbers: where each stands, that the numbers of a set are read back as it, and that a job takes no others: `Layouts`, `OneLayouts`, `TwoLayouts`, `SetReadsBack` and `SetsTaken`.
use Prim.Native.Nat.{ℕ, zero, suc, ◌+◌, ◌-◌, ◌<◌, ◌≤◌}
use mathlib.Core.Path.{◌≡◌, refl, sym, ◌∙◌, ap, subst}
use mathlib.Core.Logic.{◌⊎◌, inl, inr}
use mathlib.Core.Bool.{Bool, true, false}
use mathlib.Core.List.{List, [], ◌∷◌, ◌++◌, append_assoc}
use native.Mathlib.Decide.{dec_lt}
use native.Mathlib.Omega.{arith}
use lib.Dec.{leb, ltb, eqb}
use lib.ListN.{length, get_or, take, drop, length-append, get_or-append}
use lib.Seq.{get_or-append-add, drop-cons, take_at, take-add}
use borrow.Author.Tests.{eqb-true, ltb-true, lt-ltb, leb-true, le-leb}
use Rattle.std.specs.Prelude.{if◌then◌else◌}
use Rattle.base.specs.If.{one_if}
use Rattle.base.specs.Lists.{build}
use Rattle.base.proofs.Tests.{branch, both_true, true_both}
use Rattle.base.proofs.All.{all_each, each_all}
use Rattle.model.specs.Job.{Job}
use Rattle.model.specs.Pins.{PinTotals}
use Rattle.format.specs.Limits.{AllKept}
use Rattle.format.specs.JobBytes.{Policed, Header, no_bucket, largest_sizes, bucket_limits, bucket_values, policed_by, nine_values, header_values, header_of, header_kind, header_limits, header_in, no_header}
use Rattle.format.proofs.Header.{apart}
use Rattle.format.proofs.Places.{well_read}
use Rattle.pinning.specs.PinSet.{PinSet, fresh}
use Rattle.pinning.specs.Check.{Matches}
use Rattle.pinning.specs.Numbers.{set_size, pins_place, totals_place, twelve, total_numbers, set_numbers, two_byte, one_kind, set_shaped, field_count, set_in}
use Rattle.pinning.specs.NumberClaims.{SetLayout, Layouts, OneLayouts, TwoLayouts, SetReadsBack, SetsTaken}
use Rattle.pinning.proofs.Agree.{limits, passes_matches, unmatched}

-- the thirteen numbers of a header of one kind or the other
unfoldable front : ℕ → Header → Policed → Policed → List ℕ
front kind h k k2 = kind ∷ h.units ∷ h.delay ∷ h.decoder ∷ k.size ∷ k.drain ∷ h.level ∷ k.fill ∷ h.rates ∷ h.choices ∷ k2.size ∷ k2.drain ∷ k2.fill ∷ []

-- and the set's behind them
abbrev behind : PinSet → List ℕ
behind s = s.pins ++ total_numbers s.totals

numbers_one : (s : PinSet) (k : Policed) → s.header.buckets ≡ k ∷ [] → set_numbers s ≡ front 1 s.header k no_bucket ++ behind s
unfolding set_numbers front header_kind twelve header_values nine_values bucket_values
numbers_one s k e = rw e

numbers_two : (s : PinSet) (k k2 : Policed) → s.header.buckets ≡ k ∷ k2 ∷ [] → set_numbers s ≡ front 8 s.header k k2 ++ behind s
unfolding set_numbers front header_kind twelve header_values nine_values bucket_values
numbers_two s k k2 e = rw e

-- a header has one bucket or two
data Buckets (h : Header) : Type 0 where
  just_one : (k : Policed) → h.buckets ≡ k ∷ [] → Buckets h
  both_two : (k k2 : Policed) → h.buckets ≡ k ∷ k2 ∷ [] → Buckets h

buckets_of : (h : Header) → 1 ≤ length h.buckets → length h.buckets ≤ 2 → Buckets h
buckets_of h = go h.buckets refl
  where
    go : (ks : List Policed) → h.buckets ≡ ks → 1 ≤ length ks → length ks ≤ 2 → Buckets h
    go [] e p q = absurd (omega arith)
    go (k ∷ []) e p q = just_one k e
    go (k ∷ k2 ∷ []) e p q = both_two k k2 e
    go (k ∷ k2 ∷ k3 ∷ ks) e p q = absurd (omega arith)

-- a number behind a list of n
get_d_behind : (l t : List ℕ) (n i : ℕ) → length l ≡ n → get_or (l ++ t) (n + i) 0 ≡ get_or t i 0
get_d_behind l t n i e = rw (← e) (get_or-append-add l t i 0)

-- where the numbers stand that both kinds have
module _ (s : PinSet) (kind : ℕ) (k k2 : Policed) (is : set_numbers s ≡ front kind s.header k k2 ++ behind s) (size : length s.pins ≡ 512) where
  layout : SetLayout s
  unfolding front total_numbers
  layout = record {
    size = rw is (omega (arith, length-append s.pins (total_numbers s.totals), size));
    units = rw is;
    delay = rw is;
    decoder = rw is;
    level = rw is;
    rates = rw is;
    choices = rw is;
    pins = λ u a b. pin u (u - 1) (omega arith) (omega arith);
    count = rw is (get_d_behind s.pins (total_numbers s.totals) 512 0 size);
    grains = rw is (get_d_behind s.pins (total_numbers s.totals) 512 1 size);
    distortion = rw is (get_d_behind s.pins (total_numbers s.totals) 512 2 size);
  }
    where
      pin : (u i : ℕ) → 12 + u ≡ 13 + i → i < 512 → get_or (set_numbers s) (12 + u) 0 ≡ get_or s.pins i 0
      pin u i e h = rw (e, is) (get_d_behind (front kind s.header k k2) (behind s) 13 i refl ∙ get_or-append s.pins (total_numbers s.totals) 0 i (omega (arith, size)))

pub layouts : Layouts
layouts s size some few = go (buckets_of s.header some few)
  where
    go : Buckets s.header → SetLayout s
    go (just_one k e) = layout s 1 k no_bucket (numbers_one s k e) size
    go (both_two k k2 e) = layout s 8 k k2 (numbers_two s k k2 e) size

pub one_layouts : OneLayouts
unfolding front
one_layouts s k size e =
    let is = numbers_one s k e in
    record { kind = rw is; first = (rw is, rw is, rw is); second = (rw is, rw is, rw is) }

pub two_layouts : TwoLayouts
unfolding front
two_layouts s k k2 size e =
    let is = numbers_two s k k2 e in
    record { kind = rw is; first = (rw is, rw is, rw is); second = (rw is, rw is, rw is) }

-- What a list has that is shaped as a set's numbers.
pub record Shaped (l : List ℕ) : Type 0 where
  pub size : 528 ≤ length l
  pub field : (p : ℕ) → 1 ≤ p → p < 525 → get_or l p 0 < 65536

-- and of which kind it is
data Kind (l : List ℕ) : Type 0 where
  kind_two : get_or l 0 0 ≡ 8 → Kind l
  kind_one : get_or l 0 0 ≡ 1 → get_or l 10 0 ≡ 0 → get_or l 11 0 ≡ 0 → get_or l 12 0 ≡ 0 → Kind l

module _ (l : List ℕ) where
  kind_of : (if eqb (get_or l 0 0) 8 then true else one_kind l) ≡ true → Kind l
  unfolding one_kind
  kind_of =
      branch (λ (t : Bool). t ≡ true → Kind l) (eqb (get_or l 0 0) 8)
      (λ q e. kind_two (eqb-true (get_or l 0 0) 8 q))
      (λ q e.
      let a = apart _ (get_or l 12 0) 0 e in
      let b = apart _ (get_or l 11 0) 0 a.0 in
      let c = apart _ (get_or l 10 0) 0 b.0 in
      kind_one (eqb-true (get_or l 0 0) 1 c.0) c.1 b.1 a.1)

  shaped_parts : set_shaped l ≡ true → (leb set_size (length l) ≡ true) × (two_byte l 1 524 ≡ true) × ((if eqb (get_or l 0 0) 8 then true else one_kind l) ≡ true)
  unfolding set_shaped
  shaped_parts e =
      let p = both_true (leb set_size (length l)) _ e in
      let q = both_true (two_byte l 1 524) _ p.1 in
      (p.0, q.0, q.1)

  pub shaped : set_shaped l ≡ true → Shaped l
  unfolding two_byte
  shaped e =
      let p = shaped_parts e in
      record {
        size = leb-true 528 (length l) p.0;
        field = λ i a b. field i (i - 1) (omega arith) (all_each _ 524 p.1 (i - 1) (omega arith));
      }
    where
      field : (p i : ℕ) → p ≡ 1 + i → ltb (get_or l (1 + i) 0) 65536 ≡ true → get_or l p 0 < 65536
      field p i e t = rw e (ltb-true (get_or l (1 + i) 0) 65536 t)

  shaped_by : 528 ≤ length l → ((i : ℕ) → i < 524 → get_or l (1 + i) 0 < 65536) → (if eqb (get_or l 0 0) 8 then true else one_kind l) ≡ true → set_shaped l ≡ true
  unfolding set_shaped two_byte
  shaped_by h f k = true_both _ _ (le-leb 528 (length l) h) (true_both _ _ (each_all _ 524 (λ i b. lt-ltb (get_or l (1 + i) 0) 65536 (f i b))) k)

  -- the set that stands in it
  pub read_shaped : set_shaped l ≡ true → set_in l ≡ record {
    header = header_of (take (field_count l) (drop 1 l));
    pins = take 512 (drop pins_place l);
    totals = record { count = get_or l totals_place 0; size = get_or l (totals_place + 1) 0; distortion = get_or l (totals_place + 2) 0 };
  }
  unfolding set_in
  read_shaped e = rw e

  pub read_other : set_shaped l ≡ false → set_in l ≡ fresh no_header
  unfolding set_in
  read_other e = rw e

-- a list of at least n numbers by its first n
split : (l : List ℕ) (n : ℕ) → n ≤ length l → l ≡ build n (λ i. get_or l i 0) ++ drop n l
unfolding build
split l zero h = refl
split l (suc n) h =
    split l n (omega arith)
    ∙ ap (λ t. build n (λ i. get_or l i 0) ++ t) (drop-cons l n 0 (omega arith))
    ∙ sym (append_assoc (build n (λ i. get_or l i 0)) (get_or l n 0 ∷ []) (drop (suc n) l))

-- what is said of every list that begins with thirteen numbers is said of one that has them
thirteen : (P : List ℕ → Type 0) → ((a₀ a₁ a₂ a₃ a₄ a₅ a₆ a₇ a₈ a₉ b₀ b₁ b₂ : ℕ) (t : List ℕ) → P (a₀ ∷ a₁ ∷ a₂ ∷ a₃ ∷ a₄ ∷ a₅ ∷ a₆ ∷ a₇ ∷ a₈ ∷ a₉ ∷ b₀ ∷ b₁ ∷ b₂ ∷ t)) → (l : List ℕ) → 13 ≤ length l → P l
unfolding build
thirteen P f l h = subst P (sym (split l 13 h)) (f _ _ _ _ _ _ _ _ _ _ _ _ _ _)

-- the header that a list tells, field by field
unfoldable pub header_at : List ℕ → Header
header_at l = record {
  units = get_or l 1 0;
  delay = get_or l 2 0;
  decoder = get_or l 3 0;
  level = get_or l 6 0;
  buckets = record { size = get_or l 4 0; drain = get_or l 5 0; fill = get_or l 7 0 } ∷ one_if (eqb (get_or l 0 0) 8) (record { size = get_or l 10 0; drain = get_or l 11 0; fill = get_or l 12 0 });
  rates = get_or l 8 0;
  choices = get_or l 9 0;
}

pub header_told : (l : List ℕ) → 13 ≤ length l → header_of (take (field_count l) (drop 1 l)) ≡ header_at l
unfolding header_of field_count policed_by one_if header_at
header_told = thirteen (λ l. header_of (take (field_count l) (drop 1 l)) ≡ header_at l) (λ a₀ a₁ a₂ a₃ a₄ a₅ a₆ a₇ a₈ a₉ b₀ b₁ b₂ t. go a₁ a₂ a₃ a₄ a₅ a₆ a₇ a₈ a₉ b₀ b₁ b₂ t (eqb a₀ 8))
  where
    go : (a₁ a₂ a₃ a₄ a₅ a₆ a₇ a₈ a₉ b₀ b₁ b₂ : ℕ) (t : List ℕ) (two : Bool) → header_of (take (if two then 12 else 9) (a₁ ∷ a₂ ∷ a₃ ∷ a₄ ∷ a₅ ∷ a₆ ∷ a₇ ∷ a₈ ∷ a₉ ∷ b₀ ∷ b₁ ∷ b₂ ∷ t)) ≡ record { units = a₁; delay = a₂; decoder = a₃; level = a₆; buckets = record { size = a₄; drain = a₅; fill = a₇ } ∷ one_if two (record { size = b₀; drain = b₁; fill = b₂ }); rates = a₈; choices = a₉ }
    go a₁ a₂ a₃ a₄ a₅ a₆ a₇ a₈ a₉ b₀ b₁ b₂ t true = refl
    go a₁ a₂ a₃ a₄ a₅ a₆ a₇ a₈ a₉ b₀ b₁ b₂ t false = refl

-- numbers of two bytes, each
abbrev Small : List ℕ → Type 0
Small [] = Unit {0}
Small (x ∷ l) = (x < 65536) × Small l

small_at : (l : List ℕ) → Small l → (i : ℕ) → get_or l i 0 < 65536
small_at [] h i = omega arith
small_at (x ∷ l) h zero = h.0
small_at (x ∷ l) h (suc i) = small_at l h.1 i

-- a header within its limits has such fields
module _ (h : Header) (kept : AllKept (header_limits h)) where
  small_one : (k : Policed) → h.buckets ≡ k ∷ [] → Small (front 1 h k no_bucket)
  unfolding front
  small_one k e =
      let b : AllKept (bucket_limits largest_sizes (k ∷ [])) = rw e at kept.1.1.1.1.1.1.1 in
      (omega arith, (omega arith, (omega arith, (omega arith, (omega arith, (omega arith, (omega arith, (omega arith, (omega arith, (omega arith, (omega arith, (omega arith, (omega arith, tt)))))))))))))

  small_two : (k k2 : Policed) → h.buckets ≡ k ∷ k2 ∷ [] → Small (front 8 h k k2)
  unfolding front
  small_two k k2 e =
      let b : AllKept (bucket_limits largest_sizes (k ∷ k2 ∷ [])) = rw e at kept.1.1.1.1.1.1.1 in
      (omega arith, (omega arith, (omega arith, (omega arith, (omega arith, (omega arith, (omega arith, (omega arith, (omega arith, (omega arith, (omega arith, (omega arith, (omega arith, tt)))))))))))))

-- and so are the pins of a set that matches a job
small_pins : (j : Job) (s : PinSet) → j.choices ≤ 1000 → Matches j s → (i : ℕ) → i < 512 → get_or s.pins i 0 < 65536
small_pins j s few m i h = go (dec_lt i (length j.units))
  where
    here : (get_or s.pins i 0 ≡ 65535) ⊎ (get_or s.pins i 0 < j.choices) → get_or s.pins i 0 < 65536
    here (inl e) = omega arith
    here (inr b) = omega arith

    go : Dec (i < length j.units) → get_or s.pins i 0 < 65536
    go (yes b) = here (m.pins i b)
    go (no b) = omega (arith, m.past i (omega arith) h)

-- the numbers of such a set, whatever stands behind them
module _ (s : PinSet) (kind : ℕ) (k k2 : Policed) (is : set_numbers s ≡ front kind s.header k k2 ++ behind s) (size : length s.pins ≡ 512) (rest : List ℕ) where
  numbers_at : (p : ℕ) → p < 528 → get_or (set_numbers s ++ rest) p 0 ≡ get_or (set_numbers s) p 0
  numbers_at p h = get_or-append (set_numbers s) rest 0 p (omega (arith, (layout s kind k k2 is size).size))

  long : 528 ≤ length (set_numbers s ++ rest)
  long = omega (arith, (layout s kind k k2 is size).size, length-append (set_numbers s) rest)

  small_fields : Small (front kind s.header k k2) → ((i : ℕ) → i < 512 → get_or s.pins i 0 < 65536) → (i : ℕ) → i < 524 → get_or (set_numbers s ++ rest) (1 + i) 0 < 65536
  unfolding front
  small_fields f g i h = rw (numbers_at (1 + i) (omega arith)) (go (dec_lt i 12))
    where
      go : Dec (i < 12) → get_or (set_numbers s) (1 + i) 0 < 65536
      go (yes b) = rw (is, get_or-append (front kind s.header k k2) (behind s) 0 (1 + i) (omega arith)) (small_at (front kind s.header k k2) f (1 + i))
      go (no b) = pin (i - 12) (omega arith) (omega arith)
        where
          pin : (n : ℕ) → 1 + i ≡ 12 + (1 + n) → n < 512 → get_or (set_numbers s) (1 + i) 0 < 65536
          pin n e b = rw e (omega (arith, (layout s kind k k2 is size).pins (1 + n) (omega arith) (omega arith), g (1 + n - 1) (omega arith)))

  pins_back : take 512 (drop pins_place (set_numbers s ++ rest)) ≡ s.pins
  unfolding front
  pins_back = rw (is, append_assoc s.pins (total_numbers s.totals) rest) (take_at s.pins (total_numbers s.totals ++ rest) 512 size)

  totals_back : ◌≡◌ {A = PinTotals} (record { count = get_or (set_numbers s ++ rest) totals_place 0; size = get_or (set_numbers s ++ rest) (totals_place + 1) 0; distortion = get_or (set_numbers s ++ rest) (totals_place + 2) 0 }) s.totals
  totals_back =
      let a = layout s kind k k2 is size in
      λ i. record {
        count = (numbers_at totals_place (omega arith) ∙ a.count) i;
        size = (numbers_at (totals_place + 1) (omega arith) ∙ a.grains) i;
        distortion = (numbers_at (totals_place + 2) (omega arith) ∙ a.distortion) i;
      }

  reads_back : set_shaped (set_numbers s ++ rest) ≡ true → header_at (set_numbers s ++ rest) ≡ s.header → set_in (set_numbers s ++ rest) ≡ s
  reads_back t e = read_shaped (set_numbers s ++ rest) t ∙ (λ i. record { header = (header_told (set_numbers s ++ rest) (omega (arith, long)) ∙ e) i; pins = pins_back i; totals = totals_back i })

-- of either kind
module _ (s : PinSet) (rest : List ℕ) where
  kind_back_one : (k : Policed) → s.header.buckets ≡ k ∷ [] → (if eqb (get_or (set_numbers s ++ rest) 0 0) 8 then true else one_kind (set_numbers s ++ rest)) ≡ true
  unfolding front one_kind
  kind_back_one k e = rw (numbers_one s k e)

  kind_back_two : (k k2 : Policed) → s.header.buckets ≡ k ∷ k2 ∷ [] → (if eqb (get_or (set_numbers s ++ rest) 0 0) 8 then true else one_kind (set_numbers s ++ rest)) ≡ true
  unfolding front one_kind
  kind_back_two k k2 e = rw (numbers_two s k k2 e)

  header_back_one : (k : Policed) → s.header.buckets ≡ k ∷ [] → header_at (set_numbers s ++ rest) ≡ s.header
  unfolding front header_at one_if
  header_back_one k e = rw (numbers_one s k e) (λ i. record { units = s.header.units; delay = s.header.delay; decoder = s.header.decoder; level = s.header.level; buckets = (sym e) i; rates = s.header.rates; choices = s.header.choices })

  header_back_two : (k k2 : Policed) → s.header.buckets ≡ k ∷ k2 ∷ [] → header_at (set_numbers s ++ rest) ≡ s.header
  unfolding front header_at one_if
  header_back_two k k2 e = rw (numbers_two s k k2 e) (λ i. record { units = s.header.units; delay = s.header.delay; decoder = s.header.decoder; level = s.header.level; buckets = (sym e) i; rates = s.header.rates; choices = s.header.choices })

pub set_reads_back : SetReadsBack
set_reads_back d b j n parsed s m size rest = go (buckets_of s.header kept.1.1.1.1.1.1.0.0 kept.1.1.1.1.1.1.0.1)
  where
    kept : AllKept (header_limits s.header)
    kept = rw m.header (well_read d b j n parsed).well_formed.header

    pins : (i : ℕ) → i < 512 → get_or s.pins i 0 < 65536
    pins = small_pins j s (limits d b j n parsed).choices.1 m

    go : Buckets s.header → set_in (set_numbers s ++ rest) ≡ s
    go (just_one k e) =
        let is = numbers_one s k e in
        reads_back s 1 k no_bucket is size rest
        (shaped_by (set_numbers s ++ rest) (long s 1 k no_bucket is size rest) (small_fields s 1 k no_bucket is size rest (small_one s.header kept k e) pins) (kind_back_one s rest k e))
        (header_back_one s rest k e)
    go (both_two k k2 e) =
        let is = numbers_two s k k2 e in
        reads_back s 8 k k2 is size rest
        (shaped_by (set_numbers s ++ rest) (long s 8 k k2 is size rest) (small_fields s 8 k k2 is size rest (small_two s.header kept k k2 e) pins) (kind_back_two s rest k k2 e))
        (header_back_two s rest k k2 e)

-- the last three of 515 numbers
last_three : (t : List ℕ) → 515 ≤ length t → take 515 t ≡ take 512 t ++ (get_or t 512 0 ∷ get_or t 513 0 ∷ get_or t 514 0 ∷ [])
last_three t h = take-add 512 3 t ∙ ap (λ r. take 512 t ++ take 3 r) (drop-cons t 512 0 (omega arith) ∙ ap (λ r. get_or t 512 0 ∷ r) (drop-cons t 513 0 (omega arith) ∙ ap (λ r. get_or t 513 0 ∷ r) (drop-cons t 514 0 (omega arith))))

-- the set that a list tells, number by number
unfoldable set_at : List ℕ → PinSet
set_at l = record {
  header = header_at l;
  pins = take 512 (drop pins_place l);
  totals = record { count = get_or l totals_place 0; size = get_or l (totals_place + 1) 0; distortion = get_or l (totals_place + 2) 0 };
}

set_told : (l : List ℕ) → 13 ≤ length l → set_shaped l ≡ true → set_in l ≡ set_at l
unfolding set_at
set_told l h e = read_shaped l e ∙ (λ i. record { header = (header_told l h) i; pins = (set_at l).pins; totals = (set_at l).totals })

-- a list of either kind begins with the numbers of that set
numbers_kept : (l : List ℕ) → 13 ≤ length l → 528 ≤ length l → Kind l → take 528 l ≡ set_numbers (set_at l)
numbers_kept = thirteen (λ l. 528 ≤ length l → Kind l → take 528 l ≡ set_numbers (set_at l)) go
  where
    go : (a₀ a₁ a₂ a₃ a₄ a₅ a₆ a₇ a₈ a₉ b₀ b₁ b₂ : ℕ) (t : List ℕ) → 528 ≤ length (a₀ ∷ a₁ ∷ a₂ ∷ a₃ ∷ a₄ ∷ a₅ ∷ a₆ ∷ a₇ ∷ a₈ ∷ a₉ ∷ b₀ ∷ b₁ ∷ b₂ ∷ t) → Kind (a₀ ∷ a₁ ∷ a₂ ∷ a₃ ∷ a₄ ∷ a₅ ∷ a₆ ∷ a₇ ∷ a₈ ∷ a₉ ∷ b₀ ∷ b₁ ∷ b₂ ∷ t) → take 528 (a₀ ∷ a₁ ∷ a₂ ∷ a₃ ∷ a₄ ∷ a₅ ∷ a₆ ∷ a₇ ∷ a₈ ∷ a₉ ∷ b₀ ∷ b₁ ∷ b₂ ∷ t) ≡ set_numbers (set_at (a₀ ∷ a₁ ∷ a₂ ∷ a₃ ∷ a₄ ∷ a₅ ∷ a₆ ∷ a₇ ∷ a₈ ∷ a₉ ∷ b₀ ∷ b₁ ∷ b₂ ∷ t))
    go a₀ a₁ a₂ a₃ a₄ a₅ a₆ a₇ a₈ a₉ b₀ b₁ b₂ t h (kind_two e) = unfold set_numbers set_at header_at one_if header_kind twelve header_values nine_values bucket_values total_numbers in (rw (e, last_three t (omega arith)))
    go a₀ a₁ a₂ a₃ a₄ a₅ a₆ a₇ a₈ a₉ b₀ b₁ b₂ t h (kind_one e e₀ e₁ e₂) = unfold set_numbers set_at header_at one_if header_kind twelve header_values nine_values bucket_values total_numbers in (rw (e, e₀, e₁, e₂, last_three t (omega arith)))

-- the set of no job matches none
no_match : (j : Job) → 1 ≤ length j.units → Matches j (fresh no_header) → ⊥
unfolding fresh header_in
no_match j h m = omega (arith, ap (λ (x : Header). x.units) m.header)

pub sets_taken : SetsTaken
sets_taken d b j n parsed l = record {
  taken = λ q. let m = passes_matches d b j n parsed (set_in l) q in go (set_shaped l) refl m;
  else_six = unmatched d b j n parsed (set_in l);
  short = λ h. unmatched d b j n parsed (set_in l) (λ m. not_shaped h m (set_shaped l) refl);
}
  where
    other : set_shaped l ≡ false → Matches j (set_in l) → ⊥
    other e m = no_match j (limits d b j n parsed).units.0 (rw (read_other l e) at m)

    go : (t : Bool) → set_shaped l ≡ t → Matches j (set_in l) → Matches j (set_in l) × (take 528 l ≡ set_numbers (set_in l)) × (528 ≤ length l)
    go true e m =
        let h = (shaped l e).size in
        (m, rw (set_told l (omega arith) e) (numbers_kept l (omega arith) h (kind_of l (shaped_parts l e).2)), h)
    go false e m = absurd (other e m)

    not_shaped : length l < 528 → Matches j (set_in l) → (t : Bool) → set_shaped l ≡ t → ⊥
    not_shaped h m true e = omega (arith, (shaped l e).size)
    not_shaped h m false e = other e m
