-- What a list that is shaped as a set's numbers tells: its fields, its header, the set.
use Rattle.std.specs.Prelude.{Option}
use Prim.Native.Nat.{ℕ, ◌<◌, ◌≤◌}
use mathlib.Core.Path.{◌≡◌, refl, sym, ◌∙◌}
use mathlib.Core.Bool.{Bool, true, false}
use mathlib.Core.List.{List, ◌∷◌}
use native.Mathlib.Omega.{arith}
use lib.Dec.{eqb}
use lib.ListN.{length, get_or, take, drop}
use borrow.Author.Tests.{eqb-true, eqb-false, lt-leb, le-leb, eq-eqb, ne_eqb}
use Rattle.base.specs.If.{one_if}
use Rattle.format.specs.JobBytes.{Policed, Header, header_of}
use Rattle.header.specs.declared.Bucket.{Bucket}
use Rattle.header.specs.Answers.{further}
use Rattle.pinning.specs.PinSet.{PinSet}
use Rattle.pinning.specs.Numbers.{two_byte, one_kind, set_shaped, field_count, set_in}
use Rattle.pinning.proofs.Numbers.{shaped, header_at, header_told, read_shaped}
use Rattle.numbers.specs.Parts.{bucket_at_lem, SecondIn, FieldIn}

-- the tests in their order
module _ (l : List ℕ) where
  pub too_short : length l < 528 → false ≡ set_shaped l
  unfolding set_shaped
  too_short h = rw (lt-leb 528 (length l) h)

  module _ (h : 528 ≤ length l) where
    pub too_wide : two_byte l 1 524 ≡ false → false ≡ set_shaped l
    unfolding set_shaped
    too_wide e = rw (le-leb 528 (length l) h, e)

    module _ (e : two_byte l 1 524 ≡ true) where
      pub two_kind : get_or l 0 0 ≡ 8 → true ≡ set_shaped l
      unfolding set_shaped
      two_kind k = rw (le-leb 528 (length l) h, e, eq-eqb (get_or l 0 0) 8 k)

      pub by_one_kind : (get_or l 0 0 ≡ 8 → ⊥) → one_kind l ≡ set_shaped l
      unfolding set_shaped
      by_one_kind k = rw (le-leb 528 (length l) h, e, ne_eqb (get_or l 0 0) 8 k)

-- a field is in the list, and of two bytes
module _ (l : List ℕ) (p : ℕ) (f : FieldIn l p) where
  pub field_there : p < length l
  field_there = omega (arith, (shaped l f.is_shaped).size, f.before_totals)

  pub field_small : get_or l p 0 < 65536
  field_small = (shaped l f.is_shaped).field p f.behind_kind f.before_totals

module _ (l : List ℕ) (is : set_shaped l ≡ true) where
  pub size_told : 528 ≤ length l
  size_told = (shaped l is).size

  -- the second bucket, where the kind tells of one
  second_read : (r : Option Bucket) → SecondIn l r → further r ≡ one_if (eqb (get_or l 0 0) 8) (bucket_at_lem l 10 11 12)
  unfolding one_if
  second_read r s = go (eqb (get_or l 0 0) 8) refl
    where
      go : (two : Bool) → eqb (get_or l 0 0) 8 ≡ two → further r ≡ one_if two (bucket_at_lem l 10 11 12)
      go true e = s.two (eqb-true (get_or l 0 0) 8 e)
      go false e = s.one (eqb-false (get_or l 0 0) 8 e)

  -- the header, from what each field was read as
  pub header_read : {a₁ a₂ a₃ a₆ a₈ a₉ : ℕ} (k : Policed) (r : Option Bucket)
      → a₁ ≡ get_or l 1 0
      → a₂ ≡ get_or l 2 0
      → a₃ ≡ get_or l 3 0
      → a₆ ≡ get_or l 6 0
      → k ≡ bucket_at_lem l 4 5 7
      → SecondIn l r
      → a₈ ≡ get_or l 8 0
      → a₉ ≡ get_or l 9 0
      → ◌≡◌ {A = Header} (record { units = a₁; delay = a₂; decoder = a₃; level = a₆; buckets = k ∷ further r; rates = a₈; choices = a₉ }) (header_of (take (field_count l) (drop 1 l)))
  unfolding header_at bucket_at_lem
  header_read k r e₁ e₂ e₃ e₆ f s e₈ e₉ =
      (λ i. record { units = e₁ i; delay = e₂ i; decoder = e₃ i; level = e₆ i; buckets = f i ∷ second_read r s i; rates = e₈ i; choices = e₉ i })
      ∙ sym (header_told l (omega (arith, size_told)))

  -- the set, from its parts
  pub set_read : (h : Header) (pins : List ℕ) → h ≡ header_of (take (field_count l) (drop 1 l)) → pins ≡ take 512 (drop 13 l) → ◌≡◌ {A = PinSet} (record { header = h; pins = pins; totals = record { count = get_or l 525 0; size = get_or l 526 0; distortion = get_or l 527 0 } }) (set_in l)
  set_read h pins e f = rw (e, f) (sym (read_shaped l is))
