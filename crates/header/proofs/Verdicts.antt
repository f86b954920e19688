-- A verdict against a list of limits, and one test for two limits.
use Prim.Native.Nat.{ℕ, ◌≤◌}
use mathlib.Core.Path.{◌≡◌, refl, sym, ◌∙◌}
use mathlib.Core.Option.{none, some}
use mathlib.Core.Bool.{Bool, true, false, ◌&&◌}
use native.Mathlib.Omega.{arith}
use mathlib.Core.List.{List, [], ◌∷◌}
use borrow.Author.Tests.{leb-true, leb-false}
use lib.Dec.{leb}
use lib.ListN.{length}
use Rattle.std.specs.Prelude.{Ok, Err, Some, None}
use Rattle.std.specs.Prelude as std
use Rattle.format.specs.Limits.{Limit, limit, both_kept, each_kept, broken, AllKept}
use Rattle.format.specs.JobBytes.{Policed, Header, largest_sizes, bucket_limits, header_limits}
use Rattle.format.proofs.Opening.{header_number}
use Rattle.format.proofs.Limits.{Kept, AllOf, not_true, is_kept, not_kept, none_broken, broken_one, all_fit, fit_all, not_all}
use Rattle.header.specs.declared.refusal.Refusal.{Refusal}
use Rattle.header.specs.declared.refusal.Refusal.TheVariants as r
use Rattle.header.specs.Refusals.{number}
use Rattle.header.specs.declared.Header as code
use Rattle.header.specs.declared.Bucket.{Bucket}
use Rattle.header.specs.Answers.{policed_of, further, plain}

-- limits that all have one refusal and are not all kept
pub refuses : (r : Refusal) (ls : List Limit) → AllOf (number r) ls → (AllKept ls → ⊥) → some (number r) ≡ broken ls
refuses r ls a g = sym (broken_one (number r) ls a g)

-- limits that are all kept
pub fits : (ls : List Limit) → AllKept ls → none ≡ broken ls
fits ls h = sym (none_broken ls h)

-- every field of the header has the refusal 3
pub header_refused : (h : Header) → (AllKept (header_limits h) → ⊥) → some 3 ≡ broken (header_limits h)
header_refused h g = refuses r.Header (header_limits h) (header_number h) g

-- the fields of a header as the code tests them
pub record FieldsIn (h : code.Header) : Type 0 where
  pub units : (1 ≤ h.units) × (h.units ≤ 512)
  pub delay : h.delay ≤ 64
  pub decoder : h.decoder ≤ 255
  pub level : h.level ≤ h.decoder
  pub rates : (1 ≤ h.rates) × (h.rates ≤ 16)
  pub choices : (1 ≤ h.choices) × (h.choices ≤ 1000)
  pub buckets : AllKept (bucket_limits largest_sizes (plain h).buckets)

pub field_out : (h : code.Header) → (FieldsIn h → ⊥) → some 3 ≡ broken (header_limits (plain h))
field_out h g = header_refused (plain h) (λ o. g (told h o))
  where
    told : (h : code.Header) → AllKept (header_limits (plain h)) → FieldsIn h
    told h o = unfold plain in (record {
      units = o.0;
      delay = o.1.0.1;
      decoder = o.1.1.0.1;
      level = o.1.1.1.0.1;
      rates = o.1.1.1.1.0;
      choices = o.1.1.1.1.1.0;
      buckets = o.1.1.1.1.1.1.1;
    })

-- one bucket or two
few : (k : Policed) (o : std.Option Bucket) → (1 ≤ length (k ∷ further o)) × (length (k ∷ further o) ≤ 2)
few k None = (omega arith, omega arith)
few k (Some l) = (omega arith, omega arith)

pub all_in : (h : code.Header) → FieldsIn h → none ≡ broken (header_limits (plain h))
unfolding plain
all_in h i = fits (header_limits (plain h)) (i.units, ((omega arith, i.delay), ((omega arith, i.decoder), ((omega arith, i.level), (i.rates, (i.choices, (few (policed_of h.first) h.second, i.buckets)))))))

-- the test for two limits says that both are kept
pub both : (l m : Limit) → Kept l → Kept m → true ≡ both_kept l m
unfolding both_kept
both l m h k = rw (is_kept l h) (sym (is_kept m k))

-- it says no where the first is not kept
pub not_first : (l m : Limit) → (Kept l → ⊥) → false ≡ both_kept l m
unfolding both_kept
not_first l m g = rw (not_kept l g)

-- and where the second is not
pub not_second : (l m : Limit) → Kept l → (Kept m → ⊥) → false ≡ both_kept l m
unfolding both_kept
not_second l m h g = rw (is_kept l h) (sym (not_kept m g))

-- the limits of a header's buckets: the first's, then those of the second where there is one
module _ (k : Policed) where
  abbrev pub limits : std.Option Bucket → List Limit
  limits o = bucket_limits largest_sizes (k ∷ further o)

  pub one_fits : {r : Bool} → r ≡ each_kept (bucket_limits (255 ∷ []) (k ∷ [])) → r ≡ each_kept (limits None)
  one_fits e = e

  pub two_fit : {r s : Bool} (l : Bucket) → r ≡ each_kept (bucket_limits (255 ∷ []) (k ∷ [])) → s ≡ each_kept (bucket_limits (63 ∷ []) (policed_of l ∷ [])) → r && s ≡ each_kept (limits (Some l))
  two_fit {r} {s} l e f = go r (sym e)
    where
      go : (r : Bool) → each_kept (bucket_limits (255 ∷ []) (k ∷ [])) ≡ r → r && s ≡ each_kept (limits (Some l))
      go false q = not_all (limits (Some l)) (λ h. not_true (sym q ∙ sym (fit_all (bucket_limits (255 ∷ []) (k ∷ [])) (h.0, (h.1.0, (h.1.1.0, tt))))))
      go true q = kept_first (all_fit (bucket_limits (255 ∷ []) (k ∷ [])) q)
        where
          kept_first : AllKept (bucket_limits (255 ∷ []) (k ∷ [])) → s ≡ each_kept (limits (Some l))
          kept_first h = unfold each_kept in (f ∙ rw (is_kept (limit 3 0 255 k.size) h.0, is_kept (limit 3 0 4095 k.drain) h.1.0, is_kept (limit 3 0 k.size k.fill) h.1.1.0) refl)

-- a size, a drain and a level within their limits, by two comparisons
pub three_fit : (s d l m : ℕ) → d ≤ 4095 → leb s m && leb l s ≡ each_kept (limit 3 0 m s ∷ limit 3 0 4095 d ∷ limit 3 0 s l ∷ [])
unfolding each_kept
three_fit s d l m h = go (leb s m) (leb l s) refl refl
  where
    go : (a b : Bool) → leb s m ≡ a → leb l s ≡ b → a && b ≡ each_kept (limit 3 0 m s ∷ limit 3 0 4095 d ∷ limit 3 0 s l ∷ [])
    go true true p q = fit_all (limit 3 0 m s ∷ limit 3 0 4095 d ∷ limit 3 0 s l ∷ []) ((omega arith, leb-true s m p), ((omega arith, h), ((omega arith, leb-true l s q), tt)))
    go true false p q = not_all (limit 3 0 m s ∷ limit 3 0 4095 d ∷ limit 3 0 s l ∷ []) (λ k. omega (arith, leb-false l s q))
    go false b p q = not_all (limit 3 0 m s ∷ limit 3 0 4095 d ∷ limit 3 0 s l ∷ []) (λ k. omega (arith, leb-false s m p))

-- a test that both fails and holds
pub never : {A : Type 0} (t : Bool) → t ≡ false → t ≡ true → A
never t p q = not_true (sym p ∙ q)
