-- Fields as the code reads them: one that may lie past the end, the two of a coding, those of a header and its buckets; and headers compared.
use Prim.Native.Nat.{ℕ, ◌+◌, ◌*◌, ◌-◌, ◌≤◌}
use mathlib.Core.Path.{◌≡◌, refl, sym, ◌∙◌}
use mathlib.Core.Bool.{Bool, true, false, ◌&&◌}
use mathlib.Core.List.{List, [], ◌∷◌}
use native.Mathlib.Omega.{arith}
use lib.ListN.{length, take, drop}
use lib.Seq.{drop-drop}
use Rattle.std.specs.Prelude.{Some, None}
use lib.Dec.{eqb}
use Rattle.std.specs.Option.{option_eq}
use Rattle.std.specs.Prelude as std
use Rattle.header.specs.declared.Bucket.{Bucket}
use Rattle.model.specs.Job.{Coding}
use Rattle.format.specs.Fields.{number, fields}
use Rattle.format.specs.JobBytes.{Policed, Header, policed_by, header_of, bucket_widths, header_form, same_buckets, same_header}
use Rattle.format.specs.Places.{header_size, field_at, coding_place, coding_at}
use Rattle.format.proofs.Header.{header_from, header_fields}
use Rattle.header.specs.declared.Header as code
use Rattle.header.specs.Answers.{extra, policed_of, further, plain}

-- the coding that stands at a place, from what its two fields were read as
pub coding_made : (b : List ℕ) (h : Header) (u x at : ℕ) {s d : ℕ} → at ≡ coding_place h u x → s ≡ field_at 2 b at → d ≡ field_at 4 b (at + 2) → ◌≡◌ {A = Coding} (record { size = s; distortion = d }) (coding_at b h u x)
unfolding coding_at
coding_made b h u x at p q r = rw (q, r, p)

-- the header whose fields stand here, from what each was read as
pub header_made : (b : List ℕ) (n : ℕ) (more : List Policed) {a₀ a₁ a₂ a₃ a₄ a₅ a₆ a₇ a₈ : ℕ}
    → a₀ ≡ number (take 2 (drop 0 b))
    → a₁ ≡ number (take 2 (drop 2 b))
    → a₂ ≡ number (take 2 (drop 4 b))
    → a₃ ≡ number (take 2 (drop 6 b))
    → a₄ ≡ number (take 2 (drop 8 b))
    → a₅ ≡ number (take 2 (drop 10 b))
    → a₆ ≡ number (take 2 (drop 12 b))
    → a₇ ≡ number (take 2 (drop 14 b))
    → a₈ ≡ number (take 2 (drop 16 b))
    → more ≡ policed_by (fields (bucket_widths n) (drop 18 b))
    → ◌≡◌ {A = Header} (record { units = a₀; delay = a₁; decoder = a₂; level = a₅; buckets = record { size = a₃; drain = a₄; fill = a₆ } ∷ more; rates = a₇; choices = a₈ }) (header_of (fields (header_form n).widths b))
unfolding header_from
header_made b n more e₀ e₁ e₂ e₃ e₄ e₅ e₆ e₇ e₈ m =
    (λ k. record { units = e₀ k; delay = e₁ k; decoder = e₂ k; level = e₅ k; buckets = record { size = e₃ k; drain = e₄ k; fill = e₆ k } ∷ m k; rates = e₇ k; choices = e₈ k })
    ∙ sym (header_fields n b)

-- the second bucket, where there is one, from what its fields were read as
pub no_second : (b : List ℕ) (two : Bool) → two ≡ false → [] ≡ policed_by (fields (bucket_widths (extra two)) (drop 18 b))
unfolding extra policed_by bucket_widths fields
no_second b two e = rw e

pub second_made : (b : List ℕ) (two : Bool) {s d l : ℕ} → two ≡ true → s ≡ number (take 2 (drop 18 b)) → d ≡ number (take 2 (drop 20 b)) → l ≡ number (take 2 (drop 22 b)) → record { size = s; drain = d; fill = l } ∷ [] ≡ policed_by (fields (bucket_widths (extra two)) (drop 18 b))
unfolding extra policed_by bucket_widths fields
second_made b two e p q r = rw (e, p, q, r, drop-drop, drop-drop)

-- how many bytes a header's record takes
pub small_size : (h : code.Header) (w : ℕ) → w ≡ header_size (plain h) → w ≤ 28
unfolding plain
small_size h w e = go h.second e
  where
    go : (o : std.Option Bucket) → w ≡ 22 + 6 * (length (policed_of h.first ∷ further o) - 1) → w ≤ 28
    go None e = omega arith
    go (Some k) e = omega arith

-- the bytes of a second bucket that is there
pub two_room : (two : Bool) (n : ℕ) → two ≡ true → 18 + 6 * extra two ≤ n → 24 ≤ n
unfolding extra
two_room two n e h = rw e at h

-- the fields compared in the order of the struct, and in that of the definition
abbrev pub bucket_eq : Bucket → Bucket → Bool
bucket_eq k l = eqb k.size l.size && (eqb k.drain l.drain && eqb k.fill l.fill)

first_same : (k l : Bucket) (ks ls : List Policed) → same_buckets (policed_of k ∷ ks) (policed_of l ∷ ls) ≡ bucket_eq k l && same_buckets ks ls
unfolding same_buckets policed_of
first_same k l ks ls = go (eqb k.size l.size) (eqb k.drain l.drain) (eqb k.fill l.fill) (same_buckets ks ls)
  where
    go : (a b c s : Bool) → ((a && b) && c) && s ≡ (a && (b && c)) && s
    go false b c s = refl
    go true b c s = refl

further_same : (s t : std.Option Bucket) → option_eq bucket_eq s t ≡ same_buckets (further s) (further t)
unfolding same_buckets
further_same None None = refl
further_same None (Some l) = refl
further_same (Some k) None = refl
further_same (Some k) (Some l) = sym (first_same k l [] [] ∙ and_true (bucket_eq k l))
  where
    and_true : (t : Bool) → t && true ≡ t
    and_true true = refl
    and_true false = refl

out : (u d k l : Bool) → u && (d && (k && (l && false))) ≡ false
out false d k l = refl
out true false k l = refl
out true true false l = refl
out true true true false = refl
out true true true true = refl

reordered : (u d k l f s r c : Bool) → u && (d && (k && (l && (f && (s && (r && c)))))) ≡ (((((f && s) && u) && d) && k) && l) && r && c
reordered u d k l false s r c = out u d k l
reordered u d k l true false r c = out u d k l
reordered false d k l true true r c = refl
reordered true false k l true true r c = refl
reordered true true false l true true r c = refl
reordered true true true false true true r c = refl
reordered true true true true true true r c = refl

pub all_same : (g h : code.Header) → eqb g.units h.units && (eqb g.delay h.delay && (eqb g.decoder h.decoder && (eqb g.level h.level && (bucket_eq g.first h.first && (option_eq bucket_eq g.second h.second && (eqb g.rates h.rates && eqb g.choices h.choices)))))) ≡ same_header (plain g) (plain h)
unfolding same_header plain
all_same g h = rw (first_same g.first h.first (further g.second) (further h.second), ← further_same g.second h.second) (reordered (eqb g.units h.units) (eqb g.delay h.delay) (eqb g.decoder h.decoder) (eqb g.level h.level) (bucket_eq g.first h.first) (option_eq bucket_eq g.second h.second) (eqb g.rates h.rates) (eqb g.choices h.choices))
