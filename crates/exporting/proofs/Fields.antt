-- How many fields a header has.
use Prim.Native.Nat.{ℕ}
use mathlib.Core.Path.{◌≡◌}
use mathlib.Core.Bool.{true, false}
use mathlib.Core.Logic.{◌⊎◌, inl, inr}
use borrow.Author.Tests.{ne_eqb}
use Rattle.exporting.specs.Exports.{header_fields}

pub is_header : (n : ℕ) → (n ≡ 9) ⊎ (n ≡ 12) → header_fields n ≡ true
unfolding header_fields
is_header n (inl e) = rw e
is_header n (inr e) = rw e

pub neither : (n : ℕ) → (n ≡ 9 → ⊥) → (n ≡ 12 → ⊥) → header_fields n ≡ false
unfolding header_fields
neither n f g = rw (ne_eqb n 12 g) (ne_eqb n 9 f)

pub no_header : (n : ℕ) → ((n ≡ 9) ⊎ (n ≡ 12) → ⊥) → header_fields n ≡ false
no_header n f = neither n (λ e. f (inl e)) (λ e. f (inr e))
