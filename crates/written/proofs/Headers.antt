-- The fields of a header, and the second bucket among them.
use Prim.Native.Nat.{ℕ, ◌+◌, ◌*◌, ◌≤◌}
use mathlib.Core.Path.{◌≡◌, refl}
use mathlib.Core.Bool.{Bool, true, false}
use mathlib.Core.List.{List, [], ◌∷◌}
use native.Mathlib.Omega.{arith}
use lib.Dec.{eqb}
use lib.ListN.{length, get_or, drop, length-drop, drop_of_length-le}
use lib.Seq.{get_or-drop}
use borrow.Author.Tests.{eqb-true}
use Rattle.std.specs.Prelude.{if◌then◌else◌}
use Rattle.format.specs.JobBytes.{Policed, Header, policed_by}
use Rattle.header.specs.Answers.{extra}
use Rattle.exporting.specs.Exports.{header_fields}

-- fields of a second bucket
pub twelve : (two : Bool) (n : ℕ) → two ≡ true → n ≡ 9 + 3 * extra two → n ≡ 12
unfolding extra
twelve two n e h = rw e at h

pub fields_two : (n : ℕ) → header_fields n ≡ true → n ≡ 9 + 3 * extra (eqb n 12)
unfolding header_fields extra
fields_two n e = go (eqb n 12) refl e
  where
    go : (t : Bool) → eqb n 12 ≡ t → (if t then true else eqb n 9) ≡ true → n ≡ 9 + 3 * (if t then 1 else 0)
    go true q e = eqb-true n 12 q
    go false q e = eqb-true n 9 e

three_of : (l : List ℕ) → length l ≡ 3 → l ≡ get_or l 0 0 ∷ get_or l 1 0 ∷ get_or l 2 0 ∷ []
three_of [] e = absurd (omega arith)
three_of (a ∷ []) e = absurd (omega arith)
three_of (a ∷ b ∷ []) e = absurd (omega arith)
three_of (a ∷ b ∷ c ∷ []) e = refl
three_of (a ∷ b ∷ c ∷ d ∷ l) e = absurd (omega arith)

pub three_read : (fields : List ℕ) → length fields ≡ 12 → record { size = get_or fields 9 0; drain = get_or fields 10 0; fill = get_or fields 11 0 } ∷ [] ≡ policed_by (drop 9 fields)
unfolding policed_by
three_read fields n = rw (three_of (drop 9 fields) (rw length-drop (omega arith)), get_or-drop, get_or-drop, get_or-drop)

pub none_behind : (fields : List ℕ) (two : Bool) → two ≡ false → length fields ≡ 9 + 3 * extra two → [] ≡ policed_by (drop 9 fields)
unfolding policed_by extra
none_behind fields two e n = let m : length fields ≤ 9 = omega (arith, rw e at n) in rw (drop_of_length-le fields m)

-- a header with these buckets behind the first
pub with_more : (u d b l : ℕ) (k : Policed) (r c : ℕ) (more other : List Policed) → more ≡ other → ◌≡◌ {A = Header} (record { units = u; delay = d; decoder = b; level = l; buckets = k ∷ more; rates = r; choices = c }) (record { units = u; delay = d; decoder = b; level = l; buckets = k ∷ other; rates = r; choices = c })
with_more u d b l k r c more other e = rw e
