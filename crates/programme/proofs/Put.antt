-- Programmes written over numbers one after the other: what the numbers are after each, how many they are, and how many programmes have room. By induction on the lists. Assumes nothing.
use mathlib.Core.Path.{◌≡◌, refl, ap}
use Prim.Native.Nat.{ℕ, zero, suc, ◌*◌, ◌≤◌, ◌<◌}
use native.Mathlib.Nat.{not-suc-le-zero, le_of_suc-le-suc}
use native.Mathlib.Omega.{arith}
use mathlib.Core.Logic.{◌⊎◌, inl, inr}
use mathlib.Core.List.{List, [], ◌∷◌, ◌++◌}
use lib.ListN.{length, get_or, take, drop, set}
use Rattle.programme.specs.declared.Programme.{Programme}
use Rattle.programme.specs.Programmes.{numbers_of, fitting}

-- what stands past the end of a list, and the programme at a place
abbrev pub empty : Programme
empty = record { first = 0; length = 0 }

abbrev pub programme_at : List Programme → ℕ → Programme
programme_at list at = get_or list at empty

-- the place of pair i. It is 2 * i, as a count that goes up with i
abbrev pub twice : ℕ → ℕ
twice zero = zero
twice (suc i) = suc (suc (twice i))

pub twice_is : (i : ℕ) → twice i ≡ 2 * i
twice_is zero = refl
twice_is (suc i) = next (twice i) i (twice_is i)
  where
    next : (t j : ℕ) → t ≡ 2 * j → suc (suc t) ≡ 2 * suc j
    next t j e = omega (arith, e)

-- the numbers once i programmes are written
abbrev pub partly : List Programme → List ℕ → ℕ → List ℕ
partly ps ns i = numbers_of (take i ps) ++ drop (twice i) ns

pub length_partly : (ps : List Programme) (ns : List ℕ) (i : ℕ) → i ≤ length ps → twice i ≤ length ns → length (partly ps ns i) ≡ length ns
length_partly ps ns zero l m = refl
length_partly [] ns (suc i) l m = absurd (not-suc-le-zero l)
length_partly (p ∷ ps) [] (suc i) l m = absurd (not-suc-le-zero m)
length_partly (p ∷ ps) (a ∷ []) (suc i) l m = absurd (not-suc-le-zero (le_of_suc-le-suc m))
length_partly (p ∷ ps) (a ∷ b ∷ ns) (suc i) l m = ap (λ (k : ℕ). suc (suc k)) (length_partly ps ns i (le_of_suc-le-suc l) (le_of_suc-le-suc (le_of_suc-le-suc m)))

-- one programme more
pub one_more : (ps : List Programme) (ns : List ℕ) (i : ℕ) → i < length ps → suc (twice i) < length ns
    → set (set (partly ps ns i) (twice i) (programme_at ps i).first) (suc (twice i)) (programme_at ps i).length ≡ partly ps ns (suc i)
one_more [] ns i l m = absurd (not-suc-le-zero l)
one_more (p ∷ ps) [] i l m = absurd (not-suc-le-zero m)
one_more (p ∷ ps) (a ∷ []) i l m = absurd (not-suc-le-zero (le_of_suc-le-suc m))
one_more (p ∷ ps) (a ∷ b ∷ ns) zero l m = refl
one_more (p ∷ ps) (a ∷ b ∷ ns) (suc i) l m =
    ap {B = List ℕ} (λ (r : List ℕ). p.first ∷ p.length ∷ r) (one_more ps ns i (le_of_suc-le-suc l) (le_of_suc-le-suc (le_of_suc-le-suc m)))

-- there is no programme more of n, or no room for it in m places: then as many are written as have room
pub all_written : (n m i : ℕ) → i ≤ n → twice i ≤ m → (n ≤ i) ⊎ (m ≤ suc (twice i)) → i ≡ fitting n m
all_written n m i l r over = counts (twice i) (twice_is i) r over
  where
    counts : (t : ℕ) → t ≡ 2 * i → t ≤ m → (n ≤ i) ⊎ (m ≤ suc t) → i ≡ fitting n m
    counts t e k (inl o) = omega (arith, e, k, o, l)
    counts t e k (inr o) = omega (arith, e, k, o, l)
