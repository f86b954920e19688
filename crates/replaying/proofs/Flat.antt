-- Levels as one list of numbers, with any number of buckets: how many they are, and where each stands.
use Prim.Native.Nat.{ℕ, zero, suc, ◌+◌, ◌*◌, ◌<◌}
use mathlib.Core.Path.{◌≡◌, refl, sym, ap, ◌∙◌}
use mathlib.Core.List.{List, [], ◌∷◌}
use native.Mathlib.Omega.{arith}
use native.Mathlib.Nat.{mul-zero, mul-suc}
use lib.ListN.{length, get_or, length-append, get_or-append}
use lib.Seq.{get_or-append-add}
use Rattle.model.specs.Job.{Levels, no_levels}
use Rattle.replaying.specs.Calls.{flat}

-- n buckets' levels in each
abbrev pub Each : ℕ → List Levels → Type 0
Each n ls = (i : ℕ) → i < length ls → length (get_or ls i no_levels).buckets ≡ n

later : (n : ℕ) (l : Levels) (ls : List Levels) → Each n (l ∷ ls) → Each n ls
later n l ls f i h = f (suc i) (omega arith)

pub flat_length : (n : ℕ) (ls : List Levels) → Each n ls → length (flat ls) ≡ (1 + n) * length ls
unfolding flat
flat_length n [] f = sym (mul-zero (1 + n))
flat_length n (l ∷ ls) f =
    let h = f 0 (omega arith) in
    let ih = flat_length n ls (later n l ls f) in
    omega (arith, length-append l.buckets (flat ls), mul-suc (1 + n) (length ls))

-- the numbers of a later interval stand behind those of the first
past_first : (n i k : ℕ) (l : Levels) (ls : List Levels) → length l.buckets ≡ n → get_or (flat (l ∷ ls)) ((1 + n) * suc i + k) 0 ≡ get_or (flat ls) ((1 + n) * i + k) 0
unfolding flat
past_first n i k l ls e =
    let at : (1 + n) * suc i + k ≡ suc (length l.buckets + ((1 + n) * i + k)) = omega (arith, mul-suc (1 + n) i) in
    rw at (get_or-append-add l.buckets (flat ls) ((1 + n) * i + k) 0)

pub flat_decoder : (n : ℕ) (ls : List Levels) → Each n ls → (i : ℕ) → i < length ls → get_or (flat ls) ((1 + n) * i) 0 ≡ (get_or ls i no_levels).decoder
unfolding flat
flat_decoder n [] f i h = absurd (omega arith)
flat_decoder n (l ∷ ls) f zero h = rw (mul-zero (1 + n)) refl
flat_decoder n (l ∷ ls) f (suc i) h =
    let p : (1 + n) * suc i ≡ (1 + n) * suc i + 0 = omega arith in
    let q : (1 + n) * i + 0 ≡ (1 + n) * i = omega arith in
    ap (λ (k : ℕ). get_or (flat (l ∷ ls)) k 0) p ∙ past_first n i 0 l ls (f 0 (omega arith)) ∙ ap (λ (k : ℕ). get_or (flat ls) k 0) q ∙ flat_decoder n ls (later n l ls f) i (omega arith)

pub flat_bucket : (n : ℕ) (ls : List Levels) → Each n ls → (i k : ℕ) → i < length ls → k < n → get_or (flat ls) ((1 + n) * i + suc k) 0 ≡ get_or (get_or ls i no_levels).buckets k 0
unfolding flat
flat_bucket n [] f i k h b = absurd (omega arith)
flat_bucket n (l ∷ ls) f zero k h b =
    let at : (1 + n) * 0 + suc k ≡ suc k = omega (arith, mul-zero (1 + n)) in
    rw at (get_or-append l.buckets (flat ls) 0 k (omega (arith, f 0 (omega arith))))
flat_bucket n (l ∷ ls) f (suc i) k h b = past_first n i (suc k) l ls (f 0 (omega arith)) ∙ flat_bucket n ls (later n l ls f) i k (omega arith) b
