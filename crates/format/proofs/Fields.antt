-- What one, two and four bytes at a place stand for, and where the i-th of fields of one width stands.
use Prim.Native.Nat.{ℕ, zero, suc, ◌+◌, ◌*◌, ◌≤◌, ◌<◌}
use mathlib.Core.Path.{◌≡◌, sym, ap₂, ◌∙◌}
use mathlib.Core.List.{List, [], ◌∷◌}
use native.Mathlib.Omega.{arith}
use native.Mathlib.Nat.{mul-zero, mul-suc, add-zero}
use lib.ListN.{length, get_or, take, drop, replicate, length-drop}
use lib.Seq.{drop-drop, get_or-drop}
use Rattle.format.specs.Fields.{number, fields}
use Rattle.format.specs.Claims.{u16_at, u32_at}

one_of : (l : List ℕ) → 1 ≤ length l → number (take 1 l) ≡ get_or l 0 0
unfolding number
one_of [] h = absurd (omega arith)
one_of (x ∷ l) h = omega arith

two_of : (l : List ℕ) → 2 ≤ length l → number (take 2 l) ≡ u16_at l 0
unfolding number
two_of [] h = absurd (omega arith)
two_of (x ∷ []) h = absurd (omega arith)
two_of (x ∷ y ∷ l) h = omega arith

four_of : (l : List ℕ) → 4 ≤ length l → number (take 4 l) ≡ u32_at l 0
unfolding number
four_of [] h = absurd (omega arith)
four_of (x ∷ []) h = absurd (omega arith)
four_of (x ∷ y ∷ []) h = absurd (omega arith)
four_of (x ∷ y ∷ z ∷ []) h = absurd (omega arith)
four_of (x ∷ y ∷ z ∷ w ∷ l) h = omega arith

-- the same at a place
pub one_at : (l : List ℕ) (at : ℕ) → at < length l → number (take 1 (drop at l)) ≡ get_or l at 0
one_at l at h = one_of (drop at l) (rw length-drop (omega arith)) ∙ simp (get_or-drop, add-zero)

pub two_at : (l : List ℕ) (at : ℕ) → at + 2 ≤ length l → number (take 2 (drop at l)) ≡ u16_at l at
two_at l at h = two_of (drop at l) (rw length-drop (omega arith)) ∙ simp (get_or-drop, add-zero)

pub u32_there : (l : List ℕ) (at : ℕ) → at + 4 ≤ length l → number (take 4 (drop at l)) ≡ u32_at l at
u32_there l at h =
    let z : at + 2 + 1 ≡ at + 3 = omega arith in
    four_of (drop at l) (rw length-drop (omega arith)) ∙ simp (get_or-drop, add-zero, z)

-- and four as two pairs
pub four_at : (l : List ℕ) (at : ℕ) → at + 4 ≤ length l → number (take 4 (drop at l)) ≡ number (take 2 (drop at l)) + 65536 * number (take 2 (drop (at + 2) l))
four_at l at h = u32_there l at h ∙ sym (ap₂ (λ (x y : ℕ). x + 65536 * y) (two_at l at (omega arith)) (two_at l (at + 2) (omega arith)))

-- the i-th of fields of one width
pub nth_field : (n w i : ℕ) (b : List ℕ) → i < n → get_or (fields (replicate n w) b) i 0 ≡ number (take w (drop (w * i) b))
unfolding fields
nth_field zero w i b h = absurd (omega arith)
nth_field (suc n) w zero b h = rw mul-zero
nth_field (suc n) w (suc i) b h =
    let e : w + w * i ≡ w * suc i = omega (arith, mul-suc w i) in
    nth_field n w i (drop w b) (omega arith) ∙ rw (drop-drop, e)
