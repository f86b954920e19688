-- Bytes written one after another from a place on, numbers of two and four bytes among them; and a field past the end.
use Prim.Native.Nat.{ℕ, zero, suc, ◌+◌, ◌-◌, ◌/◌, ◌<◌, ◌≤◌}
use mathlib.Core.Path.{◌≡◌, refl, sym, ap, ◌∙◌}
use mathlib.Core.List.{List, [], ◌∷◌, ◌++◌, append_assoc}
use native.Mathlib.Omega.{arith}
use native.Mathlib.Nat.{add-zero}
use borrow.Author.Tests.{lt-leb}
use lib.ListN.{length, take, drop, replicate}
use lib.Seq.{sets, length-sets, sets-eq}
use borrow.Rule.Slice.PartMut.{put_mid, Post-is}
use Rattle.std.specs.Int.{w16, w32, from_le_bytes, to_le_bytes}
use Rattle.format.specs.Fields.{number, bytes}
use Rattle.format.specs.Places.{field_at}
use Rattle.fields.specs.Written.{put_at}

-- a field that is not wholly there is 0
pub field_past : (w : ℕ) (b : List ℕ) (at : ℕ) → length b < at + w → field_at w b at ≡ 0
unfolding field_at
field_past w b at h = rw (lt-leb (at + w) (length b) h)

-- what is written behind what is written
put_more : (l : List ℕ) (at : ℕ) (vs ws : List ℕ) → sets l at (vs ++ ws) ≡ sets (sets l at vs) (at + length vs) ws
put_more l at [] ws = rw (add-zero at)
put_more l at (v ∷ vs) ws = let e : suc at + length vs ≡ at + suc (length vs) = omega arith in put_more _ (suc at) vs ws ∙ rw e

pub put_next : (l : List ℕ) (at n next : ℕ) (vs ws : List ℕ) → length vs ≡ n → at + n ≡ next → put_at l at (vs ++ ws) ≡ put_at (put_at l at vs) next ws
unfolding put_at
put_next l at n next vs ws e f = put_more l at vs ws ∙ rw (e, f)

-- nothing is written
pub put_nothing : (l : List ℕ) (at : ℕ) → put_at l at [] ≡ l
unfolding put_at
put_nothing l at = refl

pub put_size : (l m : List ℕ) (at : ℕ) (vs : List ℕ) → m ≡ put_at l at vs → length m ≡ length l
unfolding put_at
put_size l m at vs e = ap length e ∙ length-sets l at vs

-- the bytes put in the place of as many are those bytes written
pub put_part : (l vs : List ℕ) (at : ℕ) → at + length vs ≤ length l → put_mid at (at + length vs - at) l vs ≡ put_at l at vs
unfolding put_at
put_part l vs at h = rw (Post-is at (at + length vs) l (omega arith)) (sym (sets-eq vs l at h ∙ append_assoc (take at l) vs (drop (at + length vs) l)))

-- zeros stand for 0
number_zeros : (w : ℕ) → number (replicate w 0) ≡ 0
unfolding number
number_zeros zero = refl
number_zeros (suc w) = rw (number_zeros w)

pub zeros_past : (w : ℕ) (b : List ℕ) (at : ℕ) → length b < at + w → number (replicate w 0) ≡ field_at w b at
zeros_past w b at h = number_zeros w ∙ sym (field_past w b at h)

-- what the library reads and writes as two and four bytes
pub two_read : (l : List ℕ) → length l ≡ 2 → from_le_bytes w16 l ≡ number l
unfolding number
two_read [] h = absurd (omega arith)
two_read (a ∷ []) h = absurd (omega arith)
two_read (a ∷ b ∷ []) h = omega arith
two_read (a ∷ b ∷ c ∷ l) h = absurd (omega arith)

pub four_read : (l : List ℕ) → length l ≡ 4 → from_le_bytes w32 l ≡ number l
unfolding number
four_read [] h = absurd (omega arith)
four_read (a ∷ []) h = absurd (omega arith)
four_read (a ∷ b ∷ []) h = absurd (omega arith)
four_read (a ∷ b ∷ c ∷ []) h = absurd (omega arith)
four_read (a ∷ b ∷ c ∷ d ∷ []) h = omega arith
four_read (a ∷ b ∷ c ∷ d ∷ e ∷ l) h = absurd (omega arith)

pub two_written : (n : ℕ) → to_le_bytes w16 n ≡ bytes 2 n
unfolding bytes
two_written n = refl

pub four_written : (n : ℕ) → to_le_bytes w32 n ≡ bytes 4 n
unfolding bytes
four_written n =
    let a : n / 256 / 256 ≡ n / 65536 = omega arith in
    let b : n / 65536 / 256 ≡ n / 16777216 = omega arith in
    rw (a, b)
