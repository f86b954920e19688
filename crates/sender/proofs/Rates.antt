-- What a rate offers to a block in the second pass: the shift of the inner bucket's levels, and the block that the outer bucket's level leads to.
use Prim.Native.Nat.{ℕ, ◌+◌, ◌-◌, ◌*◌, ◌<◌, ◌≤◌, min}
use mathlib.Core.Path.{◌≡◌, refl, ◌∙◌, ap}
use mathlib.Core.List.{List}
use native.Mathlib.Decide.{dec_lt}
use native.Mathlib.Nat.{add-mul, one-mul, mul_assoc, mul-le-mul_right}
use native.Mathlib.Omega.{arith}
use borrow.Author.Tests.{lt-ltb, le-ltb}
use lib.Dec.{ltb}
use lib.ListN.{length, get_or, take, drop}
use Rattle.std.specs.Prelude.{if◌then◌else◌}
use Rattle.model.specs.Table.{mark}
use Rattle.sender.specs.declared.Bucket.{Bucket}
use Rattle.block.specs.Blocks.{Lessened, Lowered}
use Rattle.sender.specs.Rates.{level_read, rate_read}
use Rattle.block.proofs.Blocks.{part_at, part_size}
use Rattle.sender.proofs.Blocks.{lessened_cong, lowered_cong}

-- what the levels move by, where it is not cut to the row
not_cut : (l m width i : ℕ) → i < width - (l + m) → min m width ≡ m
not_cut l m width i h = omega arith

pub cut_fits : (l m width shift n : ℕ) → shift ≡ min m width → n ≡ width - (l + m) → shift + n ≤ width
cut_fits l m width shift n s t = omega arith

left_fits : (l m width : ℕ) → width ≤ 256 → width - (l + m) ≤ 256 - l
left_fits l m width h = omega arith

-- the words from a shift on
abbrev moved : ℕ → ℕ → List ℕ → List ℕ
moved shift n words = take (shift + n - shift) (drop shift words)

module _ (l m shift n : ℕ) (words : List ℕ) (s : shift ≡ min m (length words)) (t : n ≡ length words - (l + m)) where
  moved_size : length (moved shift n words) ≡ n
  moved_size = part_size shift n words (cut_fits l m (length words) shift n s t)

  pub moved_fits : length words ≤ 256 → length (moved shift n words) ≤ 256 - l
  moved_fits h = rw (moved_size, t) (left_fits l m (length words) h)

-- the levels that drain to 0, then the others
module _ (drain : ℕ) (words : List ℕ) (c : ℕ) (positive : 0 < length words) where
  abbrev low : ℕ
  low = drain - c

  abbrev high : ℕ
  high = c - drain

  abbrev width : ℕ
  width = length words

  levels_lowered : (old mid new : List ℕ) → Lessened 0 (min low width) (λ i. get_or words 0 0) old mid → Lessened low (width - (low + high)) (λ i. get_or words (high + i) 0) mid new → Lowered width (λ i. level_read drain words i c) old new
  unfolding level_read
  levels_lowered old mid new a b =
      record { size = b.size ∙ a.size; each = λ i k m. go i k m (dec_lt i low) (dec_lt (i - low) (width - (low + high))) }
    where
      go : (i : ℕ) → i < width → get_or old i 0 ≤ mark → Dec (i < low) → Dec (i - low < width - (low + high)) → get_or new i 0 ≡ min (get_or old i 0) (if ltb ((i + c) - drain) width then get_or words ((i + c) - drain) 0 else mark)
      go i k m (yes p) t =
          let z : (i + c) - drain ≡ 0 = omega arith in
          let n : 0 + i ≡ i = omega arith in
          let q = a.here i (omega arith) in
          rw (z, lt-ltb 0 width positive) (b.before i p ∙ rw n at q ∙ omega arith)
      go i k m (no p) (yes t) =
          let z : high + (i - low) ≡ (i + c) - drain = omega arith in
          let at : low + (i - low) ≡ i = omega arith in
          let q = b.here (i - low) t in
          let r = a.after i (omega arith) in
          rw (lt-ltb ((i + c) - drain) width (omega arith)) (rw (at, z, r) at q ∙ omega arith)
      go i k m (no p) (no t) = rw (le-ltb ((i + c) - drain) width (omega arith)) (b.after i (omega arith) ∙ a.after i (omega arith) ∙ omega arith)

  -- with what the code computed
  pub levels_made : (old mid new : List ℕ) (l m first shift n : ℕ) → l ≡ low → m ≡ high → first ≡ min l width → shift ≡ min m width → n ≡ width - (l + m) → Lessened 0 first (λ i. get_or words 0 0) old mid → Lessened l (length (moved shift n words)) (λ i. get_or (moved shift n words) i 0) mid new → Lowered width (λ i. level_read drain words i c) old new
  levels_made old mid new l m first shift n p q r s t a b =
      let left : n ≡ width - (low + high) = rw (p, q) at t in
      let e : first ≡ min low width = rw p at r in
      levels_lowered old mid new (rw e at a)
      (rw p at (lessened_cong l _ (width - (low + high)) _ (λ i. get_or words (high + i) 0) mid new (moved_size l m shift n words s t ∙ left) (λ i k. part_at shift n words i (rw left k) ∙ ap (λ (x : ℕ). get_or words (x + i) 0) (s ∙ rw q (not_cut low high width i k))) b))

module _ (outer inner : Bucket) (rows : ℕ) (rest : List ℕ) (k c : ℕ) where
  abbrev u : ℕ
  u = outer.size + 1

  abbrev w : ℕ
  w = inner.size + 1

  -- a rate whose peak is over the decoder's size
  pub peak_lowered : (block : List ℕ) → rows ≤ c → Lowered w (λ i. rate_read outer inner rows rest k i c) block block
  unfolding rate_read
  peak_lowered block h = record { size = refl; each = λ i b m. rw (le-ltb c rows h) (omega arith) }

  -- one that brings the outer bucket over its size
  pub over_lowered : (block : List ℕ) (to : ℕ) → c < rows → to ≡ (k + c) - outer.drain → u ≤ to → Lowered w (λ i. rate_read outer inner rows rest k i c) block block
  unfolding rate_read
  over_lowered block to p e h = record { size = refl; each = λ i b m. rw (lt-ltb c rows p, le-ltb ((k + c) - outer.drain) u (rw e at h)) (omega arith) }

  -- the block that the outer level leads to stands in the rows
  pub block_room : (to : ℕ) → c < rows → to < u → rows * (u * w) ≤ length rest → (c * u + to) * w + w ≤ length rest
  block_room to p h r =
      let a : (c * u + to) * w + w ≡ (c * u + to + 1) * w = omega (arith, add-mul (c * u + to) 1 w, one-mul w) in
      let b : c * u + to + 1 ≤ rows * u = omega (arith, add-mul c 1 u, one-mul u, mul-le-mul_right {m = c + 1} {n = rows} u (omega arith)) in
      omega (arith, mul-le-mul_right {m = c * u + to + 1} {n = rows * u} w b, mul_assoc rows u w)

  -- any other moves the inner bucket's levels
  pub rate_made : (to : ℕ) (old new : List ℕ) → c < rows → to ≡ (k + c) - outer.drain → to < u → rows * (u * w) ≤ length rest → Lowered (length (take ((c * u + to) * w + w - (c * u + to) * w) (drop ((c * u + to) * w) rest))) (λ i. level_read inner.drain (take ((c * u + to) * w + w - (c * u + to) * w) (drop ((c * u + to) * w) rest)) i c) old new → Lowered w (λ i. rate_read outer inner rows rest k i c) old new
  rate_made to old new p e h r a =
      lowered_cong _ w _ (λ i. rate_read outer inner rows rest k i c) old new long (λ i b. go i (dec_lt ((i + c) - inner.drain) w)) a
    where
      at : ℕ
      at = (c * u + to) * w

      long : length (take (at + w - at) (drop at rest)) ≡ w
      long = part_size at w rest (block_room to p h r)

      go : (i : ℕ) → Dec ((i + c) - inner.drain < w) → level_read inner.drain (take (at + w - at) (drop at rest)) i c ≡ rate_read outer inner rows rest k i c
      go i (yes q) =
          unfold level_read rate_read in
          rw (long, lt-ltb c rows p, ← e, lt-ltb to u h, lt-ltb ((i + c) - inner.drain) w q) (part_at at w rest ((i + c) - inner.drain) q)
      go i (no q) =
          unfold level_read rate_read in
          rw (long, lt-ltb c rows p, ← e, lt-ltb to u h, le-ltb ((i + c) - inner.drain) w (omega arith)) refl
