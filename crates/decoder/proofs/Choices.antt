-- What a size offers to a block in the first pass, and what a choice does to the prices.
use Prim.Native.Nat.{ℕ, ◌+◌, ◌-◌, ◌*◌, ◌<◌, ◌≤◌, min}
use mathlib.Core.Path.{◌≡◌, refl, ◌∙◌, ap}
use mathlib.Core.Bool.{Bool, true, false}
use mathlib.Core.Option.{none, some}
use mathlib.Core.List.{List}
use native.Mathlib.Decide.{dec_lt, ℕ_discrete}
use native.Mathlib.Omega.{arith}
use borrow.Author.Tests.{lt-ltb, le-ltb, eq-eqb, ne_eqb}
use lib.Dec.{ltb, eqb}
use lib.ListN.{length, get_or, take, drop, set, length-set, length-replicate, get_or-replicate}
use lib.Seq.{get_or-set_same, get_or-set_other}
use Rattle.std.specs.Prelude.{if◌then◌else◌}
use Rattle.model.specs.Table.{mark, bound}
use Rattle.planning.specs.Passes.{charged, row_offer, least_below}
use Rattle.decoder.specs.declared.Measure.{Measure}
use Rattle.decoder.specs.Answers.{combine, coding_if, priced, no_prices}
use Rattle.planning.specs.Prices.{price_open, price_at}
use Rattle.block.specs.Blocks.{Lessened, Lowered, LeastOf}
use Rattle.decoder.specs.Near.{closed, NearWords, Neared}
use Rattle.block.proofs.Blocks.{part_at, part_size}
use Rattle.decoder.proofs.Blocks.{lessened_low}
use Rattle.decoder.proofs.Near.{closed_min, closed_marked, combined_closed}

-- a size: the words so many rows before those of the block
module _ (measure : Measure) (count width start : ℕ) (words : List ℕ) (size price : ℕ) (room : start + count ≤ length words) (fits : price ≤ bound) (near : NearWords words) where
  abbrev back : ℕ
  back = size * width

  abbrev read : List ℕ
  read = take ((start - back) + (count - (back - start)) - (start - back)) (drop (start - back) words)

  read_size : length read ≡ count - (back - start)
  read_size = part_size (start - back) (count - (back - start)) words (omega arith)

  size_neared : (old new : List ℕ) → Lessened (back - start) (length read) (λ i. combine measure price (get_or read i 0)) old new → Neared count (λ i. row_offer (combine measure) width words (start + i) (price_open size price)) old new
  unfolding price_open row_offer
  size_neared old new a =
      record { size = a.size; low = λ i h. lessened_low (back - start) (length read) _ old new a i; each = λ i h. rw (le-ltb bound price fits) (go i h (dec_lt (start + i) back)) }
    where
      go : (i : ℕ) → i < count → Dec (start + i < back) → closed (get_or new i 0) ≡ min (closed (get_or old i 0)) (if ltb (start + i) back then mark else charged (combine measure) price (get_or words (start + i - back) 0))
      go i h (yes b) = rw (lt-ltb (start + i) back b, a.before i (omega arith)) (omega (arith, closed_marked (get_or old i 0)))
      go i h (no b) =
          let skip : ℕ = back - start in
          let at : skip + (i - skip) ≡ i = omega arith in
          let from : (start - back) + (i - skip) ≡ start + i - back = omega arith in
          let n : i - skip < count - skip = omega arith in
          let q = a.here (i - skip) (omega (arith, read_size)) in
          let w = part_at (start - back) (count - skip) words (i - skip) n in
          let v : ℕ = get_or words (start + i - back) 0 in
          rw (le-ltb (start + i) back (omega arith), rw (at, w, from) at q) (closed_min (combine measure price v) (get_or old i 0) ∙ rw (combined_closed measure price v fits (near.each (start + i - back) (omega arith))) (omega arith))

  -- with what the code computed
  pub size_made : (old new : List ℕ) (skip from n : ℕ) → skip ≡ back - start → from ≡ start - back → n ≡ count - skip → Lessened skip (length (take (from + n - from) (drop from words))) (λ i. combine measure price (get_or (take (from + n - from) (drop from words)) i 0)) old new → Neared count (λ i. row_offer (combine measure) width words (start + i) (price_open size price)) old new
  size_made old new skip from n p q r a =
      let m : n ≡ count - (back - start) = r ∙ ap (λ (k : ℕ). count - k) p in
      size_neared old new (rw (m, p, q) at a)

module _ (◌⊕◌ : ℕ → ℕ → ℕ) (width : ℕ) (words prices : List ℕ) (i size : ℕ) where
  -- a size with no price
  pub no_price : bound < get_or prices size 0 → row_offer ◌⊕◌ width words i (priced prices size) ≡ mark
  unfolding priced price_open row_offer
  no_price h = rw (lt-ltb bound (get_or prices size 0) h)

  -- a size that is more than the decoder holds at a place
  pub past_rows : i < size * width → row_offer ◌⊕◌ width words i (priced prices size) ≡ mark
  unfolding priced price_open row_offer
  past_rows h = go (ltb bound (get_or prices size 0))
    where
      go : (t : Bool) → row_offer ◌⊕◌ width words i (if t then none else some (record { size = size; distortion = get_or prices size 0 })) ≡ mark
      go true = refl
      go false = rw (lt-ltb i (size * width) h)

-- before the first choice
pub prices_none : (f : ℕ → ℕ → ℕ) (prices : List ℕ) → prices ≡ no_prices → LeastOf 256 0 f prices
unfolding least_below no_prices
prices_none f prices e = rw e (record { size = length-replicate {A = ℕ} 256 mark; each = λ i k. get_or-replicate 256 i mark 0 k })

-- a choice that a pin rules out, or that is too large for any decoder, leaves the prices
pub closed_priced : (prices : List ℕ) (free : Bool) (size distortion : ℕ) → free ≡ false → Lowered 256 (λ r. price_at r (coding_if free size distortion)) prices prices
unfolding coding_if price_at
closed_priced prices free size distortion e = record { size = refl; each = λ r h k. rw e (omega arith) }

pub large_priced : (prices : List ℕ) (free : Bool) (size distortion : ℕ) → free ≡ true → 256 ≤ size → Lowered 256 (λ r. price_at r (coding_if free size distortion)) prices prices
unfolding coding_if price_at
large_priced prices free size distortion e m = record { size = refl; each = λ r h k. rw (e, ne_eqb size r (λ q. omega arith)) (omega arith) }

-- any other lessens the price of its size
pub open_priced : (prices : List ℕ) (free : Bool) (size distortion x : ℕ) → free ≡ true → size < length prices → x ≡ min distortion (get_or prices size 0) → Lowered 256 (λ r. price_at r (coding_if free size distortion)) prices (set prices size x)
unfolding coding_if price_at
open_priced prices free size distortion x e m q =
    record { size = length-set prices size x; each = λ r h k. rw e (go r k (ℕ_discrete size r)) }
  where
    go : (r : ℕ) → get_or prices r 0 ≤ mark → Dec (size ≡ r) → get_or (set prices size x) r 0 ≡ min (get_or prices r 0) (if eqb size r then distortion else mark)
    go r k (yes b) = rw (← b, eq-eqb size size refl) (get_or-set_same prices size x 0 m ∙ q ∙ omega arith)
    go r k (no b) = rw (ne_eqb size r b) (get_or-set_other prices size r x 0 (λ t. omega arith) ∙ omega arith)
