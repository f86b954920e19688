-- The numbers of the first pass stand for words: what a distortion and a number come to stands for what the rule says of the word (`combined_closed`), and a layer may be read in either form (`offer_near`).
use Prim.Native.Nat.{ℕ, ◌+◌, ◌-◌, ◌*◌, ◌<◌, ◌≤◌, min, max}
use mathlib.Core.Path.{◌≡◌, refl, sym, ◌∙◌, ap}
use mathlib.Core.Option.{Option, none, some}
use mathlib.Core.List.{List}
use native.Mathlib.Decide.{dec_lt}
use native.Mathlib.Numerals.{add-one}
use native.Mathlib.Omega.{arith}
use borrow.Author.Tests.{lt-ltb, le-ltb, le-leb, lt-leb}
use lib.Dec.{ltb, leb}
use lib.ListN.{length, get_or, take, drop}
use Rattle.trellis.specs.Table.{charge}
use Rattle.std.specs.Prelude.{if◌then◌else◌}
use Rattle.model.specs.Job as model
use Rattle.model.specs.Table.{mark, bound}
use Rattle.planning.specs.Passes.{least_below, charged, row_offer}
use Rattle.decoder.specs.declared.Measure.{Measure}
use Rattle.decoder.specs.declared.Measure.TheVariants as measure
use Rattle.decoder.specs.Answers.{combine}
use Rattle.block.specs.Blocks.{Made, LeastOf}
use Rattle.decoder.specs.Near.{far, near, closed, Upto, NearWords, Neared, NearestOf}
use Rattle.block.proofs.Blocks.{part_at, part_size}

-- the lesser number stands for the lesser word
pub closed_min : (a b : ℕ) → closed (min a b) ≡ min (closed a) (closed b)
unfolding closed
closed_min a b = go (dec_lt a far) (dec_lt b far)
  where
    go : Dec (a < far) → Dec (b < far) → (if ltb (min a b) far then min a b else mark) ≡ min (if ltb a far then a else mark) (if ltb b far then b else mark)
    go (yes p) (yes q) = rw (lt-ltb (min a b) far (omega arith), lt-ltb a far p, lt-ltb b far q)
    go (yes p) (no q) = rw (lt-ltb (min a b) far (omega arith), lt-ltb a far p, le-ltb b far (omega arith)) (omega arith)
    go (no p) (yes q) = rw (lt-ltb (min a b) far (omega arith), le-ltb a far (omega arith), lt-ltb b far q) (omega arith)
    go (no p) (no q) = rw (le-ltb (min a b) far (omega arith), le-ltb a far (omega arith), le-ltb b far (omega arith)) refl

pub closed_marked : (a : ℕ) → closed a ≤ mark
unfolding closed
closed_marked a = go (dec_lt a far)
  where
    go : Dec (a < far) → (if ltb a far then a else mark) ≤ mark
    go (yes p) = rw (lt-ltb a far p) (omega arith)
    go (no p) = rw (le-ltb a far (omega arith)) (omega arith)

-- a sum is read as none exactly where the word is
module _ (◌⊕◌ : ℕ → ℕ → ℕ) where
  infixl 65 ◌⊕◌
  sum_closed : (d w : ℕ) → (w ≤ bound → d ⊕ w < far) → (bound < w → far ≤ d ⊕ w) → closed (d ⊕ w) ≡ charged ◌⊕◌ d w
  unfolding closed charged charge
  sum_closed d w low high = go (dec_lt bound w)
    where
      go : Dec (bound < w) → (if ltb (d ⊕ w) far then d ⊕ w else mark) ≡ charge mark bound ◌⊕◌ (leb w bound) d w
      go (yes p) = rw (lt-leb w bound p, le-ltb (d ⊕ w) far (high p)) refl
      go (no p) = let q : w ≤ bound = omega arith in rw (le-leb w bound q, lt-ltb (d ⊕ w) far (low q)) refl

pub combined_closed : (a : Measure) (d w : ℕ) → d ≤ bound → (bound < w → w ≡ far) → closed (combine a d w) ≡ charged (combine a) d w
unfolding combine
combined_closed measure.Sum d w h e = sum_closed ◌+◌ d w (λ k. omega arith) (λ k. omega (arith, e k))
combined_closed measure.Greatest d w h e = sum_closed max d w (λ k. omega arith) (λ k. omega (arith, e k))

-- a word above the bound becomes far, which is above the bound too
pub near_far : (w : ℕ) → bound < near w → near w ≡ far
unfolding near
near_far w = go (dec_lt bound w)
  where
    go : Dec (bound < w) → bound < (if leb w bound then w else far) → (if leb w bound then w else far) ≡ far
    go (yes p) = rw (lt-leb w bound p) (λ h. refl)
    go (no p) = rw (le-leb w bound (omega arith)) (λ h. absurd (omega arith))

pub near_near : (w : ℕ) → near (near w) ≡ near w
unfolding near
near_near w = go (dec_lt bound w)
  where
    go : Dec (bound < w) → near (if leb w bound then w else far) ≡ (if leb w bound then w else far)
    go (yes p) = rw (lt-leb w bound p) refl
    go (no p) = let q = le-leb w bound (omega arith) in rw (q, q) refl

module _ (◌⊕◌ : ℕ → ℕ → ℕ) where
  charged_near : (d w : ℕ) → charged ◌⊕◌ d (near w) ≡ charged ◌⊕◌ d w
  unfolding near charged charge
  charged_near d w = go (dec_lt bound w)
    where
      go : Dec (bound < w) → charge mark bound ◌⊕◌ (leb (if leb w bound then w else far) bound) d (if leb w bound then w else far) ≡ charge mark bound ◌⊕◌ (leb w bound) d w
      go (yes p) = rw (lt-leb w bound p) refl
      go (no p) = let q = le-leb w bound (omega arith) in rw (q, q) refl

  -- what is offered to a place follows from the words up to it, in either form
  pub offer_near : (width : ℕ) (a b : List ℕ) (i : ℕ) → ((j : ℕ) → j ≤ i → near (get_or a j 0) ≡ near (get_or b j 0)) → (k : Option model.Coding) → row_offer ◌⊕◌ width a i k ≡ row_offer ◌⊕◌ width b i k
  unfolding row_offer
  offer_near width a b i e none = refl
  offer_near width a b i e (some k) =
      let at : ℕ = i - k.size * width in
      let same : charged ◌⊕◌ k.distortion (get_or a at 0) ≡ charged ◌⊕◌ k.distortion (get_or b at 0) = sym (charged_near k.distortion (get_or a at 0)) ∙ ap (charged ◌⊕◌ k.distortion) (e at (omega arith)) ∙ charged_near k.distortion (get_or b at 0) in
      rw same

-- words of which none is more than far
pub near_upto : (words : List ℕ) → NearWords words → Upto (length words) far words
near_upto words a =
    record { each = λ i h. go i h (dec_lt bound (get_or words i 0)) }
  where
    go : (i : ℕ) → i < length words → Dec (bound < get_or words i 0) → get_or words i 0 ≤ far
    go i h (yes p) = omega (arith, a.each i h p)
    go i h (no p) = omega arith

pub near_part : (from n : ℕ) (words : List ℕ) → from + n ≤ length words → NearWords words → NearWords (take (from + n - from) (drop from words))
near_part from n words h a = record { each = λ i k. let b : i < n = omega (arith, part_size from n words h) in rw (part_at from n words i b) (a.each (from + i) (omega arith)) }

-- a block, one size after another
pub nearest_none : (n : ℕ) (f : ℕ → ℕ → ℕ) (old new : List ℕ) → length old ≡ 256 → n ≤ 256 → Made 0 n (λ i. far) old new → NearestOf n 0 f new
unfolding least_below closed
nearest_none n f old new h few a = record {
  numbers = record { size = a.size ∙ h; few = few; low = record { each = λ i k. omega (arith, a.here i (omega arith) k) } };
  each = λ i k. rw (a.here i (omega arith) k) refl;
}

pub nearest_more : (n m : ℕ) (f : ℕ → ℕ → ℕ) (old new : List ℕ) → NearestOf n m f old → Neared n (λ i. f i m) old new → NearestOf n (m + 1) f new
unfolding least_below
nearest_more n m f old new a b = record {
  numbers = record { size = b.size ∙ a.numbers.size; few = a.numbers.few; low = record { each = λ i k. omega (arith, b.low i k, a.numbers.low.each i k) } };
  each = λ i k. b.each i k ∙ rw (add-one m, a.each i k);
}

-- the words that its numbers stand for
pub nearest_closed : (n m : ℕ) (f : ℕ → ℕ → ℕ) (old new : List ℕ) → NearestOf n m f old → Made 0 n (λ i. closed (get_or old i 0)) old new → LeastOf n m f new
nearest_closed n m f old new a b = record { size = b.size ∙ a.numbers.size; each = λ i k. b.here i (omega arith) k ∙ a.each i k }
