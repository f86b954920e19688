-- The second pass where both buckets are of size 0: `column_sent`.
use Prim.Native.Nat.{ℕ, ◌+◌, ◌-◌, ◌*◌, ◌<◌, ◌≤◌, min}
use mathlib.Core.Path.{◌≡◌, refl, sym, ◌∙◌, ap}
use mathlib.Core.List.{List}
use native.Mathlib.Decide.{dec_lt}
use native.Mathlib.Nat.{mul-one, one-mul, mul-le-mul_right, le-mul_of_pos_right}
use native.Mathlib.Omega.{arith}
use borrow.Author.Tests.{lt-ltb, le-ltb}
use lib.Dec.{ltb}
use lib.ListN.{length, get_or, take, drop}
use lib.Seq.{length-take-le, get_or-drop}
use Rattle.std.specs.Prelude.{if◌then◌else◌}
use Rattle.model.specs.Table.{mark, sizes, span, layer_words, state_at, word_in}
use Rattle.planning.specs.Passes.{least_below, arrived, word_if}
use Rattle.planning.proofs.Passes.{least_cong}
use Rattle.sender.specs.declared.Bucket.{Bucket}
use Rattle.sender.specs.declared.Line.{Line}
use Rattle.sender.specs.Answers.{line_is, LineFits}
use Rattle.block.specs.Blocks.{Lowered, Made, LeastOf}
use Rattle.sender.specs.Rates.{level_read, rate_read, column_read}
use Rattle.sender.proofs.Sizes.{row_size, layer_size}
use Rattle.sender.proofs.Rows.{row_is}

-- a rate that does not drain at once offers nothing
pub column_over : (n drain : ℕ) (words block : List ℕ) (c : ℕ) → drain < c → Lowered n (λ i. column_read drain words i c) block block
unfolding column_read
column_over n drain words block c h = record { size = refl; each = λ i k m. rw (lt-ltb drain c h) (omega arith) }

-- any other offers the word of the level that it leads to
pub column_moved : (n drain : ℕ) (words old new : List ℕ) (c : ℕ) → c ≤ drain → Lowered n (λ i. level_read 0 words i c) old new → Lowered n (λ i. column_read drain words i c) old new
unfolding column_read
column_moved n drain words old new c h a = record { size = a.size; each = λ i k m. rw (le-ltb drain c h) (a.each i k m) }

-- which is what it offers to a row of one word
module _ (outer inner : Bucket) (s : outer.size ≡ 0) (t : inner.size ≡ 0) (words : List ℕ) (b c : ℕ) where
  column_rate : column_read (min outer.drain inner.drain) words b c ≡ rate_read outer inner (length words - b) (drop b words) 0 0 c
  unfolding column_read level_read rate_read
  column_rate = rw (s, t) (go (dec_lt c (length words - b)) (dec_lt outer.drain c) (dec_lt inner.drain c))
    where
      go : Dec (c < length words - b) → Dec (outer.drain < c) → Dec (inner.drain < c) → (if ltb (min outer.drain inner.drain) c then mark else (if ltb ((b + c) - 0) (length words) then get_or words ((b + c) - 0) 0 else mark)) ≡ (if ltb c (length words - b) then (if ltb ((0 + c) - outer.drain) 1 then (if ltb ((0 + c) - inner.drain) 1 then get_or (drop b words) ((c * 1 + ((0 + c) - outer.drain)) * 1 + ((0 + c) - inner.drain)) 0 else mark) else mark) else mark)
      go (yes p) (yes q) r = rw (lt-ltb (min outer.drain inner.drain) c (omega arith), lt-ltb c (length words - b) p, le-ltb ((0 + c) - outer.drain) 1 (omega arith)) refl
      go (yes p) (no q) (yes r) = rw (lt-ltb (min outer.drain inner.drain) c (omega arith), lt-ltb c (length words - b) p, lt-ltb ((0 + c) - outer.drain) 1 (omega arith), le-ltb ((0 + c) - inner.drain) 1 (omega arith)) refl
      go (yes p) (no q) (no r) =
          let at : b + ((c * 1 + ((0 + c) - outer.drain)) * 1 + ((0 + c) - inner.drain)) ≡ (b + c) - 0 = omega arith in
          rw (le-ltb (min outer.drain inner.drain) c (omega arith), lt-ltb ((b + c) - 0) (length words) (omega arith), lt-ltb c (length words - b) p, lt-ltb ((0 + c) - outer.drain) 1 (omega arith), lt-ltb ((0 + c) - inner.drain) 1 (omega arith))
          (ap (λ (n : ℕ). get_or words n 0) (sym at) ∙ sym (get_or-drop b words ((c * 1 + ((0 + c) - outer.drain)) * 1 + ((0 + c) - inner.drain)) 0))
      go (no p) q r = rw (le-ltb c (length words - b) (omega arith)) (none (dec_lt (min outer.drain inner.drain) c) (omega arith))
        where
          none : Dec (min outer.drain inner.drain < c) → length words ≤ b + c → (if ltb (min outer.drain inner.drain) c then mark else (if ltb ((b + c) - 0) (length words) then get_or words ((b + c) - 0) 0 else mark)) ≡ mark
          none (yes k) h = rw (lt-ltb (min outer.drain inner.drain) c k) refl
          none (no k) h = rw (le-ltb (min outer.drain inner.drain) c (omega arith), le-ltb ((b + c) - 0) (length words) (omega arith)) refl

module _ (l : Line) (flat : span (sizes (line_is l)) ≡ 1) where
  outer_none : l.outer.size ≡ 0
  outer_none = omega (arith, row_size l, flat, le-mul_of_pos_right {m = l.inner.size + 1} (l.outer.size + 1) (omega arith))

  inner_none : l.inner.size ≡ 0
  inner_none = omega (arith, row_size l, flat, mul-le-mul_right {m = 1} {n = l.outer.size + 1} (l.inner.size + 1) (omega arith), one-mul (l.inner.size + 1))

  pub column_height : l.decoder + 1 ≡ layer_words (line_is l)
  column_height = sym (mul-one (l.decoder + 1)) ∙ ap (λ (n : ℕ). (l.decoder + 1) * n) (sym flat) ∙ layer_size l

  -- the whole column, with what the code computed
  pub column_sent : LineFits l → (part new block words : List ℕ) → words ≡ take (l.decoder + 1) part → l.decoder + 1 ≤ length part → LeastOf (length words) l.count (λ i y. column_read (min l.outer.drain l.inner.drain) words i (get_or l.rates y 0)) block → Made 0 (0 + (l.decoder + 1)) (λ i. get_or block (i - 0) 0) part new → Made 0 (layer_words (line_is l)) (λ i. least_below (length (line_is l).rates) (λ y. word_if (word_in (line_is l) (take (layer_words (line_is l)) part)) (arrived (line_is l) (state_at (line_is l) i) (get_or (line_is l).rates y 0)))) part new
  column_sent fits part new block words e room a m =
      record {
        size = m.size;
        here = λ i p q. m.here i p (omega (arith, column_height)) ∙ go i (omega (arith, column_height));
        before = m.before;
        after = λ i p. m.after i (omega (arith, column_height));
      }
    where
      L : ℕ
      L = layer_words (line_is l)

      long : length words ≡ l.decoder + 1
      long = ap length e ∙ length-take-le (l.decoder + 1) part room

      F : ℕ → ℕ
      F i = least_below (length (line_is l).rates) (λ y. word_if (word_in (line_is l) (take L part)) (arrived (line_is l) (state_at (line_is l) i) (get_or (line_is l).rates y 0)))

      here_at : (i : ℕ) → i * span (sizes (line_is l)) ≡ i
      here_at i = ap (λ (n : ℕ). i * n) flat ∙ mul-one i

      same : (i x : ℕ) → i * span (sizes (line_is l)) + x < L → get_or (drop i words) x 0 ≡ get_or (take L part) (i * span (sizes (line_is l)) + x) 0
      same i x h = get_or-drop i words x 0 ∙ ap (λ (w : List ℕ). get_or w (i + x) 0) (e ∙ ap (λ (n : ℕ). take n part) column_height) ∙ ap (λ (n : ℕ). get_or (take L part) (n + x) 0) (sym (here_at i))

      go : (i : ℕ) → i < l.decoder + 1 → get_or block (i - 0) 0 ≡ F i
      go i h =
          let z : i - 0 ≡ i = omega arith in
          let at : i * span (sizes (line_is l)) + (0 * (l.inner.size + 1) + 0) ≡ i = omega (arith, here_at i) in
          ap (λ (n : ℕ). get_or block n 0) z
          ∙ a.each i (omega (arith, long))
          ∙ least_cong l.count _ _ (λ y k. column_rate l.outer l.inner outer_none inner_none words i (get_or l.rates y 0) ∙ ap (λ (n : ℕ). rate_read l.outer l.inner (n - i) (drop i words) 0 0 (get_or l.rates y 0)) long)
          ∙ row_is l (take L part) (drop i words) i (omega arith) (same i) fits 0 0 (omega arith) (omega arith)
          ∙ ap F at
