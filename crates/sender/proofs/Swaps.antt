-- The words of a layer where the buckets change places: which word comes where, and that the second pass makes the same words in either order.
use Prim.Native.Nat.{ℕ, ◌+◌, ◌-◌, ◌*◌, ◌/◌, ◌%◌, ◌<◌, ◌≤◌}
use mathlib.Core.Path.{◌≡◌, refl, sym, ◌∙◌, ap}
use mathlib.Core.Bool.{Bool, true, false}
use mathlib.Core.List.{List}
use native.Mathlib.Decide.{dec_lt}
use native.Mathlib.Nat.{add-mul, one-mul, mul_comm, mul_assoc, mul-le-mul_right, div-add-mod', div-lt_iff_lt-mul, mod-lt}
use native.Mathlib.Omega.{arith}
use borrow.Author.Tests.{ltb-true}
use lib.Dec.{ltb}
use lib.ListN.{length, get_or, take, drop}
use lib.Seq.{get_or-take, get_or-drop}
use Rattle.std.specs.Prelude.{if◌then◌else◌}
use Rattle.model.specs.Table.{mark, sizes, span, layer_words, state_at, word_in}
use Rattle.planning.specs.Passes.{least_below, arrived, word_if}
use Rattle.planning.proofs.Passes.{least_cong}
use Rattle.block.specs.Blocks.{Made}
use Rattle.block.proofs.Blocks.{part_at, part_size}
use Rattle.sender.specs.declared.Bucket.{Bucket}
use Rattle.sender.specs.declared.Line.{Line}
use Rattle.sender.specs.Answers.{line_is, LineFits}
use Rattle.sender.specs.Rates.{BlocksMade, rate_read}
use Rattle.sender.specs.Swaps.{swapped, LevelsSwapped}
use Rattle.sender.proofs.Blocks.{blocks_more}
use Rattle.sender.proofs.Sizes.{row_size, layer_size}
use Rattle.sender.proofs.Rows.{row_is}

-- block k of n blocks of s words ends no later than the last
pub block_below : (n s k : ℕ) → k < n → k * s + s ≤ n * s
block_below n s k h = omega (arith, mul-le-mul_right {m = k + 1} {n = n} s (omega arith), add-mul k 1 s, one-mul s)

pub column_room : (count step first i : ℕ) → first < step → i < count → count * step ≤ 4096 → first + i * step < 4096
column_room count step first i h k r = omega (arith, block_below count step i k)

-- one block more of a decoder level, from the words that were kept of it
pub column_swapped : (start levels width low high : ℕ) (old before kept part new : List ℕ) → start + levels * width ≤ length old → high ≡ low + 1 → high ≤ width → Made 0 (length (take (start + levels * width - start) (drop start old))) (λ i. get_or (take (start + levels * width - start) (drop start old)) i 0) before kept → BlocksMade start high width levels (λ j k. get_or old (start + (k * width + j)) 0) old part → Made (start + low * levels) (start + low * levels + levels) (λ i. get_or kept (low + (i - (start + low * levels)) * width) 0) part new → BlocksMade start low width levels (λ j k. get_or old (start + (k * width + j)) 0) old new
column_swapped start levels width low high old before kept part new room e h copy a m =
    blocks_more start low high width levels _ _ old part new e h a m (λ k t.
    let at : ℕ = start + low * levels in
    let q : at + k - at ≡ k = omega arith in
    let long = part_size start (levels * width) old room in
    let inside : low + k * width < levels * width = omega (arith, block_below levels width k t) in
    let turn : start + (low + k * width) ≡ start + (k * width + low) = omega arith in
    ap (λ (i : ℕ). get_or kept (low + i * width) 0) q
    ∙ copy.here (low + k * width) (omega arith) (omega (arith, long))
    ∙ part_at start (levels * width) old (low + k * width) inside
    ∙ ap (λ (i : ℕ). get_or old i 0) turn)

-- one decoder level after another
pub levels_none : (p q : ℕ) (l : List ℕ) → LevelsSwapped 0 p q l l
levels_none p q l = record { size = refl; here = λ b k j h s t. absurd (omega arith); after = λ i h. refl }

pub levels_more : (b p q start : ℕ) (old part new : List ℕ) → start ≡ b * (p * q) → LevelsSwapped b p q old part → BlocksMade start 0 q p (λ j k. get_or part (start + (k * q + j)) 0) part new → LevelsSwapped (b + 1) p q old new
levels_more b p q start old part new e a m =
    record {
      size = m.size ∙ a.size;
      here = λ x k j h s t. go x k j h s t (dec_lt x b);
      after = λ i h. m.after i (omega (arith, next, mul_comm q p)) ∙ a.after i (omega (arith, next));
    }
  where
    next : (b + 1) * (p * q) ≡ start + p * q
    next = add-mul b 1 (p * q) ∙ omega (arith, one-mul (p * q), e)

    go : (x k j : ℕ) → x < b + 1 → k < p → j < q → Dec (x < b) → get_or new (x * (p * q) + (j * p + k)) 0 ≡ get_or old (x * (p * q) + (k * q + j)) 0
    go x k j h s t (yes r) = m.before (x * (p * q) + (j * p + k)) (omega (arith, block_below b (p * q) x r, block_below q p j t, mul_comm q p, e)) ∙ a.here x k j r s t
    go x k j h s t (no r) =
        let i : x ≡ b = omega arith in
        rw (i, ← e) (m.here j k (omega arith) t s ∙ a.after (start + (k * q + j)) (omega (arith, e)))

-- what a rate offers, from words in either order
pub rate_swapped : (outer inner : Bucket) (rows : ℕ) (words other : List ℕ) → ((c k j : ℕ) → c < rows → k < outer.size + 1 → j < inner.size + 1 → get_or other ((c * (inner.size + 1) + j) * (outer.size + 1) + k) 0 ≡ get_or words ((c * (outer.size + 1) + k) * (inner.size + 1) + j) 0) → (k j c : ℕ) → rate_read inner outer rows other j k c ≡ rate_read outer inner rows words k j c
unfolding rate_read
rate_swapped outer inner rows words other h k j c =
    go (ltb c rows) (ltb ((k + c) - outer.drain) (outer.size + 1)) (ltb ((j + c) - inner.drain) (inner.size + 1)) refl refl refl
  where
    go : (x y z : Bool) → ltb c rows ≡ x → ltb ((k + c) - outer.drain) (outer.size + 1) ≡ y → ltb ((j + c) - inner.drain) (inner.size + 1) ≡ z → (if x then (if z then (if y then get_or other ((c * (inner.size + 1) + ((j + c) - inner.drain)) * (outer.size + 1) + ((k + c) - outer.drain)) 0 else mark) else mark) else mark) ≡ (if x then (if y then (if z then get_or words ((c * (outer.size + 1) + ((k + c) - outer.drain)) * (inner.size + 1) + ((j + c) - inner.drain)) 0 else mark) else mark) else mark)
    go false y z e f g = refl
    go true false false e f g = refl
    go true false true e f g = refl
    go true true false e f g = refl
    go true true true e f g = h c ((k + c) - outer.drain) ((j + c) - inner.drain) (ltb-true c rows e) (ltb-true ((k + c) - outer.drain) (outer.size + 1) f) (ltb-true ((j + c) - inner.drain) (inner.size + 1) g)

-- a line with its buckets in each other's place has the same limits, and a layer of as many words
module _ (l : Line) where
  pub swapped_fits : LineFits l → LineFits (swapped l)
  unfolding swapped
  swapped_fits f = record { decoder = f.decoder; outer = f.inner; inner = f.outer; rates = f.rates; size = f.size }

  pub swapped_row : span (sizes (line_is (swapped l))) ≡ span (sizes (line_is l))
  unfolding swapped
  swapped_row = sym (row_size (swapped l)) ∙ mul_comm (l.inner.size + 1) (l.outer.size + 1) ∙ row_size l

  pub swapped_layer : layer_words (line_is (swapped l)) ≡ layer_words (line_is l)
  unfolding swapped
  swapped_layer = sym (layer_size (swapped l)) ∙ ap (λ (n : ℕ). (l.decoder + 1) * n) swapped_row ∙ layer_size l

-- the same of the line that the code made
module _ (l other : Line) (e : other ≡ swapped l) where
  pub other_fits : LineFits l → LineFits other
  other_fits f = rw e (swapped_fits l f)

  pub other_row : span (sizes (line_is other)) ≡ span (sizes (line_is l))
  other_row = rw e (swapped_row l)

  pub other_layer : layer_words (line_is other) ≡ layer_words (line_is l)
  other_layer = rw e (swapped_layer l)

-- the words of a decoder level stand in the layer
pub row_end : (l : Line) (level : ℕ) → level < l.decoder + 1 → level * ((l.outer.size + 1) * (l.inner.size + 1)) + (l.outer.size + 1) * (l.inner.size + 1) ≤ layer_words (line_is l)
row_end l level h = rw (row_size l) (omega (arith, block_below (l.decoder + 1) (span (sizes (line_is l))) level h, layer_size l))

-- what the second pass makes of a layer
abbrev pub sent : Line → List ℕ → ℕ → ℕ
sent l words i = least_below (length (line_is l).rates) (λ y. word_if (word_in (line_is l) (take (layer_words (line_is l)) words)) (arrived (line_is l) (state_at (line_is l) i) (get_or (line_is l).rates y 0)))

-- a place c decoder levels further on
further : (b c p q k j : ℕ) → b * (p * q) + ((c * p + k) * q + j) ≡ (b + c) * (p * q) + (k * q + j)
further b c p q k j = omega (arith, add-mul b c (p * q), add-mul (c * p) k q, mul_assoc c p q)

-- the same word of the words in either order
levels_sent : (l : Line) → LineFits l → (old one : List ℕ) → LevelsSwapped (l.decoder + 1) (l.outer.size + 1) (l.inner.size + 1) old one → (b k j : ℕ) → b < l.decoder + 1 → k < l.outer.size + 1 → j < l.inner.size + 1 → sent (swapped l) one (b * span (sizes (line_is (swapped l))) + (j * (l.outer.size + 1) + k)) ≡ sent l old (b * span (sizes (line_is l)) + (k * (l.inner.size + 1) + j))
unfolding swapped
levels_sent l f old one a b k j h kb jb =
    sym (row_is (swapped l) (take (layer_words (line_is (swapped l))) one) (drop (b * there) one) b (omega arith) (λ x t. get_or-drop (b * there) one x 0 ∙ sym (get_or-take (layer_words (line_is (swapped l))) one (b * there + x) 0 t)) (swapped_fits l f) j k jb kb)
    ∙ least_cong l.count _ _ (λ y t. rate_swapped l.outer l.inner (l.decoder + 1 - b) (drop (b * here) old) (drop (b * there) one) moved k j (get_or l.rates y 0))
    ∙ row_is l (take (layer_words (line_is l)) old) (drop (b * here) old) b (omega arith) (λ x t. get_or-drop (b * here) old x 0 ∙ sym (get_or-take (layer_words (line_is l)) old (b * here + x) 0 t)) f k j kb jb
  where
    n1 : ℕ
    n1 = l.outer.size + 1

    n2 : ℕ
    n2 = l.inner.size + 1

    here : ℕ
    here = span (sizes (line_is l))

    there : ℕ
    there = span (sizes (line_is (swapped l)))

    moved : (c x y : ℕ) → c < l.decoder + 1 - b → x < n1 → y < n2 → get_or (drop (b * there) one) ((c * n2 + y) * n1 + x) 0 ≡ get_or (drop (b * here) old) ((c * n1 + x) * n2 + y) 0
    moved c x y t p q =
        get_or-drop (b * there) one ((c * n2 + y) * n1 + x) 0
        ∙ ap (λ (n : ℕ). get_or one (b * n + ((c * n2 + y) * n1 + x)) 0) (sym (row_size (swapped l)))
        ∙ ap (λ (n : ℕ). get_or one n 0) (further b c n2 n1 y x)
        ∙ ap (λ (n : ℕ). get_or one ((b + c) * n + (y * n1 + x)) 0) (mul_comm n2 n1)
        ∙ a.here (b + c) x y (omega arith) p q
        ∙ ap (λ (n : ℕ). get_or old n 0) (sym (further b c n1 n2 x y))
        ∙ ap (λ (n : ℕ). get_or old (b * n + ((c * n1 + x) * n2 + y)) 0) (row_size l)
        ∙ sym (get_or-drop (b * here) old ((c * n1 + x) * n2 + y) 0)

-- there and back: the pass over the other order is the pass
sent_back : (l : Line) → LineFits l → (old one two last : List ℕ) → LevelsSwapped (l.decoder + 1) (l.outer.size + 1) (l.inner.size + 1) old one → Made 0 (layer_words (line_is (swapped l))) (sent (swapped l) one) one two → LevelsSwapped (l.decoder + 1) (l.inner.size + 1) (l.outer.size + 1) two last → Made 0 (layer_words (line_is l)) (sent l old) old last
unfolding swapped
sent_back l f old one two last a m b =
    record {
      size = b.size ∙ m.size ∙ a.size;
      here = λ i h k. go i k;
      before = λ i h. absurd (omega arith);
      after = λ i h. b.after i (omega (arith, whole, turned)) ∙ m.after i (omega (arith, swapped_layer l)) ∙ a.after i (omega (arith, whole));
    }
  where
    n1 : ℕ
    n1 = l.outer.size + 1

    n2 : ℕ
    n2 = l.inner.size + 1

    d : ℕ
    d = l.decoder + 1

    whole : d * (n1 * n2) ≡ layer_words (line_is l)
    whole = ap (λ (n : ℕ). d * n) (row_size l) ∙ layer_size l

    turned : d * (n2 * n1) ≡ d * (n1 * n2)
    turned = ap (λ (n : ℕ). d * n) (mul_comm n2 n1)

    go : (i : ℕ) → i < layer_words (line_is l) → get_or last i 0 ≡ sent l old i
    go i h =
        let level : ℕ = i / (n1 * n2) in
        let x : ℕ = i % (n1 * n2) in
        let k : ℕ = x / n2 in
        let j : ℕ = x % n2 in
        let narrow : 0 < n2 = omega arith in
        let wide : 0 < n1 * n2 = omega (arith, block_below n1 n2 0 (omega arith)) in
        let lb : level < d = (div-lt_iff_lt-mul {k = n1 * n2} {x = i} {y = d} wide).1 (omega (arith, whole)) in
        let kb : k < n1 = (div-lt_iff_lt-mul {k = n2} {x = x} {y = n1} narrow).1 (mod-lt i wide) in
        let jb : j < n2 = mod-lt x narrow in
        let i_is : level * (n1 * n2) + (k * n2 + j) ≡ i = omega (arith, div-add-mod' i (n1 * n2), div-add-mod' x n2) in
        let back : level * (n2 * n1) + (k * n2 + j) ≡ i = ap (λ (n : ℕ). level * n + (k * n2 + j)) (mul_comm n2 n1) ∙ i_is in
        let inside : level * (n2 * n1) + (j * n1 + k) < layer_words (line_is (swapped l)) = omega (arith, block_below d (n2 * n1) level lb, block_below n2 n1 j jb, whole, turned, swapped_layer l) in
        ap (λ (n : ℕ). get_or last n 0) (sym back)
        ∙ b.here level j k lb jb kb
        ∙ m.here (level * (n2 * n1) + (j * n1 + k)) (omega arith) inside
        ∙ ap (λ (n : ℕ). sent (swapped l) one (level * n + (j * n1 + k))) (row_size (swapped l))
        ∙ levels_sent l f old one a level k j lb kb jb
        ∙ ap (λ (n : ℕ). sent l old (level * n + (k * n2 + j))) (sym (row_size l))
        ∙ ap (sent l old) i_is

-- the same, with the line that the code made
pub swapped_sent : (l other : Line) → other ≡ swapped l → LineFits l → (old one two last : List ℕ) → LevelsSwapped (l.decoder + 1) (l.outer.size + 1) (l.inner.size + 1) old one → Made 0 (layer_words (line_is other)) (sent other one) one two → LevelsSwapped (other.decoder + 1) (other.outer.size + 1) (other.inner.size + 1) two last → Made 0 (layer_words (line_is l)) (sent l old) old last
unfolding swapped
swapped_sent l other e f old one two last a m b = sent_back l f old one two last a (rw e at m) (rw e at b)
