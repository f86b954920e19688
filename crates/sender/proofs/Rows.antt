-- A decoder level of a layer in the second pass: its blocks are made in place, from the last to the first, and are what the rates offer in the terms of levels.
use Prim.Native.Nat.{ℕ, zero, suc, ◌+◌, ◌-◌, ◌*◌, ◌/◌, ◌%◌, ◌<◌, ◌≤◌}
use mathlib.Core.Path.{◌≡◌, refl, sym, ◌∙◌, ap}
use mathlib.Core.Bool.{Bool, true, false}
use mathlib.Core.List.{List, zip_with}
use native.Mathlib.Decide.{dec_lt}
use native.Mathlib.Nat.{add-mul, one-mul, mul_assoc, mul-le-mul_right, div-add-mod', div-lt_iff_lt-mul, mod-lt}
use native.Mathlib.Omega.{arith}
use borrow.Author.Tests.{lt-ltb, le-ltb, ltb-true}
use lib.Dec.{ltb}
use lib.ListN.{length, get_or, take, drop}
use lib.Seq.{get_or-take, get_or-drop}
use Rattle.std.specs.Prelude.{if◌then◌else◌}
use Rattle.model.specs.Step.{bucket_step, after_sending, overfull}
use Rattle.model.specs.Table.{mark, sizes, span, layer_words, state_at, word_in}
use Rattle.model.proofs.Places.{layer_each, place_below}
use Rattle.planning.specs.Passes.{least_below, unless_over, arrived, word_if}
use Rattle.planning.proofs.Passes.{least_cong}
use Rattle.sender.specs.declared.Bucket.{Bucket}
use Rattle.sender.specs.declared.Line.{Line}
use Rattle.sender.specs.Answers.{bucket_is, line_is, LineFits}
use Rattle.block.specs.Blocks.{Made, LeastOf}
use Rattle.sender.specs.Rates.{BlocksMade, rate_read}
use Rattle.sender.proofs.Blocks.{made_behind, blocks_more}
use Rattle.sender.proofs.Sizes.{row_size, levels, place_is, inside, state_at_lem, rates_count}

-- a block of words behind those that are made
pub block_made : (f : ℕ → ℕ) (old part new block : List ℕ) (start count : ℕ) → Made 0 start f old part → Made start (start + count) (λ i. get_or block (i - start) 0) part new → ((i : ℕ) → i < count → get_or block i 0 ≡ f (start + i)) → Made 0 (start + count) f old new
block_made f old part new block start count a b e =
    made_behind 0 start (start + count) f _ old part new (omega arith) (omega arith) a b (λ i h k. let q : start + (i - start) ≡ i = omega arith in e (i - start) (omega arith) ∙ ap f q)

-- the blocks of a decoder level stand in its row, and the rows in the layer
pub block_end : (rows u w k start n : ℕ) → 0 < rows → k < u → start + rows * (u * w) ≤ n → start + k * w + w ≤ n
block_end rows u w k start n h b r =
    let a = mul-le-mul_right {m = 1} {n = rows} (u * w) h in
    let c = mul-le-mul_right {m = k + 1} {n = u} w (omega arith) in
    omega (arith, a, c, add-mul k 1 w, one-mul w, one-mul (u * w))

-- what a block reads is not made yet: no higher outer level of its own decoder level
below : (u w to j low : ℕ) → to ≤ low → j < w → (0 * u + to) * w + j < (low + 1) * w
below u w to j low h k = omega (arith, add-mul (0 * u + to) 1 w, one-mul w, mul-le-mul_right {m = 0 * u + to + 1} {n = low + 1} w (omega arith))

above : (u w to j d : ℕ) → u * w ≤ (suc d * u + to) * w + j
above u w to j d =
    let a = mul-le-mul_right {m = 1} {n = suc d} u (omega arith) in
    omega (arith, mul-le-mul_right {m = u} {n = suc d * u + to} w (omega (arith, a, one-mul u)))

module _ (outer inner : Bucket) (rows start low : ℕ) (f : ℕ → ℕ → ℕ) (old part : List ℕ) (a : BlocksMade start (low + 1) (outer.size + 1) (inner.size + 1) f old part) where
  abbrev u : ℕ
  u = outer.size + 1

  abbrev w : ℕ
  w = inner.size + 1

  read_kept : (c to j : ℕ) → to ≡ (low + c) - outer.drain → j < w → get_or (drop start part) ((c * u + to) * w + j) 0 ≡ get_or (drop start old) ((c * u + to) * w + j) 0
  read_kept zero to j e h =
      let b = below u w to j low (omega arith) h in
      get_or-drop start part ((0 * u + to) * w + j) 0 ∙ a.before (start + ((0 * u + to) * w + j)) (omega arith) ∙ sym (get_or-drop start old ((0 * u + to) * w + j) 0)
  read_kept (suc d) to j e h =
      let b = above u w to j d in
      get_or-drop start part ((suc d * u + to) * w + j) 0 ∙ a.after (start + ((suc d * u + to) * w + j)) (omega arith) ∙ sym (get_or-drop start old ((suc d * u + to) * w + j) 0)

  rate_kept : (j c : ℕ) → rate_read outer inner rows (drop start part) low j c ≡ rate_read outer inner rows (drop start old) low j c
  unfolding rate_read
  rate_kept j c = go (ltb c rows) (ltb ((low + c) - outer.drain) u) (ltb ((j + c) - inner.drain) w) refl
    where
      go : (x y z : Bool) → ltb ((j + c) - inner.drain) w ≡ z → (if x then (if y then (if z then get_or (drop start part) ((c * u + ((low + c) - outer.drain)) * w + ((j + c) - inner.drain)) 0 else mark) else mark) else mark) ≡ (if x then (if y then (if z then get_or (drop start old) ((c * u + ((low + c) - outer.drain)) * w + ((j + c) - inner.drain)) 0 else mark) else mark) else mark)
      go false y z e = refl
      go true false z e = refl
      go true true false e = refl
      go true true true e = read_kept c ((low + c) - outer.drain) ((j + c) - inner.drain) refl (ltb-true ((j + c) - inner.drain) w e)

-- one block more, with what the code computed
pub block_sent : (outer inner : Bucket) (rows start low high n : ℕ) (rates : ℕ → ℕ) (old part new block : List ℕ) → high ≡ low + 1 → high ≤ outer.size + 1 → BlocksMade start high (outer.size + 1) (inner.size + 1) (λ k j. least_below n (λ y. rate_read outer inner rows (drop start old) k j (rates y))) old part → LeastOf (inner.size + 1) n (λ i y. rate_read outer inner rows (drop start part) low i (rates y)) block → Made (start + low * (inner.size + 1)) (start + low * (inner.size + 1) + (inner.size + 1)) (λ i. get_or block (i - (start + low * (inner.size + 1))) 0) part new → BlocksMade start low (outer.size + 1) (inner.size + 1) (λ k j. least_below n (λ y. rate_read outer inner rows (drop start old) k j (rates y))) old new
block_sent outer inner rows start low high n rates old part new block e h a b m =
    blocks_more start low high (outer.size + 1) (inner.size + 1) _ _ old part new e h a m (λ j k.
    let at : ℕ = start + low * (inner.size + 1) in
    let q : at + j - at ≡ j = omega arith in
    ap (λ (i : ℕ). get_or block i 0) q ∙ b.each j k ∙ least_cong n _ _ (λ y t. rate_kept outer inner rows start low _ old part (rw e at a) j (rates y)))

module _ (l : Line) (between rest : List ℕ) (b : ℕ) (top : b ≤ l.decoder) (same : (x : ℕ) → b * span (sizes (line_is l)) + x < layer_words (line_is l) → get_or rest x 0 ≡ get_or between (b * span (sizes (line_is l)) + x) 0) where
  abbrev W : ℕ
  W = span (sizes (line_is l))

  abbrev n1 : ℕ
  n1 = l.outer.size + 1

  abbrev n2 : ℕ
  n2 = l.inner.size + 1

  -- the word of the levels that arrive
  peak_word : (c k j : ℕ) → b + c ≤ l.decoder → k < n1 → j < n2 → get_or rest ((c * n1 + k) * n2 + j) 0 ≡ word_in (line_is l) between (levels l (b + c) k j)
  unfolding word_in
  peak_word c k j h p q =
      let e : b * W + ((c * n1 + k) * n2 + j) ≡ (b + c) * W + (k * n2 + j) = omega (arith, add-mul b c W, add-mul (c * n1) k n2, mul_assoc c n1 n2, ap (λ (n : ℕ). c * n) (row_size l)) in
      let r = place_below (layer_each (inside l (b + c) k j h p q)) in
      same ((c * n1 + k) * n2 + j) (rw (e, place_is l (b + c) k j) r)
      ∙ ap (λ (n : ℕ). get_or between n 0) (e ∙ place_is l (b + c) k j)

  -- a rate offers to levels the word of the levels that arrive, if any do
  rate_reads : (k j c : ℕ) → rate_read l.outer l.inner (l.decoder + 1 - b) rest k j c ≡ word_if (word_in (line_is l) between) (arrived (line_is l) (levels l b k j) c)
  rate_reads k j c = go (dec_lt c (l.decoder + 1 - b)) (dec_lt ((k + c) - l.outer.drain) n1) (dec_lt ((j + c) - l.inner.drain) n2)
    where
      go : Dec (c < l.decoder + 1 - b) → Dec ((k + c) - l.outer.drain < n1) → Dec ((j + c) - l.inner.drain < n2) → rate_read l.outer l.inner (l.decoder + 1 - b) rest k j c ≡ word_if (word_in (line_is l) between) (arrived (line_is l) (levels l b k j) c)
      go (yes p) (yes q) (yes r) =
          unfold rate_read arrived line_is bucket_is after_sending zip_with bucket_step overfull unless_over word_if in
          rw (lt-ltb c (l.decoder + 1 - b) p, lt-ltb ((k + c) - l.outer.drain) n1 q, lt-ltb ((j + c) - l.inner.drain) n2 r, le-ltb l.decoder (b + c) (omega arith), le-ltb l.outer.size ((k + c) - l.outer.drain) (omega arith), le-ltb l.inner.size ((j + c) - l.inner.drain) (omega arith))
          (peak_word c ((k + c) - l.outer.drain) ((j + c) - l.inner.drain) (omega arith) q r)
      go (yes p) (yes q) (no r) =
          unfold rate_read arrived line_is bucket_is after_sending zip_with bucket_step overfull unless_over word_if in
          rw (lt-ltb c (l.decoder + 1 - b) p, lt-ltb ((k + c) - l.outer.drain) n1 q, le-ltb ((j + c) - l.inner.drain) n2 (omega arith), le-ltb l.decoder (b + c) (omega arith), le-ltb l.outer.size ((k + c) - l.outer.drain) (omega arith), lt-ltb l.inner.size ((j + c) - l.inner.drain) (omega arith)) refl
      go (yes p) (no q) t =
          unfold rate_read arrived line_is bucket_is after_sending zip_with bucket_step overfull unless_over word_if in
          rw (lt-ltb c (l.decoder + 1 - b) p, le-ltb ((k + c) - l.outer.drain) n1 (omega arith), le-ltb l.decoder (b + c) (omega arith), lt-ltb l.outer.size ((k + c) - l.outer.drain) (omega arith)) refl
      go (no p) s t =
          unfold rate_read arrived line_is word_if in
          rw (le-ltb c (l.decoder + 1 - b) (omega arith), lt-ltb l.decoder (b + c) (omega arith)) refl

  -- the row is what the rule makes of it
  pub row_is : LineFits l → (k j : ℕ) → k < n1 → j < n2 → least_below l.count (λ y. rate_read l.outer l.inner (l.decoder + 1 - b) rest k j (get_or l.rates y 0)) ≡ least_below (length (line_is l).rates) (λ y. word_if (word_in (line_is l) between) (arrived (line_is l) (state_at (line_is l) (b * W + (k * n2 + j))) (get_or (line_is l).rates y 0)))
  row_is f k j p q =
      rw (rates_count l f, state_at_lem l b k j top p q)
      (least_cong l.count _ _ (λ y h. rate_reads k j (get_or l.rates y 0) ∙ ap (λ (c : ℕ). word_if (word_in (line_is l) between) (arrived (line_is l) (levels l b k j) c)) (unfold line_is in sym (get_or-take l.count l.rates y 0 h))))

-- a decoder level more, with what the code computed
pub row_sent : (l : Line) → LineFits l → (old part new : List ℕ) (b start width rows : ℕ) → b ≤ l.decoder → width ≡ span (sizes (line_is l)) → start ≡ b * width → rows ≡ l.decoder + 1 - b → Made 0 start (λ i. least_below (length (line_is l).rates) (λ y. word_if (word_in (line_is l) (take (layer_words (line_is l)) old)) (arrived (line_is l) (state_at (line_is l) i) (get_or (line_is l).rates y 0)))) old part → BlocksMade start 0 (l.outer.size + 1) (l.inner.size + 1) (λ k j. least_below l.count (λ y. rate_read l.outer l.inner rows (drop start part) k j (get_or l.rates y 0))) part new → Made 0 ((b + 1) * width) (λ i. least_below (length (line_is l).rates) (λ y. word_if (word_in (line_is l) (take (layer_words (line_is l)) old)) (arrived (line_is l) (state_at (line_is l) i) (get_or (line_is l).rates y 0)))) old new
row_sent l f old part new b start width rows top p q r a m =
    record {
      size = m.size ∙ a.size;
      here = λ i h k. go i k (dec_lt i start);
      before = λ i h. absurd (omega arith);
      after = λ i h. m.after i (omega (arith, next)) ∙ a.after i (omega (arith, next));
    }
  where
    n1 : ℕ
    n1 = l.outer.size + 1

    n2 : ℕ
    n2 = l.inner.size + 1

    wide : width ≡ n1 * n2
    wide = p ∙ sym (row_size l)

    next : (b + 1) * width ≡ start + n1 * n2
    next = add-mul b 1 width ∙ omega (arith, one-mul width, wide, q)

    between : List ℕ
    between = take (layer_words (line_is l)) old

    F : ℕ → ℕ
    F i = least_below (length (line_is l).rates) (λ y. word_if (word_in (line_is l) between) (arrived (line_is l) (state_at (line_is l) i) (get_or (line_is l).rates y 0)))

    at : start ≡ b * span (sizes (line_is l))
    at = q ∙ ap (λ (n : ℕ). b * n) p

    same : (x : ℕ) → b * span (sizes (line_is l)) + x < layer_words (line_is l) → get_or (drop start part) x 0 ≡ get_or between (b * span (sizes (line_is l)) + x) 0
    same x h =
        get_or-drop start part x 0
        ∙ a.after (start + x) (omega arith)
        ∙ ap (λ (n : ℕ). get_or old (n + x) 0) at
        ∙ sym (get_or-take (layer_words (line_is l)) old (b * span (sizes (line_is l)) + x) 0 h)

    go : (i : ℕ) → i < (b + 1) * width → Dec (i < start) → get_or new i 0 ≡ F i
    go i h (yes t) = m.before i (omega arith) ∙ a.here i (omega arith) t
    go i h (no t) =
        let x : ℕ = i - start in
        let k : ℕ = x / n2 in
        let j : ℕ = x % n2 in
        let positive : 0 < n2 = omega arith in
        let d : k * n2 + j ≡ x = div-add-mod' x n2 in
        let i_is : start + (k * n2 + j) ≡ i = omega arith in
        let s_is : b * span (sizes (line_is l)) + (k * n2 + j) ≡ i = omega (arith, at) in
        let kb : k < n1 = (div-lt_iff_lt-mul {k = n2} {x = x} {y = n1} positive).1 (omega (arith, next)) in
        let jb : j < n2 = mod-lt x positive in
        ap (λ (n : ℕ). get_or new n 0) (sym i_is)
        ∙ m.here k j (omega arith) kb jb
        ∙ rw r (row_is l between (drop start part) b top same f k j kb jb)
        ∙ ap F s_is
