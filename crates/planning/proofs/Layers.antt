-- The layers of a job's table: their sizes, their places, and each from the next.
use Prim.Native.Nat.{ℕ, zero, suc, ◌+◌, ◌-◌, ◌*◌, ◌<◌, ◌≤◌}
use mathlib.Core.Path.{◌≡◌, refl, sym, ◌∙◌, ap}
use mathlib.Core.List.{List, ◌++◌, append_assoc}
use native.Mathlib.Omega.{arith}
use native.Mathlib.Nat.{suc-mul, add-mul}
use lib.ListN.{length, take, drop, length-append, length-drop}
use lib.Seq.{take_at, drop_at, drop-drop, length-take-le}
use Rattle.trellis.specs.Trellis.{Combines, least}
use Rattle.trellis.specs.Table.{encode, Small, marked_stage}
use Rattle.trellis.proofs.Tables.{marked_stage_encode}
use Rattle.model.specs.Job.{Levels, Job, intervals}
use Rattle.base.specs.Lists.{build}
use Rattle.model.specs.Best.{late, width, Open, trellis_of, least_by}
use Rattle.model.specs.Table.{mark, bound, tops, flat, place, layer_words, state_at, words, layer_of, word_in, InLayer, IsTable, Bounded}
use Rattle.base.proofs.Builds.{build_length, build_at, build_cong}
use Rattle.model.proofs.Places.{layer_each, place_below, state_place, state_in_layer}
use Rattle.model.proofs.Steps.{layer_closed}
use Rattle.model.proofs.Layers.{word_in_layer}
use Rattle.model.proofs.Tables.{distortions_small}
use Rattle.planning.specs.Rule.{layer_from, allowed_in}
use Rattle.planning.specs.Words.{layer, layers, table_from}
use Rattle.planning.proofs.Offers.{stage_is}

module _ (◌⊕◌ : ℕ → ℕ → ℕ) (j : Job) (m : Open) where
  pub layer_length : (t : ℕ) → length (layer ◌⊕◌ j m t) ≡ layer_words j.line
  unfolding layer
  layer_length t = build_length (layer_words j.line) (λ i. encode mark (least_by ◌⊕◌ j m t (state_at j.line i)))

  pub layers_length : (t n : ℕ) → length (layers ◌⊕◌ j m t n) ≡ n * layer_words j.line
  unfolding layers
  layers_length t zero = omega arith
  layers_length t (suc n) = length-append (layer ◌⊕◌ j m t) (layers ◌⊕◌ j m (suc t) n) ∙ omega (arith, layer_length t, layers_length (suc t) n, suc-mul n (layer_words j.line))

  -- a state's word in its layer
  pub word_of : (t : ℕ) (s : Levels) → InLayer j.line s → word_in j.line (layer ◌⊕◌ j m t) s ≡ encode mark (least_by ◌⊕◌ j m t s)
  unfolding word_in layer
  word_of t s a =
      build_at (layer_words j.line) (λ i. encode mark (least_by ◌⊕◌ j m t (state_at j.line i))) (place (tops j.line) (flat s)) (place_below (layer_each a))
      ∙ ap (λ (u : Levels). encode mark (least_by ◌⊕◌ j m t u)) (state_place j.line a)

  -- the k-th of some layers, whatever stands behind them
  layers_at : (t n k : ℕ) (rest : List ℕ) → k < n → take (layer_words j.line) (drop (k * layer_words j.line) (layers ◌⊕◌ j m t n ++ rest)) ≡ layer ◌⊕◌ j m (t + k)
  unfolding layers
  layers_at t zero k rest h = absurd (omega arith)
  layers_at t (suc n) zero rest h =
      let e : t + 0 ≡ t = omega arith in
      let z : 0 * layer_words j.line ≡ 0 = omega arith in
      rw (e, z, append_assoc (layer ◌⊕◌ j m t) (layers ◌⊕◌ j m (suc t) n) rest) (take_at (layer ◌⊕◌ j m t) (layers ◌⊕◌ j m (suc t) n ++ rest) (layer_words j.line) (layer_length t))
  layers_at t (suc n) (suc k) rest h =
      let e : t + suc k ≡ suc t + k = omega arith in
      ap (take (layer_words j.line)) (drop_past (layer ◌⊕◌ j m t) (layers ◌⊕◌ j m (suc t) n) rest (layer_words j.line) k (layer_length t))
      ∙ layers_at (suc t) n k rest (omega arith)
      ∙ ap (layer ◌⊕◌ j m) (sym e)
    where
      drop_past : (a b c : List ℕ) (w k : ℕ) → length a ≡ w → drop (suc k * w) ((a ++ b) ++ c) ≡ drop (k * w) (b ++ c)
      drop_past a b c w k e =
          let z : suc k * w ≡ w + k * w = omega (arith, suc-mul k w) in
          ap (λ (n : ℕ). drop n ((a ++ b) ++ c)) z ∙ sym (drop-drop (k * w) w ((a ++ b) ++ c)) ∙ ap (drop (k * w)) (ap (drop w) (append_assoc a b c) ∙ drop_at a (b ++ c) w e)

  -- the table from layer s on, over a list that is long enough
  module _ (s : ℕ) (table : List ℕ) (h : s ≤ intervals j) (room : words j ≤ length table) where
    abbrev W : ℕ
    W = layer_words j.line

    words_as : words j ≡ s * W + (suc (intervals j) - s) * W
    unfolding words
    words_as = let e : intervals j + 1 ≡ s + (suc (intervals j) - s) = omega arith in ap (λ (n : ℕ). n * W) e ∙ add-mul s (suc (intervals j) - s) W

    front : length (take (s * W) table) ≡ s * W
    front = length-take-le (s * W) table (omega (arith, words_as, room))

    behind : drop (s * W) (table_from ◌⊕◌ j m s table) ≡ layers ◌⊕◌ j m s (suc (intervals j) - s) ++ drop (words j) table
    unfolding table_from
    behind = drop_at (take (s * W) table) (layers ◌⊕◌ j m s (suc (intervals j) - s) ++ drop (words j) table) (s * W) front

    pub from_before : take (s * W) (table_from ◌⊕◌ j m s table) ≡ take (s * W) table
    unfolding table_from
    from_before = take_at (take (s * W) table) (layers ◌⊕◌ j m s (suc (intervals j) - s) ++ drop (words j) table) (s * W) front

    pub from_rest : drop (words j) (table_from ◌⊕◌ j m s table) ≡ drop (words j) table
    from_rest =
        ap (λ (n : ℕ). drop n (table_from ◌⊕◌ j m s table)) words_as
        ∙ sym (drop-drop ((suc (intervals j) - s) * W) (s * W) (table_from ◌⊕◌ j m s table))
        ∙ ap (drop ((suc (intervals j) - s) * W)) behind
        ∙ drop_at (layers ◌⊕◌ j m s (suc (intervals j) - s)) (drop (words j) table) ((suc (intervals j) - s) * W) (layers_length s (suc (intervals j) - s))

    pub from_length : length (table_from ◌⊕◌ j m s table) ≡ length table
    unfolding table_from
    from_length =
        let a = length-append (take (s * W) table) (layers ◌⊕◌ j m s (suc (intervals j) - s) ++ drop (words j) table) in
        let b = length-append (layers ◌⊕◌ j m s (suc (intervals j) - s)) (drop (words j) table) in
        omega (arith, a, b, front, layers_length s (suc (intervals j) - s), length-drop (words j) table, words_as, room)

    pub from_layer : (t : ℕ) → s ≤ t → t ≤ intervals j → layer_of j.line (table_from ◌⊕◌ j m s table) t ≡ layer ◌⊕◌ j m t
    unfolding layer_of
    from_layer t l k =
        let e : t ≡ s + (t - s) = omega arith in
        let q : t * W ≡ s * W + (t - s) * W = ap (λ (n : ℕ). n * W) e ∙ add-mul s (t - s) W in
        ap (λ (n : ℕ). take W (drop n (table_from ◌⊕◌ j m s table))) q
        ∙ ap (take W) (sym (drop-drop ((t - s) * W) (s * W) (table_from ◌⊕◌ j m s table)) ∙ ap (drop ((t - s) * W)) behind)
        ∙ layers_at s (suc (intervals j) - s) (t - s) (drop (words j) table) (omega arith)
        ∙ ap (layer ◌⊕◌ j m) (sym e)

  -- the last layer adds nothing
  pub layer_last : layer ◌⊕◌ j m (intervals j) ≡ build (layer_words j.line) (λ i. 0)
  unfolding layer least_by least encode
  layer_last =
      let e : intervals j - intervals j ≡ 0 = omega arith in
      build_cong (layer_words j.line) _ (λ i. 0) (λ i h. rw e refl)

  -- an earlier layer follows from the next
  module _ (combines : Combines ◌⊕◌) (bounded : Bounded j) (t : ℕ) (h : t < intervals j) where
    state_word : (s : Levels) → InLayer j.line s → encode mark (least_by ◌⊕◌ j m t s) ≡ marked_stage (trellis_of j m late) ◌⊕◌ mark bound t (word_in j.line (layer ◌⊕◌ j m (suc t))) s
    unfolding least_by least
    state_word s a =
        let e : intervals j - t ≡ suc (intervals j - suc t) = omega arith in
        let q : suc t + (intervals j - suc t) ≡ intervals j = omega arith in
        let small : Small (trellis_of j m late) ◌⊕◌ mark bound (intervals j) (λ t s. InLayer j.line s) = distortions_small j m late bounded ◌⊕◌ combines (λ t s. InLayer j.line s) in
        rw e (sym (marked_stage_encode (trellis_of j m late) ◌⊕◌ mark bound {L = λ u. least (trellis_of j m late) ◌⊕◌ (intervals j - suc t) (suc t) u} (record {
          apart = small.apart;
          fits = λ x w. small.fits (suc t) x w;
          row = λ x u l k.
              let inside = layer_closed j m late t s u x h a l k in
              (word_of (suc t) u inside, λ v r. small.values (intervals j - suc t) (suc t) u v q inside r);
        })))

    pub layer_step : layer ◌⊕◌ j m t ≡ layer_from ◌⊕◌ j.line (width j (suc t)) (allowed_in j m (suc t)) (layer ◌⊕◌ j m (suc t))
    unfolding layer_from
    layer_step = layer_as ∙ build_cong (layer_words j.line) _ _ (λ i k. state_word (state_at j.line i) (state_in_layer j.line i k) ∙ stage_is ◌⊕◌ j m t (word_in j.line (layer ◌⊕◌ j m (suc t))) (state_at j.line i))
      where
        layer_as : layer ◌⊕◌ j m t ≡ build (layer_words j.line) (λ i. encode mark (least_by ◌⊕◌ j m t (state_at j.line i)))
        layer_as = unfold layer in refl

-- a list whose layers are those by the sum is the table
module _ (j : Job) (m : Open) where
  pub layers_table : (first : ℕ) (table : List ℕ) → words j ≤ length table → ((t : ℕ) → first ≤ t → t ≤ intervals j → layer_of j.line table t ≡ layer ◌+◌ j m t) → IsTable j m first table
  layers_table first table room same = record {
    enough = room;
    holds = λ t s l h a. word_in_layer j table t s a ∙ ap (λ (l : List ℕ). word_in j.line l s) (same t l h) ∙ word_of ◌+◌ j m t s a;
  }

  pub from_table : (s : ℕ) (table : List ℕ) → s ≤ intervals j → words j ≤ length table → IsTable j m s (table_from ◌+◌ j m s table)
  from_table s table h room = layers_table s (table_from ◌+◌ j m s table) (omega (arith, from_length ◌+◌ j m s table h room)) (from_layer ◌+◌ j m s table h room)
