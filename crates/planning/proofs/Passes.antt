-- The two passes make the layer, however distortions combine: `two_passes`. What the first does at a place, in the terms of rows: `row_offers`.
use Prim.Native.Nat.{ℕ, zero, suc, ◌+◌, ◌-◌, ◌*◌, ◌/◌, ◌%◌, ◌<◌, ◌≤◌}
use mathlib.Core.Path.{◌≡◌, refl, sym, ◌∙◌, ap}
use mathlib.Core.Bool.{Bool, true, false}
use mathlib.Core.Option.{Option, none, some}
use mathlib.Core.List.{List}
use native.Mathlib.Nat.{add-mul, div-add-mod', div-lt_iff_lt-mul, le-div_iff_mul-le, mod-lt}
use native.Mathlib.Omega.{arith}
use borrow.Author.Tests.{ltb-true, ltb-false, lt-ltb, le-ltb}
use lib.Dec.{ltb}
use lib.ListN.{length, get_or}
use Rattle.trellis.specs.Pairs.{Pair, pair, row, rows}
use Rattle.trellis.specs.Table.{lowest, offered}
use Rattle.trellis.proofs.Scans.{lowest_snoc, lowest_append}
use Rattle.std.specs.Prelude.{if◌then◌else◌}
use Rattle.model.specs.Job.{Line, Coding, Levels}
use Rattle.base.specs.Lists.{build}
use Rattle.model.specs.Step.{reaches, decoder_step, after_sending, overfull, pin_held, or_overflow, after_decoder, outcome_of}
use Rattle.model.specs.Claims.{DecoderClaim}
use Rattle.model.specs.Best.{late, turn, pairs, reached}
use Rattle.model.specs.Table.{mark, bound, sizes, tops, flat, span, place, InLayer, layer_words, state_at, word_in}
use Rattle.base.proofs.Builds.{build_at, build_cong}
use Rattle.model.proofs.Decoder.{decoder_steps}
use Rattle.model.proofs.Places.{layer_each, span_positive, place_below, place_levels, state_place, state_in_layer}
use Rattle.model.proofs.Steps.{outcome_closed}
use Rattle.planning.specs.Rule.{Allowed, coding_offer, pair_offer, least_offer, layer_from}
use Rattle.planning.specs.Passes.{least_below, unless_over, arrived, decoded, decoded_offer, decoded_from, word_if, sent_from, charged, row_offer}

-- the least of some numbers reads no other, and is at most the mark
pub least_cong : (n : ℕ) (f g : ℕ → ℕ) → ((i : ℕ) → i < n → f i ≡ g i) → least_below n f ≡ least_below n g
unfolding least_below
least_cong zero f g h = refl
least_cong (suc n) f g h = rw (least_cong n f g (λ i k. h i (omega arith)), h n (omega arith))

pub least_marked : (n : ℕ) (f : ℕ → ℕ) → least_below n f ≤ mark
unfolding least_below
least_marked zero f = omega arith
least_marked (suc n) f = let ih = least_marked n f in omega arith

pub least_mark : (n : ℕ) (f : ℕ → ℕ) → ((i : ℕ) → f i ≡ mark) → least_below n f ≡ mark
unfolding least_below
least_mark zero f h = refl
least_mark (suc n) f h = let ih = least_mark n f h in let k = h n in omega arith

-- the least over pairs is the least over the first index of the least over the second
module _ (g : Pair → ℕ) where
  row_least : (i k : ℕ) → lowest mark g (row i k) ≡ least_below k (λ x. g (pair i x))
  unfolding lowest row least_below
  row_least i zero = refl
  row_least i (suc k) = lowest_snoc mark g (row i k) (pair i k) ∙ rw (row_least i k)

  pub pairs_least : (f : ℕ → ℕ) (m k : ℕ) → lowest mark g (rows f m k) ≡ least_below m (λ y. least_below k (λ x. g (pair (f y) x)))
  unfolding lowest rows least_below
  pairs_least f zero k = refl
  pairs_least f (suc m) k = lowest_append mark g (rows f m k) (row (f m) k) ∙ rw (pairs_least f m k, row_least (f m) k)

-- an interval is an arrival, then decoding
unfoldable pub then_decoded : Option Levels → ℕ → Option Levels
then_decoded none r = none
then_decoded (some u) r = decoded u r

module _ (line : Line) (s : Levels) (c r : ℕ) where
  pub arrives : reached (outcome_of line none none s.decoder s.buckets c r) ≡ then_decoded (arrived line s c) r
  unfolding outcome_of reached after_decoder or_overflow pin_held arrived unless_over then_decoded decoded
  arrives = go (ltb line.decoder (s.decoder + c)) (ltb (s.decoder + c) r) (overfull line.buckets ls) refl refl
    where
      ls : List ℕ
      ls = after_sending c line.buckets s.buckets

      does : DecoderClaim line.decoder s.decoder c r
      does = decoder_steps line.decoder s.decoder c r

      go : (over short : Bool) (o : Option ℕ) → ltb line.decoder (s.decoder + c) ≡ over → ltb (s.decoder + c) r ≡ short → reached (after_decoder (decoder_step line.decoder s.decoder c r) (λ d. or_overflow o (reaches (record { decoder = d; buckets = ls })))) ≡ then_decoded (if over then none else unless_over o (record { decoder = s.decoder + c; buckets = ls })) r
      go true short o p q = rw (does.over_iff.1 (ltb-true line.decoder (s.decoder + c) p)) refl
      go false true none p q = rw (does.short_iff.1 (ltb-false line.decoder (s.decoder + c) p, ltb-true (s.decoder + c) r q), q) refl
      go false true (some i) p q = rw (does.short_iff.1 (ltb-false line.decoder (s.decoder + c) p, ltb-true (s.decoder + c) r q)) refl
      go false false none p q = rw ((does.holds_iff ((s.decoder + c) - r)).1 (ltb-false line.decoder (s.decoder + c) p, omega (arith, ltb-false (s.decoder + c) r q)), q) refl
      go false false (some i) p q = rw ((does.holds_iff ((s.decoder + c) - r)).1 (ltb-false line.decoder (s.decoder + c) p, omega (arith, ltb-false (s.decoder + c) r q))) refl

-- what arrives in a layer is in the layer
pub arrived_inside : (line : Line) (s u : Levels) (c : ℕ) → InLayer line s → arrived line s c ≡ some u → InLayer line u
unfolding then_decoded decoded
arrived_inside line s u c a e =
    let z : ltb u.decoder 0 ≡ false = le-ltb u.decoder 0 (omega arith) in
    let d : u.decoder - 0 ≡ u.decoder = omega arith in
    outcome_closed line none none c 0 s u a (arrives line s c 0 ∙ rw (e, z, d))

-- over how a distortion and what follows it combine
module _ (◌⊕◌ : ℕ → ℕ → ℕ) where
  -- a choice offers to the levels before what it offers to the levels between, and nothing where none arrive
  module _ (line : Line) (W : Levels → ℕ) (s : Levels) (c : ℕ) where
    offers_none : arrived line s c ≡ none → (k : Option Coding) → coding_offer ◌⊕◌ line W s c k ≡ mark
    unfolding coding_offer offered then_decoded
    offers_none e none = refl
    offers_none e (some k) = rw (arrives line s c k.size, e)

    offers_some : (u : Levels) → arrived line s c ≡ some u → (k : Option Coding) → coding_offer ◌⊕◌ line W s c k ≡ decoded_offer ◌⊕◌ W u k
    unfolding coding_offer decoded_offer then_decoded
    offers_some u e none = refl
    offers_some u e (some k) = rw (arrives line s c k.size, e)

  module _ (line : Line) (n : ℕ) (allowed : Allowed) (next : List ℕ) where
    -- a word between
    between_is : (u : Levels) → InLayer line u → word_in line (decoded_from ◌⊕◌ line n allowed next) u ≡ least_below n (λ x. decoded_offer ◌⊕◌ (word_in line next) u (allowed x))
    unfolding word_in decoded_from
    between_is u a =
        build_at (layer_words line) _ (place (tops line) (flat u)) (place_below (layer_each a))
        ∙ ap (λ (v : Levels). least_below n (λ x. decoded_offer ◌⊕◌ (word_in line next) v (allowed x))) (state_place line a)

    -- one rate, with all choices
    rate_is : (s : Levels) → InLayer line s → (c : ℕ) → least_below n (λ x. coding_offer ◌⊕◌ line (word_in line next) s c (allowed x)) ≡ word_if (word_in line (decoded_from ◌⊕◌ line n allowed next)) (arrived line s c)
    unfolding word_if
    rate_is s a c = go (arrived line s c) refl
      where
        go : (o : Option Levels) → arrived line s c ≡ o → least_below n (λ x. coding_offer ◌⊕◌ line (word_in line next) s c (allowed x)) ≡ word_if (word_in line (decoded_from ◌⊕◌ line n allowed next)) o
        go none e = least_mark n _ (λ x. offers_none line (word_in line next) s c e (allowed x))
        go (some u) e = least_cong n _ _ (λ x k. offers_some line (word_in line next) s c u e (allowed x)) ∙ sym (between_is u (arrived_inside line s u c a e))

    state_is : (s : Levels) → InLayer line s → least_offer ◌⊕◌ line n allowed (word_in line next) s ≡ least_below (length line.rates) (λ y. word_if (word_in line (decoded_from ◌⊕◌ line n allowed next)) (arrived line s (get_or line.rates y 0)))
    unfolding least_offer pairs turn pair_offer
    state_is s a =
        pairs_least (pair_offer ◌⊕◌ line allowed (word_in line next) s) (turn late (length line.rates)) (length line.rates) n
        ∙ least_cong (length line.rates) _ _ (λ y k. rate_is s a (get_or line.rates y 0))

    -- the second pass after the first is the layer
    pub two_passes : sent_from line (decoded_from ◌⊕◌ line n allowed next) ≡ layer_from ◌⊕◌ line n allowed next
    unfolding sent_from layer_from
    two_passes = sym (build_cong (layer_words line) _ _ (λ i h. state_is (state_at line i) (state_in_layer line i h)))

  -- the word that is read stands as many rows before a place as the coding is large
  module _ (line : Line) (next : List ℕ) (i : ℕ) where
    abbrev w : ℕ
    w = span (sizes line)

    row_place : (r : ℕ) → r * w ≤ i → (i / w - r) * w + i % w ≡ i - r * w
    row_place r h =
        let k = (le-div_iff_mul-le {k = w} {x = r} {y = i} (span_positive (sizes line))).1 h in
        let e : i / w - r + r ≡ i / w = omega arith in
        let q : (i / w) * w ≡ (i / w - r) * w + r * w = ap (λ (n : ℕ). n * w) (sym e) ∙ add-mul (i / w - r) r w in
        omega (arith, q, div-add-mod' i w)

    pub row_offers : (k : Option Coding) → decoded_offer ◌⊕◌ (word_in line next) (state_at line i) k ≡ row_offer ◌⊕◌ w next i k
    unfolding decoded_offer row_offer
    row_offers none = refl
    row_offers (some k) = go (ltb i (k.size * w)) refl
      where
        go : (t : Bool) → ltb i (k.size * w) ≡ t → offered mark bound ◌⊕◌ k.distortion (decoded (state_at line i) k.size) (word_in line next) ≡ (if t then mark else charged ◌⊕◌ k.distortion (get_or next (i - k.size * w) 0))
        go true e =
            let h : i / w < k.size = (div-lt_iff_lt-mul {k = w} {x = i} {y = k.size} (span_positive (sizes line))).1 (ltb-true i (k.size * w) e) in
            unfold decoded offered state_at in rw (lt-ltb (i / w) k.size h)
        go false e =
            let l = ltb-false i (k.size * w) e in
            let h : k.size ≤ i / w = (le-div_iff_mul-le {k = w} {x = k.size} {y = i} (span_positive (sizes line))).1 l in
            unfold decoded offered charged state_at word_in flat tops place in rw (le-ltb (i / w) k.size h, place_levels (sizes line) (i % w) (mod-lt i (span_positive (sizes line))), row_place k.size l)

  -- the first pass, in the terms of rows
  pub decoded_rows : (line : Line) (n : ℕ) (allowed : Allowed) (next : List ℕ) → decoded_from ◌⊕◌ line n allowed next ≡ build (layer_words line) (λ i. least_below n (λ x. row_offer ◌⊕◌ (span (sizes line)) next i (allowed x)))
  unfolding decoded_from
  decoded_rows line n allowed next = build_cong (layer_words line) _ _ (λ i h. least_cong n _ _ (λ x k. row_offers line next i (allowed x)))
