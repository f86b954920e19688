-- The places of states in a layer: each below the layer's span, and each of one state alone.
use Prim.Native.Nat.{ℕ, zero, suc, ◌+◌, ◌*◌, ◌/◌, ◌%◌, ◌<◌, ◌≤◌}
use mathlib.Core.Path.{◌≡◌, refl, ◌∙◌, ap, ap₂}
use mathlib.Core.List.{List, [], ◌∷◌, map}
use native.Mathlib.Omega.{arith}
use native.Mathlib.Nat.{add-mul, one-mul, mul-pos, mul-le-mul_right, mul-add-div_right, mul-add-mod_self_right, div-eq_of_lt, mod-eq_of_lt, div-add-mod', div-lt_iff_lt-mul, mod-lt}
use lib.ListN.{length}
use Rattle.model.specs.Job.{Bucket, Line, Levels}
use Rattle.model.specs.Admissible.{AllWithin}
use Rattle.model.specs.Table.{InLayer, sizes, tops, flat, span, place, levels_at, state_at}

-- each level is at most its top
pub data AtMostEach : List ℕ → List ℕ → Type 0 where
  none_left : AtMostEach [] []
  one_more : {k l : ℕ} {ks ls : List ℕ} → l ≤ k → AtMostEach ks ls → AtMostEach (k ∷ ks) (l ∷ ls)

buckets_each : (ks : List Bucket) (ls : List ℕ) → length ls ≡ length ks → AllWithin ks ls → AtMostEach (map (λ k. k.size) ks) ls
buckets_each [] [] e w = none_left
buckets_each [] (l ∷ ls) e w = absurd (omega arith)
buckets_each (k ∷ ks) [] e w = absurd (omega arith)
buckets_each (k ∷ ks) (l ∷ ls) e w = one_more (w 0 (omega arith)) (buckets_each ks ls (omega arith) (λ i h. w (suc i) (omega arith)))

each_count : (ks : List Bucket) {ls : List ℕ} → AtMostEach (map (λ k. k.size) ks) ls → length ls ≡ length ks
each_count [] none_left = refl
each_count (k ∷ ks) (one_more h r) = ap suc (each_count ks r)

each_within : (ks : List Bucket) {ls : List ℕ} → AtMostEach (map (λ k. k.size) ks) ls → AllWithin ks ls
each_within [] a i b = absurd (omega arith)
each_within (k ∷ ks) (one_more h r) zero b = h
each_within (k ∷ ks) (one_more h r) (suc i) b = each_within ks r i (omega arith)

pub layer_each : {line : Line} {s : Levels} → InLayer line s → AtMostEach (tops line) (flat s)
unfolding tops flat
layer_each {line} {s} a = one_more a.decoder (buckets_each line.buckets s.buckets a.count a.buckets)

pub span_positive : (ks : List ℕ) → 0 < span ks
unfolding span
span_positive [] = omega arith
span_positive (k ∷ ks) = mul-pos {m = k + 1} {n = span ks} (omega arith) (span_positive ks)

pub place_below : {ks ls : List ℕ} → AtMostEach ks ls → place ks ls < span ks
unfolding span place
place_below none_left = omega arith
place_below (one_more {k} {l} {ks} {ls} h r) =
    let ih = place_below r in
    omega (arith, add-mul k 1 (span ks), one-mul (span ks), mul-le-mul_right {m = l} {n = k} (span ks) h)

-- the levels at a state's place are the state's
pub levels_place : {ks ls : List ℕ} → AtMostEach ks ls → levels_at ks (place ks ls) ≡ ls
unfolding levels_at place
levels_place none_left = refl
levels_place (one_more {k} {l} {ks} {ls} h r) =
    let below = place_below r in
    let first : (l * span ks + place ks ls) / span ks ≡ l = mul-add-div_right (span_positive ks) l (place ks ls) ∙ (rw (div-eq_of_lt below) (omega arith)) in
    let rest : (l * span ks + place ks ls) % span ks ≡ place ks ls = mul-add-mod_self_right l (span ks) (place ks ls) ∙ mod-eq_of_lt below in
    rw (first, rest, levels_place r)

-- and a place below the span is that of a state in the layer
pub levels_at_most : (ks : List ℕ) (i : ℕ) → i < span ks → AtMostEach ks (levels_at ks i)
unfolding levels_at span
levels_at_most [] i h = none_left
levels_at_most (k ∷ ks) i h =
    let q = (div-lt_iff_lt-mul {k = span ks} {x = i} {y = k + 1} (span_positive ks)).1 h in
    one_more {k = k} {l = i / span ks} (omega arith) (levels_at_most ks (i % span ks) (mod-lt i (span_positive ks)))

pub place_levels : (ks : List ℕ) (i : ℕ) → i < span ks → place ks (levels_at ks i) ≡ i
unfolding levels_at span place
place_levels [] i h = omega arith
place_levels (k ∷ ks) i h = rw (place_levels ks (i % span ks) (mod-lt i (span_positive ks))) (div-add-mod' i (span ks))

module _ (line : Line) where
  -- the state at a state's place is the state
  pub state_place : {s : Levels} → InLayer line s → state_at line (place (tops line) (flat s)) ≡ s
  unfolding flat tops state_at levels_at
  state_place {s} a =
      let q = levels_place (layer_each a) in
      let x : (state_at line (place (tops line) (flat s))).decoder ≡ s.decoder = cc in
      let y : (state_at line (place (tops line) (flat s))).buckets ≡ s.buckets = cc in
      ap₂ {C = Levels} (λ d ls. record { decoder = d; buckets = ls }) x y

  pub state_in_layer : (i : ℕ) → i < span (tops line) → InLayer line (state_at line i)
  unfolding tops state_at levels_at
  state_in_layer i h = go (levels_at_most (tops line) i h)
    where
      go : {b : ℕ} {ls : List ℕ} → AtMostEach (line.decoder ∷ sizes line) (b ∷ ls) → InLayer line (record { decoder = b; buckets = ls })
      go (one_more k r) = record { decoder = k; count = each_count line.buckets r; buckets = each_within line.buckets r }
