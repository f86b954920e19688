-- The table while layers are made anew, the last first: one layer more, and all of them.
use Prim.Native.Nat.{ℕ, zero, suc, ◌+◌, ◌-◌, ◌*◌, ◌<◌, ◌≤◌}
use mathlib.Core.Path.{◌≡◌, refl, sym, ◌∙◌, ap}
use mathlib.Core.List.{List, [], ◌++◌, append-nil}
use native.Mathlib.Nat.{suc-mul, add-mul, one-mul, mul-le-mul_right}
use native.Mathlib.Omega.{arith}
use lib.ListN.{length, take, drop, replicate, length-drop, drop_of_length-le}
use lib.Seq.{take_all, drop-drop}
use borrow.Rule.Slice.PartMut.{put_mid}
use Rattle.trellis.specs.Trellis.{Combines}
use Rattle.model.specs.Job.{Line, Job, intervals}
use Rattle.model.specs.Best.{width, Open}
use Rattle.model.specs.Table.{layer_words, words, layer_of, Bounded}
use Rattle.trellis.proofs.Optimality.{sum_combines, greatest_combines}
use Rattle.decoder.specs.declared.Measure.{Measure}
use Rattle.decoder.specs.declared.Measure.TheVariants as measure
use Rattle.decoder.specs.Answers.{combine}
use Rattle.planning.specs.Rule.{Allowed, layer_from, allowed_in, refill, refilled}
use Rattle.planning.specs.Words.{table_from}
use Rattle.planning.proofs.Offers.{layer_from_cong}
use Rattle.planning.proofs.Refilling.{refilled_length, table_made}

-- both ways to combine distortions are ways of the theory
pub combine_combines : (x : Measure) → Combines (combine x)
unfolding combine
combine_combines measure.Sum = sum_combines
combine_combines measure.Greatest = greatest_combines

-- the part that starts at a is all that is left of the list, and what comes back stands after the first a
pub part_is : (a : ℕ) (w : List ℕ) → take (length w - a) (drop a w) ≡ drop a w
part_is a w = take_all (length w - a) (drop a w) (omega (arith, length-drop a w))

pub put_rest : (a : ℕ) (w ys : List ℕ) → put_mid a (length w - a) w ys ≡ take a w ++ ys
put_rest a w ys =
    let e : drop (length w - a) (drop a w) ≡ [] = drop_of_length-le (drop a w) {i = length w - a} (omega (arith, length-drop a w)) in
    rw (e, append-nil)

pub less_one : (t n : ℕ) → 0 < t → t * n ≡ (t - 1) * n + n
less_one zero n h = omega arith
less_one (suc t) n h = let e : suc t - 1 ≡ t = omega arith in rw e (suc-mul t n)

-- the last layer as the code writes it
module _ (j : Job) where
  abbrev S : ℕ
  S = layer_words j.line

  pub words_are_layers : words j ≡ (intervals j + 1) * S
  unfolding words
  words_are_layers = refl

  pub room_for_last : (w : List ℕ) → words j ≤ length w → intervals j * S + S ≤ length w
  room_for_last w room = omega (arith, add-mul (intervals j) 1 S, one-mul S, room, words_are_layers)

  pub last_written : (w ys : List ℕ) (total size : ℕ) → total ≡ intervals j → size ≡ S → ys ≡ replicate size 0 ++ drop size (take (length w - total * size) (drop (total * size) w)) → put_mid (total * size) (length w - total * size) w ys ≡ take (intervals j * S) w ++ (replicate S 0 ++ drop S (drop (intervals j * S) w))
  last_written w ys total size t z y = put_rest (total * size) w ys ∙ rw (y, part_is (total * size) w, t, z)

-- the last layer, then those before it from s on: the table from s on
pub table_filled : (◌⊕◌ : ℕ → ℕ → ℕ) → Combines ◌⊕◌ → (j : Job) (m : Open) → Bounded j → (w last new : List ℕ) → words j ≤ length w → last ≡ take (intervals j * layer_words j.line) w ++ (replicate (layer_words j.line) 0 ++ drop (layer_words j.line) (drop (intervals j * layer_words j.line) w)) → (s total : ℕ) → s ≤ intervals j → total ≡ intervals j → new ≡ refilled ◌⊕◌ j m s (total - s) last → new ≡ table_from ◌⊕◌ j m s w
table_filled ◌⊕◌ c j m bounded w last new room is s total h t q = q ∙ ap (λ (n : ℕ). refilled ◌⊕◌ j m s (n - s) last) t ∙ table_made ◌⊕◌ j m c bounded w last room is s h

module _ (◌⊕◌ : ℕ → ℕ → ℕ) (j : Job) (m : Open) (last : ℕ) (w₀ : List ℕ) where
  abbrev W : ℕ
  W = layer_words j.line

  -- the layers from this place on, up to the last, are made anew
  pub record Filling (first place start : ℕ) (w : List ℕ) : Type 0 where
    pub at : start ≡ place * W
    pub low : first ≤ place
    pub high : place ≤ last
    pub is : w ≡ refilled ◌⊕◌ j m place (last - place) w₀

  pub filling_none : (first place start : ℕ) → first ≤ last → place ≡ last → start ≡ last * W → Filling first place start w₀
  unfolding refilled
  filling_none first place start h e q =
      let z : last - last ≡ 0 = omega arith in
      rw (q, e) (record { at = refl; low = h; high = omega arith; is = rw z refl })

  pub filling_all : (first place start : ℕ) (w : List ℕ) → Filling first place start w → place ≤ first → w ≡ refilled ◌⊕◌ j m first (last - first) w₀
  filling_all first place start w f h = let e : place ≡ first = omega (arith, f.low) in rw e at f.is

  module _ (first place start : ℕ) (w : List ℕ) (f : Filling first place start w) (room : (last + 1) * W ≤ length w₀) where
    roomy : last * W + W ≤ length w₀
    roomy = omega (arith, add-mul last 1 W, one-mul W, room)

    fits : start ≤ last * W
    fits = omega (arith, mul-le-mul_right {m = place} {n = last} W f.high, f.at)

    pub long : length w ≡ length w₀
    long =
        let e : place + (last - place) ≡ last = omega (arith, f.high) in
        ap length f.is ∙ refilled_length ◌⊕◌ j m (last - place) place w₀ (rw e (omega (arith, roomy)))

    module _ (p : first < place) where
      pub starts : W ≤ start
      starts = omega (arith, less_one place W (omega arith), f.at)

      pub room_for_two : start - W + (W + W) ≤ length w
      room_for_two = omega (arith, starts, fits, roomy, long)

      -- the part that is filled: its first layer is to be written, and the next layer follows
      next : drop W (take (length w - (start - W)) (drop (start - W) w)) ≡ drop start w
      next =
          let e : start - W + W ≡ start = omega (arith, starts) in
          ap (drop W) (part_is (start - W) w)
          ∙ drop-drop W (start - W) w
          ∙ ap (λ (n : ℕ). drop n w) e

      -- one layer more: its size, line and choices as the code has them
      module _ (size : ℕ) (z : size ≡ W) (line : Line) (n : ℕ) (a : Allowed) (e : line ≡ j.line) (q : n ≡ width j (suc (place - 1))) (same : (x : ℕ) → x < n → a x ≡ allowed_in j m (suc (place - 1)) x) where
        one : suc (place - 1) ≡ place
        one = omega arith

        begins : start - W ≡ (place - 1) * W
        begins = omega (arith, less_one place W (omega arith), f.at)

        by_rule : layer_from ◌⊕◌ line n a (take W (drop start w)) ≡ layer_from ◌⊕◌ j.line (width j (suc (place - 1))) (allowed_in j m (suc (place - 1))) (layer_of j.line w (suc (place - 1)))
        unfolding layer_of
        by_rule =
            let b = allowed_in j m (suc (place - 1)) in
            let k : start ≡ suc (place - 1) * W = f.at ∙ ap (λ (i : ℕ). i * W) (sym one) in
            rw e (layer_from_cong ◌⊕◌ j.line n a b (take W (drop start w)) same)
            ∙ ap (λ (i : ℕ). layer_from ◌⊕◌ j.line i b (take W (drop start w))) q
            ∙ ap (λ (i : ℕ). layer_from ◌⊕◌ j.line (width j (suc (place - 1))) b (take W (drop i w))) k

        again : refill ◌⊕◌ j m (place - 1) w ≡ refilled ◌⊕◌ j m (place - 1) (last - (place - 1)) w₀
        unfolding refilled
        again =
            let k : last - (place - 1) ≡ suc (last - place) = omega (arith, f.high) in
            rw k (ap (refill ◌⊕◌ j m (place - 1)) (f.is ∙ ap (λ (i : ℕ). refilled ◌⊕◌ j m i (last - place) w₀) (sym one)))

        module _ (ys : List ℕ) (y : ys ≡ layer_from ◌⊕◌ line n a (take (layer_words line) (drop (layer_words line) (take (length w - (start - size)) (drop (start - size) w)))) ++ drop (layer_words line) (take (length w - (start - size)) (drop (start - size) w))) where
          made : take (start - W) w ++ ys ≡ refill ◌⊕◌ j m (place - 1) w
          unfolding refill
          made =
              let g : layer_words line ≡ W = ap layer_words e in
              let k : start ≡ suc (place - 1) * W = f.at ∙ ap (λ (i : ℕ). i * W) (sym one) in
              let filled : ys ≡ layer_from ◌⊕◌ line n a (take W (drop start w)) ++ drop start w = y ∙ rw (z, g, next) in
              ap (λ (l : List ℕ). take (start - W) w ++ l) filled
              ∙ ap (λ (i : ℕ). take i w ++ (layer_from ◌⊕◌ line n a (take W (drop start w)) ++ drop start w)) begins
              ∙ ap (λ (l : List ℕ). take ((place - 1) * W) w ++ (l ++ drop start w)) by_rule
              ∙ ap (λ (i : ℕ). take ((place - 1) * W) w ++ (layer_from ◌⊕◌ j.line (width j (suc (place - 1))) (allowed_in j m (suc (place - 1))) (layer_of j.line w (suc (place - 1))) ++ drop i w)) k

          pub filling_more : Filling first (place - 1) (start - size) (put_mid (start - size) (length w - (start - size)) w ys)
          filling_more = rw z (record {
            at = begins;
            low = omega arith;
            high = omega (arith, f.high);
            is = put_rest (start - W) w ys ∙ made ∙ again;
          })
