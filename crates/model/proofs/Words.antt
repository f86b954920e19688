-- The table's words and their places in the form in which documents 01 and 02 write them: `WordsOfOne` and `WordsOfTwo`.
use Prim.Native.Nat.{ℕ, ◌+◌, ◌*◌}
use mathlib.Core.Path.{◌≡◌, sym, ◌∙◌, ap}
use mathlib.Core.List.{List, [], ◌∷◌}
use native.Mathlib.Omega.{arith}
use native.Mathlib.Nat.{add-mul, mul_assoc, mul-one}
use lib.ListN.{get_or}
use Rattle.model.specs.Job.{intervals}
use Rattle.model.specs.Table.{tops, flat, span, place, words, word_at}
use Rattle.model.specs.Claims.{WordsOfOne, WordsOfTwo}

-- one level more, written from the outermost inwards; t counts whole spans
place_cons : (t k l : ℕ) (ks ls : List ℕ) → t * span (k ∷ ks) + place (k ∷ ks) (l ∷ ls) ≡ (t * (k + 1) + l) * span ks + place ks ls
unfolding place span
place_cons t k l ks ls = rw (add-mul (t * (k + 1)) l (span ks), mul_assoc t (k + 1) (span ks)) (omega arith)

place_last : (t k l : ℕ) → t * span (k ∷ []) + place (k ∷ []) (l ∷ []) ≡ t * (k + 1) + l
unfolding place span
place_last t k l = place_cons t k l [] [] ∙ (rw (mul-one (t * (k + 1) + l)) (omega arith))

pub words_of_one : WordsOfOne
unfolding word_at words tops flat span place intervals
words_of_one j k one =
    let D = j.line.decoder in
    let K = k.size in
    record {
      count = rw (one, mul-one (K + 1)) (sym (mul_assoc (intervals j + 1) (D + 1) (K + 1)));
      word = λ table t b l. rw one (ap (λ i. get_or table i 0) (place_cons t D b (K ∷ []) (l ∷ []) ∙ place_last (t * (D + 1) + b) K l));
    }

pub words_of_two : WordsOfTwo
unfolding word_at words tops flat span place intervals
words_of_two j k k2 two =
    let D = j.line.decoder in
    let K = k.size in
    let K2 = k2.size in
    record {
      count = rw (two, mul-one (K2 + 1)) (sym (mul_assoc ((intervals j + 1) * (D + 1)) (K + 1) (K2 + 1) ∙ mul_assoc (intervals j + 1) (D + 1) ((K + 1) * (K2 + 1))));
      word = λ table t b l l2. rw two (ap (λ i. get_or table i 0) (place_cons t D b (K ∷ K2 ∷ []) (l ∷ l2 ∷ []) ∙ place_cons (t * (D + 1) + b) K l (K2 ∷ []) (l2 ∷ []) ∙ place_last ((t * (D + 1) + b) * (K + 1) + l) K2 l2));
    }
