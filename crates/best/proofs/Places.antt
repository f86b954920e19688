-- Where the layers on both sides of an interval stand in a table, and what is read of them.
use Prim.Native.Nat.{ℕ, suc, ◌+◌, ◌*◌, ◌-◌, ◌<◌, ◌≤◌}
use mathlib.Core.Path.{◌≡◌}
use mathlib.Core.Option.{some}
use mathlib.Core.List.{List}
use native.Mathlib.Nat.{add-mul, one-mul, two-mul, mul-le-mul}
use native.Mathlib.Numerals.{add-one}
use native.Mathlib.Omega.{arith}
use lib.ListN.{length, get_or, take, drop, length-drop}
use lib.Seq.{length-take-le}
use Rattle.trellis.specs.Pairs.{Pair}
use Rattle.trellis.specs.Table.{first_at}
use Rattle.model.specs.Job.{Levels}
use Rattle.format.specs.JobBytes.{Header}
use Rattle.model.specs.Best.{Order}
use Rattle.model.specs.Table.{layer_words, tops, flat, layer_of, word_in}
use Rattle.model.specs.Table as table
use Rattle.model.proofs.Layers.{word_is}
use Rattle.model.proofs.Places.{layer_each, place_below}
use Rattle.planning.specs.Rule.{pair_offer}
use Rattle.line.specs.declared.Line.{Line}
use Rattle.table.specs.declared.Choices.{Choices}
use Rattle.line.specs.Answers.{line_is}
use Rattle.table.specs.Answers.{allowed_is}
use Rattle.best.specs.Answers.{Offers, Attained, Layered}
use Rattle.line.proofs.Sizes.{layer_small}

-- the words before a layer, before the next and before the one after it, for layers of this size; i is a place in a layer
pub record Spans (words : List ℕ) (place size i : ℕ) : Type 0 where
  pub next : (place + 1) * size ≡ place * size + size
  pub end : (place + 2) * size ≡ place * size + size + size
  pub most : (place + 2) * size ≤ 2524971008
  pub room : (place + 2) * size ≤ length words
  pub below : i < size

-- the part of a table that follows a layer, as long as a layer
abbrev pub next_part : List ℕ → ℕ → ℕ → List ℕ
next_part words place size = take ((place + 1) * size + size - (place + 1) * size) (drop ((place + 1) * size) words)

-- the layers on both sides of an interval, with their size and the place of a state as they were computed
module _ (o : Order) (words : List ℕ) (l : Line) (b : List ℕ) (h : Header) (c : Choices) (place : ℕ) (s : Levels) (a : Layered o words l b h c place s) (size i : ℕ) (e : size ≡ layer_words (line_is l)) (q : i ≡ table.place (tops (line_is l)) (flat s)) where
  pub spans : Spans words place size i
  spans = record {
    next = omega (arith, add-mul place 1 size, one-mul size);
    end = omega (arith, add-mul place 2 size, two-mul size);
    most = mul-le-mul {n₁ = place + 2} {n₂ = 602} {m₂ = 4194304} (omega (arith, a.few)) (omega (arith, e, layer_small l a.line));
    room = rw e a.room;
    below = rw (e, q) (place_below (layer_each a.inside));
  }

  part_layer : next_part words place size ≡ layer_of (line_is l) words (suc place)
  unfolding layer_of
  part_layer = let k : (place + 1) * size + size - (place + 1) * size ≡ size = omega arith in rw (k, e, add-one)

  here_word : get_or words (place * size + i) 0 ≡ word_in (line_is l) (layer_of (line_is l) words place) s
  here_word = rw (e, q) (word_is (line_is l) words place s a.inside)

  next_size : length (layer_of (line_is l) words (suc place)) ≡ layer_words (line_is l)
  unfolding layer_of
  next_size =
      let n = layer_words (line_is l) in
      let k : suc place * n + n ≤ length words = omega (arith, a.room, add-mul place 2 n, two-mul n, add-mul place 1 n, one-mul n) in
      length-take-le n (drop (suc place * n) words) (omega (arith, length-drop (suc place * n) words))

  -- what the first entry is asked, and what it says of the layers
  pub offered : Offers (next_part words place size) l b h c s × Attained o (line_is l) c.count (allowed_is b h c) (next_part words place size) s (get_or words (place * size + i) 0)
  offered = rw (part_layer, here_word) (record { line = a.line; choices = a.choices; whole = next_size; count = a.inside.count }, a.attained)

  pub first_found : (pairs : List Pair) (p : Pair) → first_at (pair_offer ◌+◌ (line_is l) (allowed_is b h c) (word_in (line_is l) (next_part words place size)) s) (get_or words (place * size + i) 0) pairs ≡ some p → first_at (pair_offer ◌+◌ (line_is l) (allowed_is b h c) (word_in (line_is l) (layer_of (line_is l) words (suc place))) s) (word_in (line_is l) (layer_of (line_is l) words place) s) pairs ≡ some p
  first_found pairs p f = rw (part_layer, here_word) at f
