-- A layer from the next in two passes, with the levels between arrival and decoding in the middle: what is sent has arrived, so that the decoder stands at its peak, and no unit has left yet.
-- Which levels arrive depends on the rate alone, and what leaves them on the choice alone, so that no pass goes through pairs.
use Rattle.std.specs.Prelude.{ℕ, zero, suc, ◌+◌, ◌-◌, ◌*◌, min, List, leb, ltb, length, get_or, if◌then◌else◌}
use Rattle.std.proofs.Math.Option.{Option, none, some}
use Rattle.trellis.specs.Table.{charge, offered}
use Rattle.model.specs.Job.{Line, Coding, Levels}
use Rattle.base.specs.Lists.{build}
use Rattle.model.specs.Step.{after_sending, overfull}
use Rattle.model.specs.Table.{mark, bound, layer_words, state_at, word_in}
use Rattle.planning.specs.Rule.{Allowed}

-- the least of the first n numbers of a sequence, or the mark
unfoldable pub least_below : ℕ → (ℕ → ℕ) → ℕ
least_below zero f = mark
least_below (suc n) f = min (least_below n f) (f n)

-- the levels, where no bucket is over its size
unfoldable pub unless_over : Option ℕ → Levels → Option Levels
unless_over none s = some s
unless_over (some i) s = none

-- the levels when c has arrived: none where the decoder's peak or a bucket is over its size
unfoldable pub arrived : Line → Levels → ℕ → Option Levels
arrived line s c =
    if ltb line.decoder (s.decoder + c) then none
    else unless_over (overfull line.buckets (after_sending c line.buckets s.buckets)) (record { decoder = s.decoder + c; buckets = after_sending c line.buckets s.buckets })

-- and when a unit of size r has left the decoder: none where it is not all there
unfoldable pub decoded : Levels → ℕ → Option Levels
decoded s r = if ltb s.decoder r then none else some (record { decoder = s.decoder - r; buckets = s.buckets })

-- the word of levels that may be none
unfoldable pub word_if : (Levels → ℕ) → Option Levels → ℕ
word_if W none = mark
word_if W (some s) = W s

-- the second pass, over the rates: the words of the levels before
unfoldable pub sent_from : Line → List ℕ → List ℕ
sent_from line between = build (layer_words line) (λ i. least_below (length line.rates) (λ y. word_if (word_in line between) (arrived line (state_at line i) (get_or line.rates y 0))))

-- what decoding offers, over how a distortion and what follows it combine
module _ (◌⊕◌ : ℕ → ℕ → ℕ) where
  -- what decoding this coding offers to levels between, from the words W of the next layer
  unfoldable pub decoded_offer : (Levels → ℕ) → Levels → Option Coding → ℕ
  decoded_offer W s none = mark
  decoded_offer W s (some k) = offered mark bound ◌⊕◌ k.distortion (decoded s k.size) W

  -- the first pass, over n choices: the words of the levels between
  unfoldable pub decoded_from : Line → ℕ → Allowed → List ℕ → List ℕ
  decoded_from line n allowed next = build (layer_words line) (λ i. least_below n (λ x. decoded_offer (word_in line next) (state_at line i) (allowed x)))

  -- a distortion and a word, or the mark where the word is read as none
  unfoldable pub charged : ℕ → ℕ → ℕ
  charged distortion word = charge mark bound ◌⊕◌ (leb word bound) distortion word

  -- what decoding a coding offers to the place i of a layer whose decoder levels stand `width` words apart: the word that it leads to stands as many rows before the place as the coding is large
  unfoldable pub row_offer : ℕ → List ℕ → ℕ → Option Coding → ℕ
  row_offer width next i none = mark
  row_offer width next i (some k) = if ltb i (k.size * width) then mark else charged k.distortion (get_or next (i - k.size * width) 0)
