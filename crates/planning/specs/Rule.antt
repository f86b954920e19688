-- One layer of the table from the next, of a line and the codings that may be chosen in the interval between them: no job, no pins (document 01, "The best plan"). Then layers made anew in a list, of a job with the choices that are open.
use Rattle.std.specs.Prelude.{ℕ, zero, suc, ◌*◌, List, ◌++◌, length, get_or, take, drop, if◌then◌else◌}
use Rattle.std.proofs.Math.Option.{Option, none, some}
use Rattle.trellis.specs.Table.{lowest, offered}
use Rattle.trellis.specs.Limit.{keeps_to, only}
use Rattle.trellis.specs.Pairs.{Pair, pair}
use Rattle.model.specs.Job.{Line, Coding, Levels, Job, coding}
use Rattle.base.specs.Lists.{build}
use Rattle.model.specs.Pins.{pin_at}
use Rattle.model.specs.Step.{outcome_of, pin_held}
use Rattle.model.specs.Best.{late, pairs, entry, width, reached, Open}
use Rattle.model.specs.Table.{mark, bound, layer_words, state_at, layer_of, word_in}

-- the coding of each choice, none where a pin or a limit rules the choice out
abbrev pub Allowed : Type 0
Allowed = ℕ → Option Coding

-- over how a distortion and what follows it combine: by their sum, or by the larger of the two (document 02, E7)
module _ (◌⊕◌ : ℕ → ℕ → ℕ) where
  -- what an interval that sends c and decodes this coding offers to a state: the coding's distortion and the word of the levels that it leads to, or the mark. Pins and limit are in the coding already
  unfoldable pub coding_offer : Line → (Levels → ℕ) → Levels → ℕ → Option Coding → ℕ
  coding_offer line W s c none = mark
  coding_offer line W s c (some k) = offered mark bound ◌⊕◌ k.distortion (reached (outcome_of line none none s.decoder s.buckets c k.size)) W

  -- of a rate index and a choice index
  unfoldable pub pair_offer : Line → Allowed → (Levels → ℕ) → Levels → Pair → ℕ
  pair_offer line allowed W s a = coding_offer line W s (get_or line.rates a.outer 0) (allowed a.inner)

  -- a state's word: the least that the rates and n choices offer
  unfoldable pub least_offer : Line → ℕ → Allowed → (Levels → ℕ) → Levels → ℕ
  least_offer line n allowed W s = lowest mark (pair_offer line allowed W s) (pairs late (length line.rates) n)

  -- a layer's words, from those of the next
  unfoldable pub layer_from : Line → ℕ → Allowed → List ℕ → List ℕ
  layer_from line n allowed next = build (layer_words line) (λ i. least_offer line n allowed (word_in line next) (state_at line i))

-- the choice that an index names in interval t, and its coding where the pin of the interval is held and the limit, if there is one, is kept
unfoldable pub choice_in : Job → ℕ → ℕ → Option ℕ
choice_in j t x = (entry j t (pair 0 x)).choice

unfoldable pub allowed_in : Job → Open → ℕ → Allowed
allowed_in j k t x =
    if pin_held (pin_at j k.pins t) (choice_in j t x)
    then only (keeps_to k.limit (coding j t (choice_in j t x)).distortion) (some (coding j t (choice_in j t x)))
    else none

module _ (◌⊕◌ : ℕ → ℕ → ℕ) (j : Job) (k : Open) where
  -- a list in which the words of the layer after interval t are made anew from those of the next layer, whatever they are; every other word is kept
  unfoldable pub refill : ℕ → List ℕ → List ℕ
  refill t table =
      take (t * layer_words j.line) table
      ++ (layer_from ◌⊕◌ j.line (width j (suc t)) (allowed_in j k (suc t)) (layer_of j.line table (suc t))
      ++ drop (suc t * layer_words j.line) table)

  -- n layers made anew, from that of t on: the last of them first, and each from the next
  unfoldable pub refilled : ℕ → ℕ → List ℕ → List ℕ
  refilled t zero table = table
  refilled t (suc n) table = refill t (refilled (suc t) n table)
