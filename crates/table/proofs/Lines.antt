-- A layer is filled by the crate `layer`, of a line with two buckets or with a neutral one in front, from the least distortion of each size.
use Prim.Native.Nat.{ℕ, ◌≤◌, ◌<◌}
use mathlib.Core.Path.{◌≡◌, refl, ◌∙◌, ap}
use mathlib.Core.Option.{Option, some, some-injective, none-ne-some}
use mathlib.Core.List.{List, ◌++◌}
use native.Mathlib.Omega.{arith}
use lib.ListN.{length, get_or, take, drop, length-take}
use lib.Seq.{get_or-take}
use lib.Dec.{eqb}
use borrow.Author.Tests.{eqb-false}
use Rattle.base.proofs.Tests.{branch}
use Rattle.trellis.specs.Limit.{keeps_to}
use Rattle.trellis.proofs.Limit.{only_some}
use Rattle.model.specs.Job as model
use Rattle.model.specs.Step.{pin_held}
use Rattle.model.specs.Table.{layer_words}
use Rattle.format.specs.Choices.{choice_of}
use Rattle.format.specs.Places.{coding_at}
use Rattle.format.specs.JobBytes.{Header}
use Rattle.planning.specs.Rule.{layer_from}
use Rattle.interval.specs.Answers.{line_of}
use Rattle.sender.specs.declared.Line as layer_line
use Rattle.decoder.specs.declared.Measure.{Measure}
use Rattle.decoder.specs.Answers.{combine, priced}
use Rattle.planning.specs.Prices.{price_at}
use Rattle.sender.specs.Answers as layer_answers
use Rattle.block.specs.Blocks.{LeastOf}
use Rattle.model.proofs.Neutral.{words_same}
use Rattle.layer.proofs.Prices.{prices_stand, layer_stands}
use Rattle.line.specs.declared.Line.{Line}
use Rattle.table.specs.declared.Choices.{Choices}
use Rattle.line.specs.Answers.{line_is, LineFits, FilledAs, itself, behind_one, LayerLine}
use Rattle.table.specs.Answers.{limit_of, allowed_is, ChoicesFit}

-- an open choice has its distortion
open_small : (b : List ℕ) (h : Header) (c : Choices) → ChoicesFit b h c → (x : ℕ) (k : model.Coding) → x < c.count → allowed_is b h c x ≡ some k → k.distortion ≤ 512000000
unfolding allowed_is
open_small b h c g x k l =
    branch (λ (o : Option model.Coding). o ≡ some k → k.distortion ≤ 512000000) (eqb c.unit 0)
    (λ _ r. rw (← some-injective model.nothing k r) (omega arith))
    (λ q. branch (λ (o : Option model.Coding). o ≡ some k → k.distortion ≤ 512000000) (pin_held (choice_of c.pin) (choice_of x))
    (λ _ r. rw (← some-injective (coding_at b h c.unit x) k (only_some (keeps_to (limit_of c.limit) (coding_at b h c.unit x).distortion) _ k r).1) (omega (arith, g.small (eqb-false c.unit 0 q) x l)))
    (λ _ r. absurd (none-ne-some k r)))

module _ (l : Line) (r : layer_line.Line) (a : LayerLine l r) where
  words_so : FilledAs (line_is l) (layer_answers.line_is r) → layer_words (layer_answers.line_is r) ≡ layer_words (line_is l)
  words_so (itself e) = ap (λ (k : model.Line). layer_words k) e
  words_so (behind_one e) = ap (λ (k : model.Line). layer_words k) e ∙ words_same 4095 (line_is l)

  pub same_words : layer_words (layer_answers.line_is r) ≡ layer_words (line_is l)
  same_words = words_so a.is

  pub layer_made : (measure : Measure) → LineFits l → (b : List ℕ) (h : Header) (c : Choices) → ChoicesFit b h c → (part new prices : List ℕ) → LeastOf 256 c.count (λ s x. price_at s (allowed_is b h c x)) prices → new ≡ layer_from (combine measure) (layer_answers.line_is r) 256 (priced prices) (take (layer_words (layer_answers.line_is r)) (drop (layer_words (layer_answers.line_is r)) part)) ++ drop (layer_words (layer_answers.line_is r)) part → new ≡ layer_from (combine measure) (line_is l) c.count (allowed_is b h c) (take (layer_words (line_is l)) (drop (layer_words (line_is l)) part)) ++ drop (layer_words (line_is l)) part
  layer_made measure f b h c g part new prices p e =
      e ∙ rw (same_words, so a.is (take (layer_words (line_is l)) (drop (layer_words (line_is l)) part))) refl
    where
      decoder : (line_is l).decoder ≤ 255
      decoder = unfold line_is line_of in f.buffers.decoder

      rates : (y : ℕ) → y < length (line_is l).rates → get_or (line_is l).rates y 0 ≤ 4095
      rates y k = unfold line_is line_of in (let h : y < l.count = omega (arith, length-take l.count l.rates) in rw (get_or-take l.count l.rates y 0 h) (f.rate y h))

      small : (x : ℕ) (k : model.Coding) → x < c.count → allowed_is b h c x ≡ some k → k.distortion ≤ 512000000
      small x k l t = open_small b h c g x k l t

      so : FilledAs (line_is l) (layer_answers.line_is r) → (next : List ℕ) → layer_from (combine measure) (layer_answers.line_is r) 256 (priced prices) next ≡ layer_from (combine measure) (line_is l) c.count (allowed_is b h c) next
      so (itself q) next = ap (λ (k : model.Line). layer_from (combine measure) k 256 (priced prices) next) q ∙ prices_stand measure (line_is l) c.count (allowed_is b h c) prices next decoder p (λ x k h t. small x k h t)
      so (behind_one q) next = ap (λ (k : model.Line). layer_from (combine measure) k 256 (priced prices) next) q ∙ layer_stands measure 4095 (line_is l) c.count (allowed_is b h c) prices next rates decoder p (λ x k h t. small x k h t)
