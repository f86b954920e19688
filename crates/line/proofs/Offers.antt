-- What a choice offers, from what the interval does.
use Prim.Native.Nat.{ℕ, ◌+◌, ◌<◌}
use mathlib.Core.Path.{◌≡◌, refl, sym, ◌∙◌}
use mathlib.Core.Bool.{Bool, true, false}
use mathlib.Core.Option.{none}
use lib.ListN.{length}
use Rattle.trellis.specs.Table.{offered}
use Rattle.model.specs.Job as model
use Rattle.model.specs.Admissible.{Violation}
use Rattle.model.specs.Step.{violates, reaches, outcome_of}
use Rattle.model.specs.Best.{reached}
use Rattle.model.specs.Table.{mark, layer_words, tops, flat, place}
use Rattle.model.proofs.Places.{layer_each, place_below}
use Rattle.model.proofs.Steps.{reaches_in_layer}
use Rattle.format.proofs.Choices.{of_mark}
use Rattle.interval.specs.declared.Levels.{Levels}
use Rattle.interval.specs.declared.Interval.{Interval}
use Rattle.interval.specs.Answers.{levels_of, line_of}
use Rattle.planning.specs.Rule.{coding_offer}
use Rattle.planning.specs.Passes.{charged}
use Rattle.line.specs.declared.Line.{Line}
use Rattle.line.specs.Answers.{line_is, IntervalOf, step_of}
use Rattle.decoder.specs.Answers.{coding_if}

-- a choice that the pin rules out
pub barred_offers : (line : model.Line) (W : model.Levels → ℕ) (s : model.Levels) (sent : ℕ) (free : Bool) (size distortion : ℕ) → free ≡ false → mark ≡ coding_offer ◌+◌ line W s sent (coding_if free size distortion)
unfolding coding_offer coding_if
barred_offers line W s sent free size distortion e = rw e

module _ (l : Line) (from : Levels) (sent size distortion : ℕ) (x : Interval) (is : IntervalOf sent size distortion x) where
  -- no step looks at the rates
  pub line_steps : step_of l.buffers from x ≡ outcome_of (line_is l) none none (levels_of from).decoder (levels_of from).buckets sent size
  unfolding step_of outcome_of line_of line_is levels_of
  line_steps = rw (is.sent_is, is.size_is, is.no_pin, is.no_unit, of_mark) refl

  pub reached_below : (to : Levels) → length (levels_of from).buckets ≡ length (line_is l).buckets → step_of l.buffers from x ≡ reaches (levels_of to) → place (tops (line_is l)) (flat (levels_of to)) < layer_words (line_is l)
  reached_below to n h = place_below (layer_each (reaches_in_layer (line_is l) none none sent size (levels_of from) (levels_of to) n (sym line_steps ∙ h)))

  -- a choice that it leaves open
  module _ (W : model.Levels → ℕ) (free : Bool) (e : free ≡ true) where
    pub violation_offers : (v : Violation) → step_of l.buffers from x ≡ violates v → mark ≡ coding_offer ◌+◌ (line_is l) W (levels_of from) sent (coding_if free size distortion)
    unfolding coding_offer coding_if offered reached
    violation_offers v h = rw (e, sym line_steps ∙ h)

    pub reached_offers : (to : Levels) → step_of l.buffers from x ≡ reaches (levels_of to) → charged ◌+◌ distortion (W (levels_of to)) ≡ coding_offer ◌+◌ (line_is l) W (levels_of from) sent (coding_if free size distortion)
    unfolding coding_offer coding_if offered reached charged
    reached_offers to h = rw (e, sym line_steps ∙ h)
