-- Limits of a list that is looked at from its front: what is left to check, as a loop goes through it.
use Prim.Native.Nat.{ℕ, suc, ◌+◌, ◌<◌, ◌≤◌}
use mathlib.Core.Path.{◌≡◌, refl, ◌∙◌}
use mathlib.Core.Bool.{true, false}
use mathlib.Core.Option.{Option, none, some}
use mathlib.Core.List.{List, ◌∷◌}
use native.Mathlib.Numerals.{add-one}
use lib.ListN.{length, get_or, drop, drop_of_length-le}
use lib.Seq.{drop-cons}
use Rattle.model.specs.Job.{Coding, nothing}
use Rattle.format.specs.Limits.{kept, both_kept, broken}
use Rattle.format.specs.JobBytes.{rate_limit, rate_limits, size_limit, distortion_limit, coding_limits}
use Rattle.format.proofs.Limits.{broken_step, broken_here, broken_both, broken_either}

module _ (rates : List ℕ) where
  -- the rates from the i-th on, the first at least low
  unfoldable pub rates_left : ℕ → ℕ → Option ℕ
  rates_left low i = broken (rate_limits low (drop i rates))

  -- at the start all are left, at the end none
  pub rates_start : broken (rate_limits 0 rates) ≡ rates_left 0 0
  unfolding rates_left
  rates_start = refl

  pub rates_end : (low i : ℕ) → length rates ≤ i → rates_left low i ≡ none
  unfolding rates_left broken
  rates_end low i h = rw (drop_of_length-le rates h)

  -- the i-th rate is r
  module _ (low i : ℕ) (h : i < length rates) (r : ℕ) (e : r ≡ get_or rates i 0) where
    opened : rates_left low i ≡ broken (rate_limit low r ∷ rate_limits (suc r) (drop (i + 1) rates))
    unfolding rates_left
    opened = rw (drop-cons rates i 0 h, ← e, add-one i)

    -- it is passed: the next is at least one more
    pub rates_step : kept (rate_limit low r) ≡ true → rates_left low i ≡ rates_left (r + 1) (i + 1)
    unfolding rates_left
    rates_step t = opened ∙ broken_step _ _ t ∙ rw (add-one r)

    -- it is refused
    pub rates_here : kept (rate_limit low r) ≡ false → rates_left low i ≡ some 4
    rates_here t = opened ∙ broken_here _ _ t

module _ (codings : List Coding) where
  -- the codings from the x-th on
  unfoldable pub codings_left : ℕ → Option ℕ
  codings_left x = broken (coding_limits (drop x codings))

  pub codings_start : broken (coding_limits codings) ≡ codings_left 0
  unfolding codings_left
  codings_start = refl

  pub codings_end : (x : ℕ) → length codings ≤ x → codings_left x ≡ none
  unfolding codings_left broken
  codings_end x h = rw (drop_of_length-le codings h)

  -- the x-th coding has the size s and the distortion d
  module _ (x : ℕ) (h : x < length codings) (s d : ℕ) (e : get_or codings x nothing ≡ record { size = s; distortion = d }) where
    opened_coding : codings_left x ≡ broken (size_limit s ∷ distortion_limit d ∷ coding_limits (drop (x + 1) codings))
    unfolding codings_left
    opened_coding = rw (drop-cons codings x nothing h, e, add-one x)

    -- it is passed
    pub codings_step : both_kept (size_limit s) (distortion_limit d) ≡ true → codings_left x ≡ codings_left (x + 1)
    unfolding codings_left
    codings_step t = opened_coding ∙ broken_both _ _ _ t

    -- it is refused
    pub codings_here : both_kept (size_limit s) (distortion_limit d) ≡ false → codings_left x ≡ some 5
    codings_here t = opened_coding ∙ broken_either _ _ _ refl t
