-- A neutral bucket in front of a line's buckets leaves a layer's words as they are: `layer_same`.
use Prim.Native.Nat.{ℕ, ◌<◌, ◌≤◌}
use mathlib.Core.Path.{◌≡◌, refl, ◌∙◌, ap}
use mathlib.Core.Option.{Option, none, some, map}
use mathlib.Core.List.{List}
use lib.ListN.{length, get_or}
use Rattle.trellis.specs.Table.{offered}
use Rattle.trellis.proofs.Congruence.{lowest_cong}
use Rattle.model.specs.Job.{Line, Coding, Levels}
use Rattle.model.specs.Step.{outcome_of}
use Rattle.model.specs.Best.{late, pairs, reached}
use Rattle.model.specs.Table.{mark, bound, layer_words, state_at, word_in}
use Rattle.model.specs.Neutral.{fronted, front}
use Rattle.base.proofs.Builds.{build_cong}
use Rattle.model.proofs.Entries.{pairs_member}
use Rattle.model.proofs.Neutral.{words_same, state_same, word_same, reached_same}
use Rattle.planning.specs.Rule.{Allowed, coding_offer, pair_offer, least_offer, layer_from}

module _ (drain : ℕ) (line : Line) where
  offer_same : (c : ℕ) → c ≤ drain → (◌⊕◌ : ℕ → ℕ → ℕ) (next : List ℕ) (s : Levels) (k : Option Coding) → coding_offer ◌⊕◌ (fronted drain line) (word_in (fronted drain line) next) (front s) c k ≡ coding_offer ◌⊕◌ line (word_in line next) s c k
  unfolding coding_offer front
  offer_same c h ◌⊕◌ next s none = refl
  offer_same c h ◌⊕◌ next s (some k) = rw (reached_same drain line c h s k.size) (go (reached (outcome_of line none none s.decoder s.buckets c k.size)))
    where
      go : (o : Option Levels) → offered mark bound ◌⊕◌ k.distortion (map front o) (word_in (fronted drain line) next) ≡ offered mark bound ◌⊕◌ k.distortion o (word_in line next)
      go none = unfold offered in refl
      go (some u) = unfold offered in rw (word_same drain line next u)

  -- the layer from the next, where the bucket drains every rate
  pub layer_same : ((y : ℕ) → y < length line.rates → get_or line.rates y 0 ≤ drain) → (◌⊕◌ : ℕ → ℕ → ℕ) (n : ℕ) (allowed : Allowed) (next : List ℕ) → layer_from ◌⊕◌ (fronted drain line) n allowed next ≡ layer_from ◌⊕◌ line n allowed next
  unfolding layer_from least_offer
  layer_same h ◌⊕◌ n allowed next =
      rw (words_same drain line)
      (build_cong (layer_words line) _ _ (λ i k.
      ap (λ (s : Levels). least_offer ◌⊕◌ (fronted drain line) n allowed (word_in (fronted drain line) next) s) (state_same drain line i) ∙ each (state_at line i)))
    where
      each : (s : Levels) → least_offer ◌⊕◌ (fronted drain line) n allowed (word_in (fronted drain line) next) (front s) ≡ least_offer ◌⊕◌ line n allowed (word_in line next) s
      each s = unfold least_offer fronted pair_offer in lowest_cong mark _ _ (pairs late (length line.rates) n) (λ a k. offer_same (get_or line.rates a.outer 0) (h a.outer (pairs_member late (length line.rates) n a k).0) ◌⊕◌ next s (allowed a.inner))
