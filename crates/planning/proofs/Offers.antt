-- The rule of a line and the codings that may be chosen is the rule of the job's trellis.
use Prim.Native.Nat.{ℕ, suc, ◌<◌}
use mathlib.Core.Path.{◌≡◌, refl, sym, ◌∙◌, ap}
use mathlib.Core.Bool.{Bool, true, false}
use mathlib.Core.Option.{Option, none, some, map, none-ne-some}
use mathlib.Core.List.{List}
use lib.Dec.{leb}
use lib.ListN.{length, get_or}
use Rattle.trellis.specs.Limit.{keeps_to, only, limited}
use Rattle.trellis.specs.Pairs.{Pair}
use Rattle.trellis.specs.Table.{first_at, offered, marked_offer, marked_stage}
use Rattle.trellis.proofs.Congruence.{lowest_cong, lowest_map, first_at_cong, first_at_map, offered_cong}
use Rattle.std.specs.Prelude.{if◌then◌else◌}
use Rattle.model.specs.Job.{Line, Coding, Levels, Job, coding, sends, takes, distorts}
use Rattle.model.specs.Pins.{pin_at}
use Rattle.model.specs.Step.{decoder_step, after_sending, overfull, pin_held, or_overflow, after_decoder, outcome_of, outcome, reaches, violates}
use Rattle.model.specs.Admissible.{pin_not_held, Decoded, breaks, holds}
use Rattle.model.specs.Best.{Order, late, pairs, entry, width, entries, reached, all_walks, Open, trellis_of}
use Rattle.model.specs.Table.{mark, bound, InLayer, layer_words, state_at, word_in}
use Rattle.model.proofs.Entries.{pairs_member}
use Rattle.base.proofs.Builds.{build_cong}
use Rattle.model.proofs.Places.{state_in_layer}
use Rattle.model.proofs.Walks.{reached_some}
use Rattle.model.proofs.Steps.{outcome_closed}
use Rattle.planning.specs.Rule.{Allowed, coding_offer, pair_offer, least_offer, layer_from, choice_in, allowed_in}

-- a step with a pin: where the pin is held, the step without pins
reached_pinned : (line : Line) (pinned choice : Option ℕ) (b : ℕ) (ls : List ℕ) (c r : ℕ) → reached (outcome_of line pinned choice b ls c r) ≡ (if pin_held pinned choice then reached (outcome_of line none none b ls c r) else none)
unfolding outcome_of reached after_decoder or_overflow pin_held
reached_pinned line pinned choice b ls c r = go (decoder_step line.decoder b c r) (overfull line.buckets (after_sending c line.buckets ls)) (pin_held pinned choice)
  where
    go : (d : Decoded) (o : Option ℕ) (t : Bool) → reached (after_decoder d (λ x. or_overflow o (if t then reaches (record { decoder = x; buckets = after_sending c line.buckets ls }) else violates pin_not_held))) ≡ (if t then reached (after_decoder d (λ x. or_overflow o (reaches (record { decoder = x; buckets = after_sending c line.buckets ls })))) else none)
    go (breaks v) o true = refl
    go (breaks v) o false = refl
    go (holds x) none true = refl
    go (holds x) none false = refl
    go (holds x) (some i) true = refl
    go (holds x) (some i) false = refl

module _ (◌⊕◌ : ℕ → ℕ → ℕ) (j : Job) (m : Open) (t : ℕ) (W : Levels → ℕ) (s : Levels) where
  -- of each pair
  offer_is : (o : Order) (a : Pair) → marked_offer (trellis_of j m o) ◌⊕◌ mark bound t W s (entry j (suc t) a) ≡ pair_offer ◌⊕◌ j.line (allowed_in j m (suc t)) W s a
  unfolding marked_offer trellis_of all_walks limited outcome pair_offer allowed_in choice_in entry sends takes distorts
  offer_is o a =
      let x = (if leb' then none else some a.inner) in
      ap (λ (u : Option Levels). offered mark bound ◌⊕◌ (coding j (suc t) x).distortion (only (keeps_to m.limit (coding j (suc t) x).distortion) u) W) (reached_pinned j.line (pin_at j m.pins (suc t)) x s.decoder s.buckets (get_or j.line.rates a.outer 0) (coding j (suc t) x).size)
      ∙ go x (pin_held (pin_at j m.pins (suc t)) x) (keeps_to m.limit (coding j (suc t) x).distortion)
    where
      leb' : Bool
      leb' = leb (suc t) j.delay

      go : (x : Option ℕ) (p l : Bool) → offered mark bound ◌⊕◌ (coding j (suc t) x).distortion (only l (if p then reached (outcome_of j.line none none s.decoder s.buckets (get_or j.line.rates a.outer 0) (coding j (suc t) x).size) else none)) W ≡ coding_offer ◌⊕◌ j.line W s (get_or j.line.rates a.outer 0) (if p then only l (some (coding j (suc t) x)) else none)
      go x true true = unfold only coding_offer in refl
      go x true false = unfold only coding_offer offered in refl
      go x false true = unfold only coding_offer offered in refl
      go x false false = unfold only coding_offer offered in refl

  -- the least, and the first that offers a number
  pub stage_is : marked_stage (trellis_of j m late) ◌⊕◌ mark bound t W s ≡ least_offer ◌⊕◌ j.line (width j (suc t)) (allowed_in j m (suc t)) W s
  unfolding marked_stage trellis_of all_walks limited entries least_offer
  stage_is =
      let ps = pairs late (length j.line.rates) (width j (suc t)) in
      lowest_map (entry j (suc t)) mark (marked_offer (trellis_of j m late) ◌⊕◌ mark bound t W s) ps
      ∙ lowest_cong mark (λ a. marked_offer (trellis_of j m late) ◌⊕◌ mark bound t W s (entry j (suc t) a)) (pair_offer ◌⊕◌ j.line (allowed_in j m (suc t)) W s) ps (λ a k. offer_is late a)

  pub first_is : (o : Order) (v : ℕ) → first_at (marked_offer (trellis_of j m o) ◌⊕◌ mark bound t W s) v (entries o j (suc t)) ≡ map (entry j (suc t)) (first_at (pair_offer ◌⊕◌ j.line (allowed_in j m (suc t)) W s) v (pairs o (length j.line.rates) (width j (suc t))))
  unfolding entries
  first_is o v =
      let ps = pairs o (length j.line.rates) (width j (suc t)) in
      first_at_map (entry j (suc t)) (marked_offer (trellis_of j m o) ◌⊕◌ mark bound t W s) v ps
      ∙ ap (map (entry j (suc t))) (first_at_cong (λ a. marked_offer (trellis_of j m o) ◌⊕◌ mark bound t W s (entry j (suc t) a)) (pair_offer ◌⊕◌ j.line (allowed_in j m (suc t)) W s) v ps (λ a k. offer_is o a))

-- offers read only the words of states in the layer, and only the choices that there are
module _ (◌⊕◌ : ℕ → ℕ → ℕ) (line : Line) (n : ℕ) (a b : Allowed) (W L : Levels → ℕ) (s : Levels) (inside : InLayer line s) (same : (x : ℕ) → x < n → a x ≡ b x) (words : (u : Levels) → InLayer line u → W u ≡ L u) where
  coding_offer_cong : (c : ℕ) (k : Option Coding) → coding_offer ◌⊕◌ line W s c k ≡ coding_offer ◌⊕◌ line L s c k
  unfolding coding_offer
  coding_offer_cong c none = refl
  coding_offer_cong c (some k) = offered_cong mark bound ◌⊕◌ k.distortion (reached (outcome_of line none none s.decoder s.buckets c k.size)) W L (λ u e. words u (outcome_closed line none none c k.size s u inside e))

  pair_offer_cong : (p : Pair) → p.inner < n → pair_offer ◌⊕◌ line a W s p ≡ pair_offer ◌⊕◌ line b L s p
  unfolding pair_offer
  pair_offer_cong p l = rw (same p.inner l) (coding_offer_cong (get_or line.rates p.outer 0) (b p.inner))

  pub least_offer_cong : least_offer ◌⊕◌ line n a W s ≡ least_offer ◌⊕◌ line n b L s
  unfolding least_offer
  least_offer_cong = lowest_cong mark (pair_offer ◌⊕◌ line a W s) (pair_offer ◌⊕◌ line b L s) (pairs late (length line.rates) n) (λ p k. pair_offer_cong p (pairs_member late (length line.rates) n p k).1)

  pub first_offer_cong : (o : Order) (v : ℕ) → first_at (pair_offer ◌⊕◌ line a W s) v (pairs o (length line.rates) n) ≡ first_at (pair_offer ◌⊕◌ line b L s) v (pairs o (length line.rates) n)
  first_offer_cong o v = first_at_cong (pair_offer ◌⊕◌ line a W s) (pair_offer ◌⊕◌ line b L s) v (pairs o (length line.rates) n) (λ p k. pair_offer_cong p (pairs_member o (length line.rates) n p k).1)

-- a layer, of two ways to write the same codings
pub layer_from_cong : (◌⊕◌ : ℕ → ℕ → ℕ) (line : Line) (n : ℕ) (a b : Allowed) (next : List ℕ) → ((x : ℕ) → x < n → a x ≡ b x) → layer_from ◌⊕◌ line n a next ≡ layer_from ◌⊕◌ line n b next
unfolding layer_from
layer_from_cong ◌⊕◌ line n a b next same = build_cong (layer_words line) _ _ (λ i h. least_offer_cong ◌⊕◌ line n a b (word_in line next) (word_in line next) (state_at line i) (state_in_layer line i h) same (λ u k. refl))

-- a step that reaches levels holds its pin, and is the step without pins
pub held_step : (line : Line) (pinned choice : Option ℕ) (b : ℕ) (ls : List ℕ) (c r : ℕ) (u : Levels) → outcome_of line pinned choice b ls c r ≡ reaches u → (pin_held pinned choice ≡ true) × (outcome_of line none none b ls c r ≡ reaches u)
unfolding reached
held_step line pinned choice b ls c r u e = go (pin_held pinned choice) refl (sym (reached_pinned line pinned choice b ls c r) ∙ ap reached e)
  where
    go : (t : Bool) → pin_held pinned choice ≡ t → (if t then reached (outcome_of line none none b ls c r) else none) ≡ some u → (pin_held pinned choice ≡ true) × (outcome_of line none none b ls c r ≡ reaches u)
    go true p q = (p, reached_some (outcome_of line none none b ls c r) u q)
    go false p q = absurd (none-ne-some u q)
