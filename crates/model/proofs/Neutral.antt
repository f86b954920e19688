-- A neutral bucket in front of a line's buckets changes nothing: the words of a layer, the places of states and an interval's outcome are those of the line without it.
use Prim.Native.Nat.{ℕ, suc, ◌+◌, ◌-◌, ◌%◌, ◌<◌, ◌≤◌}
use mathlib.Core.Path.{◌≡◌, refl}
use mathlib.Core.Bool.{Bool, true, false}
use mathlib.Core.Option.{Option, none, some, map}
use mathlib.Core.List.{List, ◌∷◌, zip_with}
use native.Mathlib.Nat.{one-mul, div-eq_of_lt, mod-eq_of_lt, mod-lt}
use native.Mathlib.Omega.{arith}
use lib.IntN.{pos, nat_abs, ◌+ℤ◌, ◌-ℤ◌}
use lib.Signed.{lt_z, non_neg}
use Rattle.std.specs.Prelude.{if◌then◌else◌}
use Rattle.model.specs.Job.{Line, Levels}
use Rattle.model.specs.Admissible.{breaks, holds, verify, decoder_overflow, decoder_underflow, pin_not_held}
use Rattle.model.specs.Step.{Outcome, violates, reaches, decoder_step, bucket_step, after_sending, overfull, pin_held, or_overflow, after_decoder, outcome_of}
use Rattle.model.specs.Best.{reached}
use Rattle.model.specs.Table.{sizes, tops, flat, span, place, levels_at, layer_words, state_at, word_in}
use Rattle.model.proofs.Places.{span_positive}
use Rattle.model.specs.Neutral.{neutral, fronted, front, front_violation, front_outcome}

module _ (drain : ℕ) (line : Line) where
  pub words_same : layer_words (fronted drain line) ≡ layer_words line
  unfolding fronted neutral tops span
  words_same = rw (one-mul (span (sizes line)))

  pub place_same : (s : Levels) → place (tops (fronted drain line)) (flat (front s)) ≡ place (tops line) (flat s)
  unfolding fronted neutral front tops flat span place
  place_same s = rw (one-mul (span (sizes line))) (omega arith)

  pub state_same : (i : ℕ) → state_at (fronted drain line) i ≡ front (state_at line i)
  unfolding fronted neutral front state_at span levels_at
  state_same i =
      let S : ℕ = span (sizes line) in
      let h : i % S < S = mod-lt i (span_positive (sizes line)) in
      rw (one-mul (span (sizes line)), div-eq_of_lt h, mod-eq_of_lt h) refl

  pub word_same : (next : List ℕ) (s : Levels) → word_in (fronted drain line) next (front s) ≡ word_in line next s
  unfolding word_in
  word_same next s = rw (place_same s)

  module _ (c : ℕ) (h : c ≤ drain) where
    -- the bucket stays empty
    pub after_sending_same : (ls : List ℕ) → after_sending c (neutral drain ∷ line.buckets) (0 ∷ ls) ≡ 0 ∷ after_sending c line.buckets ls
    unfolding after_sending neutral bucket_step zip_with
    after_sending_same ls = let z : (0 + c) - drain ≡ 0 = omega arith in rw z

    pub overfull_same : (ls : List ℕ) → overfull (neutral drain ∷ line.buckets) (0 ∷ ls) ≡ map suc (overfull line.buckets ls)
    unfolding overfull neutral
    overfull_same ls = refl

    pub outcome_same : (pinned choice : Option ℕ) (b : ℕ) (ls : List ℕ) (r : ℕ) → outcome_of (fronted drain line) pinned choice b (0 ∷ ls) c r ≡ front_outcome (outcome_of line pinned choice b ls c r)
    unfolding outcome_of fronted decoder_step verify
    outcome_same pinned choice b ls r =
        rw (after_sending_same ls, overfull_same (after_sending c line.buckets ls))
        (go (lt_z (pos line.decoder) (pos b +ℤ pos c)) (non_neg ((pos b +ℤ pos c) -ℤ pos r)) (overfull line.buckets (after_sending c line.buckets ls)) (pin_held pinned choice))
      where
        go : (over short : Bool) (o : Option ℕ) (held : Bool) → after_decoder (if over then breaks decoder_overflow else if short then holds (nat_abs ((pos b +ℤ pos c) -ℤ pos r)) else breaks decoder_underflow) (λ d. or_overflow (map suc o) (if held then reaches (record { decoder = d; buckets = 0 ∷ after_sending c line.buckets ls }) else violates pin_not_held)) ≡ front_outcome (after_decoder (if over then breaks decoder_overflow else if short then holds (nat_abs ((pos b +ℤ pos c) -ℤ pos r)) else breaks decoder_underflow) (λ d. or_overflow o (if held then reaches (record { decoder = d; buckets = after_sending c line.buckets ls }) else violates pin_not_held)))
        go true short o held = unfold after_decoder front_outcome front_violation in refl
        go false false o held = unfold after_decoder front_outcome front_violation in refl
        go false true (some i) held = unfold after_decoder or_overflow front_outcome front_violation in refl
        go false true none true = unfold after_decoder or_overflow front_outcome front in refl
        go false true none false = unfold after_decoder or_overflow front_outcome front_violation in refl

    pub reached_same : (s : Levels) (r : ℕ) → reached (outcome_of (fronted drain line) none none s.decoder (0 ∷ s.buckets) c r) ≡ map front (reached (outcome_of line none none s.decoder s.buckets c r))
    reached_same s r = rw (outcome_same none none s.decoder s.buckets r) (go (outcome_of line none none s.decoder s.buckets c r))
      where
        go : (o : Outcome) → reached (front_outcome o) ≡ map front (reached o)
        go (violates v) = unfold reached front_outcome in refl
        go (reaches u) = unfold reached front_outcome in refl
