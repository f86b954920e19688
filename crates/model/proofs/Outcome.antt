-- An interval's outcome, from natural levels, is what the limits ask for.
use Prim.Native.Nat.{ℕ}
use mathlib.Core.Path.{◌≡◌, refl}
use mathlib.Core.Option.{Option}
use mathlib.Core.List.{List}
use lib.IntN.{pos, ◌+ℤ◌, ◌-ℤ◌}
use Rattle.model.specs.Job.{Line, Levels}
use Rattle.std.specs.Prelude.{if◌then◌else◌}
use Rattle.model.specs.Admissible.{Violation, pin_not_held, Decoded, breaks, holds, verify, AllWithin, Ending, Verified, Sound, Violates, unverified, bucket, unpinned, Shows}
use Rattle.model.specs.Step.{Outcome, violates, reaches, decoder_step, after_sending, overfull, pin_held, or_overflow, after_decoder, outcome_of}
use Rattle.model.proofs.Decoder.{verified_level}
use Rattle.model.proofs.Tests.{FirstOver, no_one, this, overfull_finds, held_true, held_false}
use Rattle.base.proofs.Tests.{branch}

module _ (line : Line) (x : Ending) where
  pub data Judged : Outcome → Type 0 where
    good : {l : Levels} → Sound line x → Shows x l → Judged (reaches l)
    bad : {v : Violation} → Violates line x v → Judged (violates v)

module _ {line : Line} {x : Ending} where
  judged_pin : {l : Levels} → Verified line x → AllWithin line.buckets x.buckets → Shows x l → Judged line x (if pin_held x.pinned x.choice then reaches l else violates pin_not_held)
  judged_pin r w s =
      branch (Judged line x) (pin_held x.pinned x.choice)
      (λ e. good (record { decoder = r; buckets = w; pin = held_true x.pinned x.choice e }) s)
      (λ e. bad (unpinned r w (held_false e)))

  judged_bucket : {o : Option ℕ} {y : Outcome} → Verified line x → FirstOver line.buckets x.buckets o → (AllWithin line.buckets x.buckets → Judged line x y) → Judged line x (or_overflow o y)
  unfolding or_overflow
  judged_bucket r (no_one w) f = f w
  judged_bucket r (this b w g) f = bad (bucket r b w g)

-- b and ls are the levels before, c is sent and r decoded
module _ (line : Line) (pinned choice : Option ℕ) (b : ℕ) (ls : List ℕ) (c r : ℕ) where
  abbrev step_ending : Ending
  step_ending = record { peak = pos b +ℤ pos c; decoder = (pos b +ℤ pos c) -ℤ pos r; buckets = after_sending c line.buckets ls; pinned = pinned; choice = choice }

  pub outcome_judged : Judged line step_ending (outcome_of line pinned choice b ls c r)
  unfolding outcome_of after_decoder decoder_step
  outcome_judged = go (decoder_step line.decoder b c r) refl
    where
      x : Ending
      x = step_ending

      go : (o : Decoded) → verify line.decoder x.peak x.decoder ≡ o → Judged line x (after_decoder o (λ d. or_overflow (overfull line.buckets x.buckets) (if pin_held pinned choice then reaches (record { decoder = d; buckets = x.buckets }) else violates pin_not_held)))
      go (breaks v) e = bad (unverified e)
      go (holds d) e = judged_bucket (d, e) (overfull_finds line.buckets x.buckets) (λ w. judged_pin (d, e) w (record { decoder = verified_level line.decoder x.peak x.decoder d e; buckets = refl }))
