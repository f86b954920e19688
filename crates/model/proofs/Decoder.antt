-- What the decoder may do in an interval, in inequalities: with signs for any plan, in natural numbers for a step.
use Prim.Native.Nat.{ℕ, ◌+◌, ◌-◌, ◌<◌, ◌≤◌}
use mathlib.Core.Path.{◌≡◌, refl, sym, ◌∙◌}
use mathlib.Core.Bool.{Bool, true, false}
use mathlib.Core.Logic.{◌↔◌}
use native.Mathlib.Omega.{arith}
use borrow.Author.Tests.{ltb-true, ltb-false, leb-true, leb-false, lt-ltb, le-ltb, le-leb, lt-leb}
use lib.Dec.{leb, ltb}
use lib.IntN.{ℤ, pos, negsuc, nat_abs, ◌-ℤ◌}
use lib.Signed.{lt_z, non_neg, ◌≤ℤ◌, lt_z_yes, lt_z_no, clash_ℤ, yes_non_neg, pos-nat_abs}
use Rattle.std.specs.Prelude.{if◌then◌else◌}
use Rattle.model.specs.Levels.{decoder_peak}
use Rattle.model.specs.Admissible.{Violation, decoder_overflow, decoder_underflow, Decoded, breaks, holds, verify, ending}
use Rattle.model.specs.Step.{decoder_step}
use Rattle.model.specs.Claims.{DecoderClaim, DecoderRange, DecoderSteps}
use Rattle.model.proofs.Tests.{difference, shortfall}

pub breaks_or_holds : {v : Violation} {b : ℕ} → ◌≡◌ {A = Decoded} (breaks v) (holds b) → ⊥
breaks_or_holds e = let z : ◌≡◌ {A = ℕ} 0 1 = cc in omega arith

pub one_violation : {v w : Violation} → ◌≡◌ {A = Decoded} (breaks v) (breaks w) → v ≡ w
one_violation e = cc

over_or_short : ◌≡◌ {A = Violation} decoder_overflow decoder_underflow → ⊥
over_or_short e = let z : ◌≡◌ {A = ℕ} 0 1 = cc in omega arith

-- two tests in turn, and which they were from what they led to
abbrev tested : Bool → Bool → ℕ → Decoded
tested over kept n = if over then breaks decoder_overflow else if kept then holds n else breaks decoder_underflow

was_over : (s t : Bool) (n : ℕ) → tested s t n ≡ breaks decoder_overflow → s ≡ true
was_over true t n e = refl
was_over false true n e = absurd (breaks_or_holds (sym e))
was_over false false n e = absurd (over_or_short (sym (one_violation e)))

was_short : (s t : Bool) (n : ℕ) → tested s t n ≡ breaks decoder_underflow → (s ≡ false) × (t ≡ false)
was_short true t n e = absurd (over_or_short (one_violation e))
was_short false true n e = absurd (breaks_or_holds (sym e))
was_short false false n e = (refl, refl)

was_held : (s t : Bool) (n b : ℕ) → tested s t n ≡ holds b → (s ≡ false) × (t ≡ true) × (n ≡ b)
was_held true t n b e = absurd (breaks_or_holds e)
was_held false true n b e = (refl, refl, cc)
was_held false false n b e = absurd (breaks_or_holds e)

-- with signs
not_less : (a b : ℤ) → (lt_z a b ≡ false) ↔ (b ≤ℤ a)
not_less a b = (λ e. lt_z_no (rw e tt), λ h. go (lt_z a b) refl h)
  where
    go : (t : Bool) → lt_z a b ≡ t → b ≤ℤ a → lt_z a b ≡ false
    go true q h = absurd (clash_ℤ {a = a} {b = b} (lt_z_yes (rw q tt)) h)
    go false q h = q

natural : (z : ℤ) → (non_neg z ≡ true) ↔ (pos 0 ≤ℤ z)
natural z = (go z, back z)
  where
    back : (z : ℤ) → pos 0 ≤ℤ z → non_neg z ≡ true
    back (pos n) h = refl
    back (negsuc n) h = absurd (yes_non_neg h)

    go : (z : ℤ) → non_neg z ≡ true → pos 0 ≤ℤ z
    go (pos n) e = (not_less (pos n) (pos 0)).0 (le-ltb n 0 (omega arith))
    go (negsuc n) e = let y : ◌≡◌ {A = ℕ} 0 1 = cc in absurd (omega arith)

module _ (size : ℕ) (peak level : ℤ) where
  -- what the decoder holds is its level
  pub verified_level : (b : ℕ) → verify size peak level ≡ holds b → pos b ≡ level
  unfolding verify
  verified_level b e =
      let w = was_held (lt_z (pos size) peak) (non_neg level) (nat_abs level) b e in
      rw (← w.2) (pos-nat_abs level (rw w.1 tt))

  verified_iff : ((b : ℕ) × (verify size peak level ≡ holds b)) ↔ ((peak ≤ℤ pos size) × (pos 0 ≤ℤ level))
  unfolding verify
  verified_iff = (
    λ h. let w = was_held (lt_z (pos size) peak) (non_neg level) (nat_abs level) h.0 h.1 in
        ((not_less (pos size) peak).0 w.0, (natural level).0 w.1),
    λ h. (nat_abs level, rw ((not_less (pos size) peak).1 h.0, (natural level).1 h.1) refl),
  )

pub decoder_range : DecoderRange
unfolding ending decoder_peak
decoder_range j m s start p n = verified_iff _ _ _

-- in natural numbers
module _ (size b c r : ℕ) where
  step_tests : decoder_step size b c r ≡ tested (ltb size (b + c)) (leb r (b + c)) ((b + c) - r)
  unfolding decoder_step verify
  step_tests = go (leb r (b + c)) refl
    where
      go : (t : Bool) → leb r (b + c) ≡ t → tested (ltb size (b + c)) (non_neg (pos (b + c) -ℤ pos r)) (nat_abs (pos (b + c) -ℤ pos r)) ≡ tested (ltb size (b + c)) t ((b + c) - r)
      go true e = rw (difference (b + c) r (leb-true r (b + c) e)) refl
      go false e = rw (shortfall (b + c) r (leb-false r (b + c) e)) refl

  decoder_claim : DecoderClaim size b c r
  decoder_claim =
      record {
        over_iff = (λ e. ltb-true size (b + c) (was_over over kept n (sym step_tests ∙ e)), λ h. step_tests ∙ rw (lt-ltb size (b + c) h) refl);
        short_iff = (to_short, λ h. step_tests ∙ rw (le-ltb size (b + c) h.0, lt-leb r (b + c) h.1) refl);
        holds_iff = λ d. (to_held d, λ h. step_tests ∙ rw (le-ltb size (b + c) h.0, le-leb r (b + c) (omega (arith, h)), from_sum d h.1) refl);
      }
    where
      over : Bool
      over = ltb size (b + c)

      kept : Bool
      kept = leb r (b + c)

      n : ℕ
      n = (b + c) - r

      to_short : decoder_step size b c r ≡ breaks decoder_underflow → (b + c ≤ size) × (b + c < r)
      to_short e = let w = was_short over kept n (sym step_tests ∙ e) in (ltb-false size (b + c) w.0, leb-false r (b + c) w.1)

      to_held : (d : ℕ) → decoder_step size b c r ≡ holds d → (b + c ≤ size) × (d + r ≡ b + c)
      to_held d e =
          let w = was_held over kept n d (sym step_tests ∙ e) in
          let k = leb-true r (b + c) w.1 in
          let q = w.2 in
          (ltb-false size (b + c) w.0, omega (arith, k, q))

      from_sum : (d : ℕ) → d + r ≡ b + c → (b + c) - r ≡ d
      from_sum d e = omega arith

pub decoder_steps : DecoderSteps
decoder_steps size b c r = decoder_claim size b c r
