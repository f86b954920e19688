-- What a pin or a lift answers for a job that the set matches, from what each of its tests answered.
use Prim.Native.Nat.{ℕ, ◌-◌, ◌<◌, ◌≤◌}
use mathlib.Core.Path.{◌≡◌, sym, ◌∙◌, ap}
use mathlib.Core.Logic.{◌⊎◌, inl, inr}
use mathlib.Core.Bool.{Bool, true, false, not}
use mathlib.Core.List.{List, [], ◌∷◌}
use native.Mathlib.Omega.{arith}
use lib.Dec.{ltb, eqb}
use lib.ListN.{length, get_or}
use borrow.Author.Tests.{le-leb, lt-leb, lt-ltb, le-ltb, eq-eqb, ne_eqb}
use Rattle.base.specs.Refusals.{test, guarded}
use Rattle.base.proofs.Refusals.{guarded_past, guarded_here, guarded_last}
use Rattle.model.specs.Job.{Job, job_coding}
use Rattle.model.specs.Pins.{pin, lift, outside}
use Rattle.format.specs.JobBytes.{Header, job_in}
use Rattle.format.specs.Places.{coding_at}
use Rattle.format.proofs.Opened.{job_limits, looked_up, units_are, choices_are}
use Rattle.pinning.specs.Check.{Ready}
use Rattle.format.specs.Choices.{no_choice}
use Rattle.pinning.specs.PinSet.{PinSet}
use Rattle.pinning.specs.Calls.{refuse, take_in, with_pin, without_pin, pin_of, call_tests, called, call_in}
use Rattle.pinning.proofs.Inside.{inside}

-- a unit that is not in 1 to N
pub outside_low : (units u : ℕ) → u < 1 → true ≡ outside units u
unfolding outside
outside_low units u h = rw (lt-leb 1 u h)

pub outside_high : (units u : ℕ) → 1 ≤ u → ltb units u ≡ outside units u
unfolding outside
outside_high units u h = rw (le-leb 1 u h)

module _ (b : List ℕ) (h : Header) (s : PinSet) (r : Ready b h s) where
  abbrev J : Job
  J = job_in b

  abbrev N : length J.units ≡ h.units
  N = units_are b h r.opens

  abbrev M : J.choices ≡ h.choices
  M = choices_are b h r.opens

  module _ (u : ℕ) where
    -- the first test, of either call
    outside_is : (t : Bool) → outside h.units u ≡ t → not (outside (length J.units) u) ≡ not t
    outside_is t e = rw (N, e)

    pub pin_seven : (x : ℕ) → outside h.units u ≡ true → refuse s 7 ≡ call_in J s (pin u x)
    unfolding call_in call_tests
    pin_seven x e = sym (guarded_here (refuse s) _ _ _ (outside_is true e))

    pub lift_seven : outside h.units u ≡ true → refuse s 7 ≡ call_in J s (lift u)
    unfolding call_in call_tests
    lift_seven e = sym (guarded_here (refuse s) _ _ _ (outside_is true e))

    module _ (within : outside h.units u ≡ false) where
      pub place_below : (1 ≤ u) × (u - 1 < 512)
      place_below = let k = inside h.units u within in (k.0, omega (arith, N, (job_limits b h r.opens).units))

      pub pin_eight : (x : ℕ) → h.choices ≤ x → refuse s 8 ≡ call_in J s (pin u x)
      unfolding call_in call_tests
      pin_eight x c = sym (guarded_past (refuse s) _ _ _ (outside_is false within) ∙ guarded_here (refuse s) _ _ _ (le-ltb x J.choices (omega (arith, M))))

      pin_on : (x : ℕ) → x < h.choices → call_in J s (pin u x) ≡ guarded (refuse s) (test 9 (eqb (pin_of s u) no_choice) ∷ []) (take_in (called J s (pin u x)))
      unfolding call_in call_tests
      pin_on x c = guarded_past (refuse s) _ _ _ (outside_is false within) ∙ guarded_past (refuse s) _ _ _ (lt-ltb x J.choices (omega (arith, M)))

      lift_on : call_in J s (lift u) ≡ guarded (refuse s) (test 10 (not (eqb (pin_of s u) no_choice)) ∷ []) (take_in (called J s (lift u)))
      unfolding call_in call_tests
      lift_on = guarded_past (refuse s) _ _ _ (outside_is false within)

      pub pin_nine : (x : ℕ) → x < h.choices → (get_or s.pins (u - 1) 0 ≡ no_choice → ⊥) → refuse s 9 ≡ call_in J s (pin u x)
      pin_nine x c e = sym (pin_on x c ∙ guarded_here (refuse s) _ _ _ (ne_eqb (pin_of s u) no_choice e))

      pub lift_ten : get_or s.pins (u - 1) 0 ≡ no_choice → refuse s 10 ≡ call_in J s (lift u)
      lift_ten e = sym (lift_on ∙ guarded_here (refuse s) _ _ _ (rw (eq-eqb (pin_of s u) no_choice e)))

      -- the coding that the code reads
      pub coding_read : (x : ℕ) → x < h.choices → coding_at b h u x ≡ job_coding J (u - 1) x
      coding_read x c =
          let k = inside h.units u within in
          ap (λ (i : Header). coding_at b i u x) (sym r.opens.header_is)
          ∙ (looked_up b h r.opens).coding u x k.0 (omega (arith, N)) (omega (arith, M))

      pub pin_taken : (x : ℕ) → x < h.choices → get_or s.pins (u - 1) 0 ≡ no_choice → take_in (with_pin s (u - 1) x (coding_at b h u x)) ≡ call_in J s (pin u x)
      unfolding called
      pin_taken x c e = sym (pin_on x c ∙ guarded_last (refuse s) _ _ (eq-eqb (pin_of s u) no_choice e) ∙ rw (coding_read x c))

      module _ (e : get_or s.pins (u - 1) 0 ≡ no_choice → ⊥) where
        -- a pin that is there is a choice of the job
        pub pinned_below : get_or s.pins (u - 1) 0 < h.choices
        pinned_below = let k = inside h.units u within in go (r.matches.pins (u - 1) (omega (arith, N)))
          where
            go : (get_or s.pins (u - 1) 0 ≡ no_choice) ⊎ (get_or s.pins (u - 1) 0 < J.choices) → get_or s.pins (u - 1) 0 < h.choices
            go (inl q) = absurd (e q)
            go (inr q) = omega (arith, M)

        pub lift_taken : take_in (without_pin s (u - 1) (coding_at b h u (get_or s.pins (u - 1) 0))) ≡ call_in J s (lift u)
        unfolding called
        lift_taken = sym (lift_on ∙ guarded_last (refuse s) _ _ (rw (ne_eqb (pin_of s u) no_choice e)) ∙ rw (coding_read (get_or s.pins (u - 1) 0) pinned_below))
