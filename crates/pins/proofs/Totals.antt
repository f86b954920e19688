-- A pin or a lift for a job that the set matches: the totals have room for the pin, and hold the pin that is lifted.
use Prim.Native.Nat.{ℕ, ◌-◌, ◌<◌, ◌≤◌}
use mathlib.Core.Path.{◌≡◌, sym, ◌∙◌, ap}
use mathlib.Core.Logic.{◌⊎◌, inl, inr}
use mathlib.Core.Bool.{false}
use mathlib.Core.Option.{none, some, none-ne-some}
use mathlib.Core.List.{List}
use native.Mathlib.Omega.{arith}
use lib.ListN.{length, get_or}
use Rattle.model.specs.Job.{Coding, job_coding}
use Rattle.model.specs.Pins.{PinMap, PinTotals, outside, with_line, pin_totals}
use Rattle.model.proofs.PinTotals.{totals_emptied, TotalsWithin, totals_within}
use Rattle.format.specs.JobBytes.{Header, job_in}
use Rattle.format.specs.Places.{coding_at}
use Rattle.header.specs.declared.Coding as code
use Rattle.header.specs.Answers.{coding_of}
use Rattle.format.specs.Choices.{no_choice, choice_of}
use Rattle.pinning.specs.PinSet.{lines}
use Rattle.pinning.specs.Check.{Ready}
use Rattle.format.proofs.Choices.{of_mark, number_some, of_choice}
use Rattle.pinning.proofs.Lines.{lines_at, lines_length}
use Rattle.format.proofs.Opened.{job_limits, units_are, choices_are}
use Rattle.pinning.proofs.Inside.{inside}
use Rattle.pins.proofs.Calls.{place_below, coding_read}
use Rattle.pinset.specs.declared.PinSet as code_set
use Rattle.pinset.specs.Answers.{set_of, Room, Pinned}

-- a pin's coding within its limits, and the totals that hold it
module _ (b : List ℕ) (h : Header) (set : code_set.PinSet) (r : Ready b h (set_of set)) where
  few : length (job_in b).units ≤ length set.pins
  unfolding set_of
  few = omega (arith, r.size, (job_limits b h r.opens).units)

  map : PinMap
  map = lines (length (job_in b).units) set.pins

  -- the line of a unit that is pinned is a choice of the job
  line_below : (i x : ℕ) → i < length (job_in b).units → get_or map i none ≡ some x → x < (job_in b).choices
  unfolding set_of map
  line_below i x l e = go (r.matches.pins i l)
    where
      p : choice_of (get_or set.pins i 0) ≡ some x
      p = sym (lines_at (length (job_in b).units) set.pins i few l) ∙ e

      go : (get_or set.pins i 0 ≡ no_choice) ⊎ (get_or set.pins i 0 < (job_in b).choices) → x < (job_in b).choices
      go (inl q) = absurd (none-ne-some x (sym of_mark ∙ ap choice_of (sym q) ∙ p))
      go (inr q) = let k = number_some (get_or set.pins i 0) x p in omega arith

  small : TotalsWithin 4095 1000000 (length (job_in b).units) (pin_totals (job_in b) map)
  unfolding pin_totals
  small =
      let k = job_limits b h r.opens in
      totals_within 4095 1000000 (job_coding (job_in b)) map (length (job_in b).units)
      (λ i x l e. let c = line_below i x l e in record { size_most = k.sizes i x l c; distortion_most = k.distortions i x l c })

  -- the set's totals are those of its lines
  totals_are : (set.count ≡ (pin_totals (job_in b) map).count) × (set.size ≡ (pin_totals (job_in b) map).size) × (set.distortion ≡ (pin_totals (job_in b) map).distortion)
  unfolding set_of map
  totals_are = let t = r.matches.totals in (ap (λ (w : PinTotals). w.count) t, ap (λ (w : PinTotals). w.size) t, ap (λ (w : PinTotals). w.distortion) t)

  module _ (u : ℕ) (within : outside h.units u ≡ false) where
    module _ (x : ℕ) (below : x < h.choices) (c : code.Coding) (e : coding_of c ≡ coding_at b h u x) where
      -- the coding that was read is the job's
      coding_is : (c.size ≡ (job_coding (job_in b) (u - 1) x).size) × (c.distortion ≡ (job_coding (job_in b) (u - 1) x).distortion)
      unfolding coding_of
      coding_is =
          let d = e ∙ coding_read b h (set_of set) r u within x below in
          (ap (λ (k : Coding). k.size) d, ap (λ (k : Coding). k.distortion) d)

      pub room : Room set (u - 1) c
      room =
          let k = inside h.units u within in
          let n = units_are b h r.opens in
          let m = job_limits b h r.opens in
          let z = m.sizes (u - 1) x (omega arith) (omega (arith, choices_are b h r.opens)) in
          let q = m.distortions (u - 1) x (omega arith) (omega (arith, choices_are b h r.opens)) in
          record {
            place_below = (place_below b h (set_of set) r u within).1;
            count = omega (arith, small, totals_are, m.units);
            size = omega (arith, small, totals_are, coding_is, m.units);
            distortion = omega (arith, small, totals_are, coding_is, m.units);
          }

      pub held : get_or set.pins (u - 1) 0 ≡ x → (x ≡ no_choice → ⊥) → Pinned set (u - 1) c
      unfolding pin_totals with_line map
      held p q =
          let k = inside h.units u within in
          let n = units_are b h r.opens in
          let l : u - 1 < length (job_in b).units = omega arith in
          let line : get_or map (u - 1) none ≡ some x = lines_at (length (job_in b).units) set.pins (u - 1) few l ∙ ap choice_of p ∙ of_choice x q in
          let t = totals_emptied (job_coding (job_in b)) map (u - 1) x (length (job_in b).units) l (omega (arith, lines_length (length (job_in b).units) set.pins few)) line in
          record {
            place_below = (place_below b h (set_of set) r u within).1;
            count = omega (arith, totals_are, ap (λ (w : PinTotals). w.count) t);
            size = omega (arith, totals_are, coding_is, ap (λ (w : PinTotals). w.size) t);
            distortion = omega (arith, totals_are, coding_is, ap (λ (w : PinTotals). w.distortion) t);
          }
