-- What a plan in shape does in the interval of a place, from what was read of it.
use Prim.Native.Nat.{ℕ, suc, ◌+◌, ◌-◌, ◌*◌, ◌<◌, ◌≤◌}
use mathlib.Core.Path.{◌≡◌, refl, sym, ◌∙◌, ap}
use mathlib.Core.Bool.{true}
use mathlib.Core.List.{List}
use native.Mathlib.Numerals.{add-one}
use native.Mathlib.Omega.{arith}
use lib.Dec.{eqb, ltb}
use lib.ListN.{length}
use borrow.Author.Tests.{eqb-true, ltb-true, lt-ltb, le-ltb, le-leb, lt-leb}
use Rattle.std.specs.Prelude.{if◌then◌else◌}
use Rattle.model.specs.Job as model
use Rattle.model.specs.Job.{job_coding, coding, intervals, sends, takes, distorts}
use Rattle.model.specs.Levels.{entry_of, sent}
use Rattle.model.specs.Pins.{mapped_pin, pin_at}
use Rattle.base.proofs.Tests.{both_true}
use Rattle.base.proofs.All.{all_each}
use Rattle.format.specs.Choices.{no_choice, choice_of}
use Rattle.format.specs.JobBytes.{Header, job_in, Opens}
use Rattle.format.specs.Places.{rate_at, coding_at}
use Rattle.format.proofs.Choices.{of_mark, of_choice}
use Rattle.format.proofs.Opened.{job_limits, looked_up, units_are, delay_is, rates_are, choices_are, intervals_are}
use Rattle.header.specs.declared.Coding.{Coding}
use Rattle.header.specs.Answers.{coding_of}
use Rattle.pinning.specs.PinSet.{lines}
use Rattle.pinning.proofs.Lines.{lines_at}
use Rattle.replaying.specs.Entries.{entry_size, rate_field, choice_field, entry_under, entry_at, fits_under, entries_fit, shaped, plan_of}
use Rattle.replaying.proofs.Entries.{entries_at}
use Rattle.course.specs.Answers.{Shaped, CodingIn, no_coding, coded, PinIn, no_pin, pinned, IsInterval}

-- of a job that was read
pub shaped_plan : (b : List ℕ) (h : Header) (o : Opens b h) (entries : List ℕ) → shaped h entries ≡ true → Shaped b h entries
shaped_plan b h o entries e = record { opens = o; in_shape = e }

module _ (b : List ℕ) (h : Header) (entries : List ℕ) (s : Shaped b h entries) where
  pub entries_size : length entries ≡ entry_size * (h.units + h.delay)
  unfolding shaped
  entries_size = eqb-true _ _ (both_true _ _ s.in_shape).0

  module _ (i : ℕ) (l : i < h.units + h.delay) where
    in_range : fits_under no_choice h i (rate_field entries i) (choice_field entries i) ≡ true
    unfolding shaped entries_fit
    in_range = all_each _ (h.units + h.delay) (both_true _ _ s.in_shape).1 i l

    rate_below : rate_field entries i < h.rates
    unfolding fits_under
    rate_below = ltb-true _ _ (both_true _ _ in_range).0

    -- up to the delay there is no choice, after it one of the job's
    mark_fits : (if ltb i h.delay then eqb (choice_field entries i) no_choice else ltb (choice_field entries i) h.choices) ≡ true
    unfolding fits_under
    mark_fits = (both_true _ _ in_range).1

    no_unit : i < h.delay → choice_field entries i ≡ no_choice
    no_unit k = eqb-true _ _ (rw (lt-ltb i h.delay k) at mark_fits)

    choice_below : h.delay ≤ i → choice_field entries i < h.choices
    choice_below k = ltb-true _ _ (rw (le-ltb i h.delay k) at mark_fits)

    pub sent_is : rate_at b h (rate_field entries i) ≡ sends (job_in b) (entry_at entries i)
    unfolding sends entry_at entry_under
    sent_is = ap (λ (n : Header). rate_at b n (rate_field entries i)) (sym s.opens.header_is) ∙ (looked_up b h s.opens).rate (rate_field entries i) (omega (arith, (rates_are b h s.opens), rate_below))

    pub sent_most : rate_at b h (rate_field entries i) ≤ 4095
    unfolding sends entry_at entry_under
    sent_most = rw sent_is ((job_limits b h s.opens).rate (rate_field entries i) (omega (arith, (rates_are b h s.opens), rate_below)))

    -- the coding that was read is the one that the interval decodes, and within its limits
    record Codes (x : Coding) : Type 0 where
      is : coding_of x ≡ coding (job_in b) (suc i) (choice_of (choice_field entries i))
      size_most : x.size ≤ 4095
      distortion_most : x.distortion ≤ 1000000

    coding_is : (x : Coding) → CodingIn b h i (choice_field entries i) x → Codes x
    unfolding coding coding_of
    coding_is x (no_coding k e) = record {
      is = rw (no_unit k, of_mark) e;
      size_most = let z : x.size ≡ 0 = ap (λ (k : model.Coding). k.size) e in omega arith;
      distortion_most = let z : x.distortion ≡ 0 = ap (λ (k : model.Coding). k.distortion) e in omega arith;
    }
    coding_is x (coded k e) =
        let m = choice_field entries i in
        let below = choice_below k in
        let u = i - h.delay + 1 in
        let place : suc i - ((job_in b).delay + 1) ≡ u - 1 = omega (arith, (delay_is b h s.opens)) in
        let unit : (1 ≤ u) × (u ≤ length (job_in b).units) = (omega arith, omega (arith, (units_are b h s.opens))) in
        let q : coding_of x ≡ job_coding (job_in b) (u - 1) m = e ∙ ap (λ (n : Header). coding_at b n u m) (sym s.opens.header_is) ∙ (looked_up b h s.opens).coding u m unit.0 unit.1 (omega (arith, (choices_are b h s.opens))) in
        let z = (job_limits b h s.opens).sizes (u - 1) m (omega (arith, unit)) (omega (arith, (choices_are b h s.opens))) in
        let w = (job_limits b h s.opens).distortions (u - 1) m (omega (arith, unit)) (omega (arith, (choices_are b h s.opens))) in
        let a : x.size ≡ (job_coding (job_in b) (u - 1) m).size = cc in
        let d : x.distortion ≡ (job_coding (job_in b) (u - 1) m).distortion = cc in
        record {
          is = rw (of_choice m (λ y. omega (arith, (choices_are b h s.opens), (job_limits b h s.opens).choices)), place) q;
          size_most = omega arith;
          distortion_most = omega arith;
        }

    -- the pin that was read is the one that bears on the interval
    pin_is : (pins : List ℕ) (x : ℕ) → length pins ≡ 512 → PinIn h pins i x → choice_of x ≡ pin_at (job_in b) (lines h.units pins) (suc i)
    unfolding pin_at mapped_pin
    pin_is pins x n (no_pin k e) = rw (le-leb (suc i) (job_in b).delay (omega (arith, (delay_is b h s.opens))), e, of_mark)
    pin_is pins x n (pinned k e) =
        let place : suc i - (job_in b).delay - 1 ≡ i - h.delay = omega (arith, (delay_is b h s.opens)) in
        rw (lt-leb (suc i) (job_in b).delay (omega (arith, (delay_is b h s.opens))), place, lines_at h.units pins (i - h.delay) (omega (arith, n, (units_are b h s.opens), (job_limits b h s.opens).units)) (omega arith), e)

    pub interval_is : (pins : List ℕ) (coding : Coding) (pin : ℕ) → length pins ≡ 512 → CodingIn b h i (choice_field entries i) coding → PinIn h pins i pin → IsInterval (job_in b) (lines h.units pins) entries i (record { sent = rate_at b h (rate_field entries i); size = coding.size; distortion = coding.distortion; pin = pin; choice = choice_field entries i })
    unfolding takes distorts entry_at entry_under coding_of
    interval_is pins x pin n d q =
        let w = coding_is x d in
        let e = w.is in
        record {
          does = record { sent = sent_is; size = ap (λ (k : model.Coding). k.size) e; distortion = ap (λ (k : model.Coding). k.distortion) e; limits = (sent_most, w.size_most, w.distortion_most) };
          pin = pin_is pins pin n q;
          choice = refl;
        }

-- the rate that was read is what the interval of the plan sends
pub sent_read : (b : List ℕ) (h : Header) (entries : List ℕ) (s : Shaped b h entries) (i : ℕ) → i < h.units + h.delay → rate_at b h (rate_field entries i) ≡ sent (job_in b) (plan_of (job_in b) entries) (i + 1)
unfolding sent entry_of plan_of
sent_read b h entries s i l =
    let z : 0 + i ≡ i = omega arith in
    rw (add-one i, entries_at (entry_at entries) 0 (intervals (job_in b)) i (omega (arith, intervals_are b h s.opens)), z) (sent_is b h entries s i l)
