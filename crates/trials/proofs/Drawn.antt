-- The lists that are drawn keep the writer's limits, and each number of the job is drawn in its turn.
use Prim.Native.Nat.{ℕ, zero, suc, ◌+◌, ◌*◌, ◌<◌, ◌≤◌}
use mathlib.Core.Path.{◌≡◌, sym, ap, ◌∙◌}
use mathlib.Core.List.{List, []}
use native.Mathlib.Omega.{arith}
use native.Mathlib.Nat.{suc-mul, mul-le-mul}
use lib.ListN.{length, get_or, take, drop, length-drop}
use lib.Seq.{drop-drop, get_or-take, get_or-drop, ext_get_or, length-take-le}
use Rattle.base.specs.Lists.{build}
use Rattle.base.proofs.Builds.{build_length, build_at}
use Rattle.model.specs.Job.{Coding, nothing, job_coding}
use Rattle.format.specs.Limits.{AllKept}
use Rattle.format.specs.JobBytes.{Header, header_limits, opening, drain_limits, job_of, header_in}
use Rattle.format.proofs.Bounds.{CodingKept, rates_within, codings_within}
use Rattle.writing.specs.Lists.{parted, codings_from, job_from}
use Rattle.writing.proofs.Lists.{codings_count, coding_in}
use Rattle.writing.proofs.Order.{Accepted}
use Rattle.writing.proofs.Writes.{header_given}
use Rattle.trials.specs.Draws.{after, draw, rate_drawn, size_drawn, distortion_drawn}
use Rattle.trials.specs.Calls.{trial_rates, trial_sizes, trial_distortions, trial_job}
use Rattle.trials.specs.Claims.{LeftOver, Drawn}
use Rattle.trials.proofs.Draws.{draw_later, first_left, later_adds, size_left, rate_most, rate_rises, distortion_fits}

-- a part of a list that is built is built
pub build_part : (n from m : ℕ) (f : ℕ → ℕ) → from + m ≤ n → take m (drop from (build n f)) ≡ build m (λ x. f (from + x))
build_part n from m f h =
    ext_get_or 0 (take m (drop from (build n f))) (build m (λ x. f (from + x))) (length-take-le m (drop from (build n f)) (rw length-drop (omega (arith, build_length n f))) ∙ sym (build_length m (λ x. f (from + x)))) (λ i less. same i (omega (arith, length-take-le m (drop from (build n f)) (rw length-drop (omega (arith, build_length n f))))))
  where
    same : (i : ℕ) → i < m → get_or (take m (drop from (build n f))) i 0 ≡ get_or (build m (λ x. f (from + x))) i 0
    same i less = get_or-take m (drop from (build n f)) i 0 less ∙ get_or-drop from (build n f) i 0 ∙ build_at n f (from + i) (omega arith) ∙ sym (build_at m (λ x. f (from + x)) i less)

-- the list in a place, of those that a list is taken apart to
parted_at : {A : Type 0} (n m : ℕ) (l : List A) (i : ℕ) → i < n → get_or (parted n m l) i [] ≡ take m (drop (i * m) l)
unfolding parted
parted_at zero m l i h = absurd (omega arith)
parted_at (suc n) m l zero h = let e : 0 * m ≡ 0 = omega arith in rw e
parted_at (suc n) m l (suc i) h = let e : m + i * m ≡ suc i * m = omega (arith, suc-mul i m) in parted_at n m (drop m l) i (omega arith) ∙ rw (drop-drop (i * m) m l, e)

module _ (h : Header) (s : ℕ) where
  rates_long : length (trial_rates h s) ≡ h.rates
  unfolding trial_rates
  rates_long = build_length _ _

  sizes_long : length (trial_sizes h s) ≡ h.units * h.choices
  unfolding trial_sizes
  sizes_long = build_length _ _

  distortions_long : length (trial_distortions h s) ≡ h.units * h.choices
  unfolding trial_distortions
  distortions_long = build_length _ _

  rate_is : (y : ℕ) → y < h.rates → get_or (trial_rates h s) y 0 ≡ rate_drawn s y
  unfolding trial_rates
  rate_is y l = build_at _ _ y l

  size_is : (k : ℕ) → k < h.units * h.choices → get_or (trial_sizes h s) k 0 ≡ size_drawn (after h.rates s) k
  unfolding trial_sizes
  size_is k l = build_at _ _ k l

  distortion_is : (k : ℕ) → k < h.units * h.choices → get_or (trial_distortions h s) k 0 ≡ distortion_drawn (after h.rates s) k
  unfolding trial_distortions
  distortion_is k l = build_at _ _ k l

  abbrev cs : List Coding
  cs = codings_from (trial_sizes h s) (trial_distortions h s)

  coding_is : (k : ℕ) → k < h.units * h.choices → get_or cs k nothing ≡ record { size = size_drawn (after h.rates s) k; distortion = distortion_drawn (after h.rates s) k }
  coding_is k l = coding_in (trial_sizes h s) (trial_distortions h s) k (omega (arith, sizes_long)) (sizes_long ∙ sym distortions_long) ∙ rw (size_is k l, distortion_is k l)

  coding_fits : (k : ℕ) → k < h.units * h.choices → CodingKept (get_or cs k nothing)
  coding_fits k l = rw (coding_is k l) (record { size = omega (arith, (size_left (after h.rates s) k).less); distortion = omega (arith, distortion_fits (after h.rates s) k) })

  -- the coding of a unit, counted from 0, at a choice
  coded : (u x : ℕ) → u < h.units → x < h.choices → job_coding (trial_job h s) u x ≡ record { size = size_drawn (after h.rates s) (u * h.choices + x); distortion = distortion_drawn (after h.rates s) (u * h.choices + x) }
  unfolding trial_job job_from job_of job_coding
  coded u x l m =
      ap (λ (cs : List Coding). get_or cs x nothing) (parted_at h.units h.choices cs u l)
      ∙ get_or-take h.choices (drop (u * h.choices) cs) x nothing m
      ∙ get_or-drop (u * h.choices) cs x nothing
      ∙ coding_is (u * h.choices + x) (omega (arith, inside))
    where
      inside : suc u * h.choices ≤ h.units * h.choices
      inside = mul-le-mul {n₂ = h.units} {m₂ = h.choices} l (omega arith)

  -- which draws they are, counted from the starting state
  size_there : (k : ℕ) → LeftOver 64 (draw s (h.rates + 2 * k)) (size_drawn (after h.rates s) k)
  size_there k = rw (← draw_later h.rates (2 * k) s) (size_left (after h.rates s) k)

  distortion_there : (k : ℕ) → distortion_drawn (after h.rates s) k ≡ draw s (h.rates + 2 * k + 1)
  unfolding distortion_drawn
  distortion_there k = draw_later h.rates _ s ∙ ap (draw s) (omega arith)

  -- nothing but the header can be refused
  module _ (a : AllKept (header_limits h)) (d : AllKept (drain_limits opening h.buckets)) where
    pub accepted : Accepted h (trial_rates h s) (trial_sizes h s) (trial_distortions h s)
    accepted = record {
      header = a;
      drains = d;
      lengths = omega (arith, rates_long, sizes_long, distortions_long);
      rates_kept = rates_within 0 (trial_rates h s) (λ l. omega arith) (λ y l. low y (omega (arith, rates_long))) (λ y l. rising y (omega (arith, rates_long)));
      codings_kept = codings_within cs (λ x l. coding_fits x (omega (arith, codings_count (trial_sizes h s) (trial_distortions h s) (sizes_long ∙ sym distortions_long), sizes_long)));
    }
      where
        low : (y : ℕ) → y < h.rates → get_or (trial_rates h s) y 0 ≤ 4095
        low y l = rw (rate_is y l) (omega (arith, rate_most s y))

        rising : (y : ℕ) → suc y < h.rates → get_or (trial_rates h s) y 0 < get_or (trial_rates h s) (suc y) 0
        rising y l = rw (rate_is y (omega arith), rate_is (suc y) l) (rate_rises s y)

    pub header_is : header_in (trial_job h s) ≡ h
    unfolding trial_job
    header_is = header_given h (trial_rates h s) (trial_sizes h s) (trial_distortions h s) accepted

    pub drawn : Drawn h s (trial_job h s)
    drawn = record {
      header = header_is;
      first_rate = rw (rates_there 0 (omega arith)) (first_left s);
      later_rate = λ y left l o. omega (arith, rates_there (suc y) l, later_adds s y left o, rates_there y (omega arith));
      size = λ u x l m. rw (coded u x l m) (size_there (u * h.choices + x));
      distortion = λ u x l m. ap (λ (c : Coding). c.distortion) (coded u x l m) ∙ distortion_there (u * h.choices + x);
    }
      where
        rates_there : (y : ℕ) → y < h.rates → get_or (trial_job h s).line.rates y 0 ≡ rate_drawn s y
        rates_there y l = unfold trial_job job_from job_of in (rate_is y l)
