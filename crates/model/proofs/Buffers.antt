-- The decoder's level is the effective buffer size less what the encoder holds: `EffectiveBuffers`. One size from the one before it: `RunningBuffers`.
use Prim.Native.Nat.{ℕ, zero, suc, ◌+◌, ◌≤◌}
use mathlib.Core.Path.{◌≡◌, refl, sym, ◌∙◌, ap}
use mathlib.Core.List.{List}
use native.Mathlib.Omega.{arith}
use lib.IntN.{ℤ, pos, ◌+ℤ◌, ◌-ℤ◌, +ℤ_assoc, +ℤ_comm, -ℤ-+ℤ_cancel, pos-+ℤ-pos}
use Rattle.model.specs.Job.{Job, Entry, PlanFits}
use Rattle.model.specs.Levels.{sent, taken, decoder_level, sent_after, effective_buffer, units_taken}
use Rattle.base.specs.Lists.{sum, gathered}
use Rattle.model.specs.Claims.{EffectiveBuffers, RunningBuffers}
use Rattle.model.proofs.Sums.{sum_first}
use Rattle.model.proofs.Units.{units}

module _ (j : Job) (p : List Entry) where
  -- what the first n intervals take
  abbrev taken_to : ℕ → ℕ
  taken_to n = sum (taken j 0 p) n

  sent_split : (i n : ℕ) → sent_after j p 0 (i + n) ≡ sent_after j p 0 i + sent_after j p i n
  unfolding gathered sent_after
  sent_split i zero = let e : i + 0 ≡ i = omega arith in rw e (omega arith)
  sent_split i (suc n) =
      let e : i + suc n ≡ suc (i + n) = omega arith in
      let z : 0 + suc (i + n) ≡ suc (i + n) = omega arith in
      let ih = sent_split i n in
      rw (e, z) (omega arith)

  -- levels and sums, one interval on
  one_on : (a : ℤ) (b c r s t : ℕ) → a +ℤ pos t ≡ pos (b + s) → ((a +ℤ pos c) -ℤ pos r) +ℤ pos (t + r) ≡ pos (b + (s + c))
  one_on a b c r s t e =
      ap (λ (z : ℤ). ((a +ℤ pos c) -ℤ pos r) +ℤ z) (ap pos (omega arith) ∙ sym (pos-+ℤ-pos r t))
      ∙ sym (+ℤ_assoc ((a +ℤ pos c) -ℤ pos r) (pos r) (pos t))
      ∙ ap (λ (z : ℤ). z +ℤ pos t) (-ℤ-+ℤ_cancel (a +ℤ pos c) (pos r))
      ∙ +ℤ_assoc a (pos c) (pos t)
      ∙ ap (λ (z : ℤ). a +ℤ z) (+ℤ_comm (pos c) (pos t))
      ∙ sym (+ℤ_assoc a (pos t) (pos c))
      ∙ ap (λ (z : ℤ). z +ℤ pos c) e
      ∙ pos-+ℤ-pos (b + s) c
      ∙ ap pos (omega arith)

  -- (16) summed up, which is (4)
  level_sum : (b n : ℕ) → decoder_level j 0 p b n +ℤ pos (taken_to n) ≡ pos (b + sent_after j p 0 n)
  unfolding gathered decoder_level sent_after
  level_sum b zero = pos-+ℤ-pos b 0
  level_sum b (suc n) =
      let e : 0 + suc n ≡ suc n = omega arith in
      rw e (one_on (decoder_level j 0 p b n) b (sent j p (suc n)) (taken j 0 p (suc n)) (sent_after j p 0 n) (taken_to n) (level_sum b n))

  module _ (fits : PlanFits j 0 p) where
    waits_to : (n : ℕ) → n ≤ j.delay → taken_to n ≡ 0
    unfolding gathered
    waits_to zero h = refl
    waits_to (suc n) h = let ih = waits_to n (omega arith) in let e = ((units j p).waits fits (suc n) h).0 in omega arith

    units_to : (i : ℕ) → taken_to (i + j.delay) ≡ units_taken j p i
    unfolding gathered units_taken
    units_to zero = let e : 0 + j.delay ≡ j.delay = omega arith in rw e (waits_to j.delay (omega arith))
    units_to (suc i) =
        let e : suc i + j.delay ≡ suc (i + j.delay) = omega arith in
        let q : suc (i + j.delay) ≡ j.delay + suc i = omega arith in
        rw e (rw (units_to i, q))

pub effective_buffers_lem : EffectiveBuffers
unfolding effective_buffer
effective_buffers_lem j p b i fits =
    ap (λ (n : ℕ). decoder_level j 0 p b (i + j.delay) +ℤ pos n) (sym (units_to j p fits i))
    ∙ level_sum j p b (i + j.delay)
    ∙ ap pos (ap (λ (n : ℕ). b + n) (sent_split j p i j.delay) ∙ omega arith)

-- a window and the number behind it, or the number before it and the next window
window_next : (j : Job) (p : List Entry) (i n : ℕ) → sent_after j p i n + sent j p (i + n + 1) ≡ sent j p (i + 1) + sent_after j p (i + 1) n
unfolding gathered sent_after
window_next j p i n =
    let e : i + n + 1 ≡ i + suc n = omega arith in
    rw e (sum_first (λ k. sent j p (i + k)) (λ k. sent j p (i + 1 + k)) (λ k. ap (sent j p) (omega arith)) n)

pub running_buffers : RunningBuffers
unfolding effective_buffer
running_buffers j p i = let e = window_next j p i j.delay in record { leaves = omega arith; next = omega arith }
