-- The sums of the effective buffer report, one sum after another.
use Prim.Native.Nat.{ℕ, zero, suc, ◌+◌, ◌-◌, ◌*◌, ◌<◌, ◌≤◌}
use mathlib.Core.Path.{◌≡◌, sym, ◌∙◌, ap}
use mathlib.Core.List.{List, ◌++◌}
use native.Mathlib.Decide.{dec_lt}
use native.Mathlib.Numerals.{add-one}
use native.Mathlib.Omega.{arith}
use lib.ListN.{length, get_or, drop, get_or-eq_default}
use Rattle.model.specs.Job.{Job, Entry, sends}
use Rattle.model.specs.Levels.{entry_of, sent, sent_after, effective_buffer, effective_buffers}
use Rattle.base.specs.Lists.{build, gathered}
use Rattle.base.proofs.Builds.{build_length}
use Rattle.model.proofs.Buffers.{running_buffers}
use Rattle.format.specs.Claims.{InLimits}
use Rattle.base.specs.Lent.{over}

-- a rate, and a window of rates, within document 01's limits
module _ (j : Job) (limits : InLimits j) (p : List Entry) where
  sends_most : (e : Entry) → sends j e ≤ 4095
  unfolding sends
  sends_most e = go (dec_lt e.rate (length j.line.rates))
    where
      go : Dec (e.rate < length j.line.rates) → get_or j.line.rates e.rate 0 ≤ 4095
      go (yes h) = limits.rate e.rate h
      go (no h) = let k : length j.line.rates ≤ e.rate = omega arith in rw (get_or-eq_default j.line.rates 0 k) (omega arith)

  pub sent_most : (n : ℕ) → sent j p n ≤ 4095
  unfolding sent
  sent_most n = sends_most (entry_of p n)

  pub window_most : (i n : ℕ) → sent_after j p i n ≤ n * 4095
  unfolding gathered sent_after
  window_most i zero = omega arith
  window_most i (suc n) = omega (arith, window_most i n, sent_most (i + suc n))

-- one rate more
pub window_more : (j : Job) (p : List Entry) (n : ℕ) → sent_after j p 0 n + sent j p (n + 1) ≡ sent_after j p 0 (n + 1)
unfolding gathered sent_after
window_more j p n = let z : 0 + suc n ≡ suc n = omega arith in rw (add-one n, z)

-- a sum and any rate are small
pub sum_small : (j : Job) (p : List Entry) (i n x a : ℕ) → x ≡ effective_buffer j p i → a ≡ sent j p n → InLimits j → x + a ≤ 2400000
unfolding effective_buffer
sum_small j p i n x a e f k = omega (arith, window_most j k p i j.delay, sent_most j k p n, k.delay)

-- one sum from the one before it: x is the sum for i, a the rate that arrives and l the one that leaves
module _ (j : Job) (p : List Entry) (i d x a l : ℕ) (delay : j.delay ≡ d) (sum_is_lem : x ≡ effective_buffer j p i) (arrives : a ≡ sent j p (i + d + 1)) (leaves : l ≡ sent j p (i + 1)) where
  here : (l ≤ x + a) × ((x + a) - l ≡ effective_buffer j p (i + 1))
  here =
      let r = running_buffers j p i in
      let e : sent j p (i + j.delay + 1) ≡ a = ap (λ (n : ℕ). sent j p (i + n + 1)) delay ∙ sym arrives in
      (omega (arith, r.leaves), omega (arith, r.next))

  pub next_sum : (x + a) - l ≡ effective_buffer j p (i + 1)
  next_sum = here.1

  pub leaves_less : l ≤ x + a
  leaves_less = here.0

-- all sums
pub sums_end : (j : Job) (p : List Entry) (l : List ℕ) (i : ℕ) → i ≡ suc (length j.units) → build i (effective_buffer j p) ++ drop i l ≡ over (effective_buffers j p) l
unfolding over effective_buffers
sums_end j p l i e = rw (e, build_length (suc (length j.units)) (effective_buffer j p))
