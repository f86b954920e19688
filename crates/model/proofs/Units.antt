-- What an interval sends, which unit it decodes, and which pin bears on it: `Units` and `PinnedUnits`.
use Prim.Native.Nat.{ℕ, zero, suc, ◌+◌, ◌-◌, ◌<◌, ◌≤◌}
use mathlib.Core.Path.{◌≡◌, refl, ap}
use mathlib.Core.Option.{Option, none, some}
use mathlib.Core.List.{List, []}
use native.Mathlib.Decide.{dec_lt}
use native.Mathlib.Omega.{arith}
use lib.ListN.{length, get_or}
use borrow.Author.Tests.{le-leb, lt-leb}
use Rattle.model.specs.Job.{Coding, nothing, Levels, Job, Entry, intervals, coding, job_coding, sends, takes, distorts, ChoiceFits, waits, decodes, EntryFits, PlanFits, ends, goes}
use Rattle.model.specs.Levels.{entry_of, sent, taken, distorted}
use Rattle.model.specs.Pins.{PinMap, mapped_pin, pin_at, PinHeld, free, kept}
use Rattle.model.specs.Admissible.{ending, Admissible}
use Rattle.model.specs.Claims.{PinnedClaim, Units, PinnedUnits}
use Rattle.model.proofs.Walks.{fits_length}

-- every entry of a plan in shape is in range
pub entry_fits : {j : Job} {s : ℕ} {p : List Entry} → PlanFits j s p → (n : ℕ) → n < length p → EntryFits j (s + suc n) (entry_of p (suc n))
unfolding entry_of
entry_fits (ends e) n h = absurd (omega arith)
entry_fits {j} {s} (goes {e = e} f r) zero h = let i : s + 1 ≡ suc s = omega arith in rw i f
entry_fits {j} {s} (goes {p = q} f r) (suc n) h = let i : s + suc (suc n) ≡ suc s + suc n = omega arith in rw i (entry_fits r n (omega arith))

choice_made : {j : Job} {t : ℕ} {o : Option ℕ} → j.delay < t → ChoiceFits j t o → (c : ℕ) × (c < j.choices) × (o ≡ some c)
choice_made h (waits k) = absurd (omega arith)
choice_made h (decodes {x} k l) = (x, l, refl)

nothing_coded : {j : Job} {t : ℕ} {o : Option ℕ} → t ≤ j.delay → ChoiceFits j t o → coding j t o ≡ nothing
unfolding coding
nothing_coded h (waits k) = refl
nothing_coded h (decodes k l) = absurd (omega arith)

coded : (j : Job) (u c : ℕ) (o : Option ℕ) → 1 ≤ u → o ≡ some c → coding j (0 + (u + j.delay)) o ≡ get_or (get_or j.units (u - 1) []) c nothing
unfolding coding job_coding
coded j u c o h e = let i : 0 + (u + j.delay) - (j.delay + 1) ≡ u - 1 = omega arith in rw (e, i)

module _ (j : Job) (p : List Entry) (f : PlanFits j 0 p) where
  plan_length : length p ≡ length j.units + j.delay
  unfolding intervals
  plan_length = let e = fits_length f in omega arith

  in_range : (t : ℕ) → 1 ≤ t → t ≤ length p → ChoiceFits j t (entry_of p t).choice
  in_range zero h k = absurd (omega arith)
  in_range (suc n) h k = let e : 0 + suc n ≡ suc n = omega arith in rw e at (entry_fits f n k).choice

  nothing_decoded : (t : ℕ) → t ≤ j.delay → coding j (0 + t) (entry_of p t).choice ≡ nothing
  unfolding coding entry_of
  nothing_decoded zero h = refl
  nothing_decoded (suc n) h = let e : 0 + suc n ≡ suc n = omega arith in rw e (nothing_coded h (in_range (suc n) (omega arith) (omega (arith, plan_length))))

pub units : Units
unfolding sent sends taken distorted takes distorts
units j p = record {
  decodes = λ f u h k. choice_made (omega arith) (in_range j p f (u + j.delay) (omega arith) (omega (arith, plan_length j p f)));
  sends = λ n. refl;
  takes = λ u c h e. ap (λ (k : Coding). k.size) (coded j u c _ h e);
  distorts = λ u c h e. ap (λ (k : Coding). k.distortion) (coded j u c _ h e);
  waits = λ f t h. (ap (λ (k : Coding). k.size) (nothing_decoded j p f t h), ap (λ (k : Coding). k.distortion) (nothing_decoded j p f t h));
}

-- the pin that bears on an interval, by unit
pin_waits : (j : Job) (m : PinMap) (t : ℕ) → t ≤ j.delay → pin_at j m t ≡ none
unfolding pin_at
pin_waits j m t h = rw (le-leb t j.delay h)

pin_of : (j : Job) (m : PinMap) (u : ℕ) → 1 ≤ u → pin_at j m (u + j.delay) ≡ get_or m (u - 1) none
unfolding pin_at mapped_pin
pin_of j m u h = let e : u + j.delay - j.delay ≡ u = omega arith in rw (lt-leb (u + j.delay) j.delay (omega arith), e)

held_some : {c : ℕ} {o : Option ℕ} → PinHeld (some c) o → o ≡ some c
held_some kept = refl

some_held : (o x : Option ℕ) → ((c : ℕ) → o ≡ some c → x ≡ some c) → PinHeld o x
some_held none x f = free
some_held (some c) x f = rw (f c refl) kept

module _ (j : Job) (m : PinMap) (start : Levels) (p : List Entry) where
  pins_kept : Admissible j m 0 start p → (u c : ℕ) → 1 ≤ u → u ≤ length j.units → get_or m (u - 1) none ≡ some c → (entry_of p (u + j.delay)).choice ≡ some c
  unfolding ending
  pins_kept a u c h k e =
      let n = u + j.delay - 1 in
      let i : suc n ≡ u + j.delay = omega arith in
      let z : 0 + suc n ≡ u + j.delay = omega arith in
      let held = (a.sound n (omega (arith, plan_length j p a.shaped))).pin in
      held_some (rw (z, i, pin_of j m u h, e) at held)

  kept_pin : PinnedClaim j m start p → (t : ℕ) → t ≤ length p → PinHeld (pin_at j m t) (entry_of p t).choice
  kept_pin a t h = go (dec_lt j.delay t)
    where
      by_unit : (u : ℕ) → 1 ≤ u → u ≤ length j.units → PinHeld (pin_at j m (u + j.delay)) (entry_of p (u + j.delay)).choice
      by_unit u k l = rw (pin_of j m u k) (some_held _ _ (λ c e. a.pins u c k l e))

      go : Dec (j.delay < t) → PinHeld (pin_at j m t) (entry_of p t).choice
      go (yes k) = let e : t - j.delay + j.delay ≡ t = omega arith in rw e at (by_unit (t - j.delay) (omega arith) (omega (arith, plan_length j p a.shaped)))
      go (no k) = rw (pin_waits j m t (omega arith)) free

pub pinned_units : PinnedUnits
unfolding ending
pinned_units j m start p = (
  λ a. record { shaped = a.shaped; decoder = λ n h. (a.sound n h).decoder; buckets = λ n h. (a.sound n h).buckets; pins = pins_kept j m start p a },
  λ a. record {
    shaped = a.shaped;
    sound = λ n h. record { decoder = a.decoder n h; buckets = a.buckets n h; pin = let e : 0 + suc n ≡ suc n = omega arith in rw e (kept_pin j m start p a (suc n) h) };
  },
)
