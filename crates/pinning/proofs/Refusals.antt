-- A pin or a lift is refused in document 01's order, and then hands back the set as it came: `Refusals` and `Refusing`; and what refuses a click: `click_refusal`.
use Rattle.format.specs.JobBytes.{opening}
use Prim.Native.Nat.{ℕ, ◌≤◌}
use mathlib.Core.Path.{◌≡◌, refl}
use mathlib.Core.Logic.{◌↔◌}
use mathlib.Core.Bool.{Bool, true, false, not}
use mathlib.Core.Option.{Option, none, some, none-ne-some}
use mathlib.Core.List.{List, [], ◌∷◌, ◌++◌}
use lib.ListN.{length}
use native.Mathlib.Omega.{arith}
use lib.Dec.{eqb}
use borrow.Author.Tests.{leb-true, le-leb, ltb-true, lt-ltb, eqb-true, eqb-false, eq-eqb, ne_eqb}
use Rattle.base.specs.Refusals.{refusal, unless, guarded, condition}
use Rattle.base.proofs.Refusals.{Decides, no_more, one_more, decides_join, Guarded, was_refused, was_done, guarded_is}
use Rattle.model.specs.Job.{Job}
use Rattle.model.specs.Pins.{Call, pin, lift, Click, sees, outside}
use Rattle.model.specs.Table.{words}
use Rattle.format.specs.Parser.{Result, refused, took, on_read, refusal_in}
use Rattle.format.specs.Choices.{no_choice}
use Rattle.pinning.specs.PinSet.{PinSet}
use Rattle.pinning.specs.Check.{checked}
use Rattle.pinning.specs.Calls.{Handed, refuse, take_in, pin_of, call_tests, called, call_in, call, call_of, click_tests, click_in, click}
use Rattle.pinning.specs.Claims.{CallAsks, Refusals, Refusing}
use Rattle.pinning.proofs.Inside.{inside, within}
use Rattle.pinning.proofs.Agree.{looks_checked}

module _ (s : PinSet) where
  abbrev Kept : Handed → Type 0
  Kept h = (n : ℕ) → h.refused ≡ some n → h.set ≡ s

  kept_refuse : (n : ℕ) → Kept (refuse s n)
  unfolding refuse
  kept_refuse n k e = refl

  kept_by : (t : PinSet) (h : Handed) → Guarded (refuse s) (take_in t) h → Kept h
  unfolding take_in
  kept_by t h (was_refused n) = kept_refuse n
  kept_by t h was_done = λ n e. absurd (none-ne-some n e)

  kept_read : (k : Call) (r : Result Job) → Kept (on_read (refuse s) r (λ j. call_in j s k))
  unfolding on_read call_in
  kept_read k (refused n) = kept_refuse n
  kept_read k (took j n) = kept_by (called j s k) _ (guarded_is (refuse s) (call_tests j s k) (take_in (called j s k)))

pub refusing : Refusing
unfolding call
refusing b s k = kept_read s k (checked opening b s)

-- each test says what is asked
not_true : (t : Bool) → not t ≡ true → t ≡ false
not_true true e = let z : ◌≡◌ {A = ℕ} 0 1 = cc in absurd (omega arith)
not_true false e = refl

unit_decides : (j : Job) (u : ℕ) → (not (outside (length j.units) u) ≡ true) ↔ ((1 ≤ u) × (u ≤ length j.units))
unit_decides j u = (λ e. inside (length j.units) u (not_true _ e), λ h. rw (within (length j.units) u h))

pin_decides : (x : ℕ) → (not (eqb x no_choice) ≡ true) ↔ (x ≡ no_choice → ⊥)
pin_decides x = (λ e. eqb-false x no_choice (not_true _ e), λ h. rw (ne_eqb x no_choice h))

pub call_decides : (j : Job) (s : PinSet) (k : Call) → Decides (call_tests j s k) (CallAsks j s k)
unfolding call_tests
call_decides j s (pin u x) = one_more refl (unit_decides j u) (one_more refl (ltb-true x j.choices, lt-ltb x j.choices) (one_more refl (eqb-true (pin_of s u) no_choice, eq-eqb (pin_of s u) no_choice) no_more))
call_decides j s (lift u) = one_more refl (unit_decides j u) (one_more refl (pin_decides (pin_of s u)) no_more)

pub refusals : Refusals
unfolding call call_in
refusals b s k = looks_checked (refuse s) opening b s (λ j. call_tests j s k) (λ j. CallAsks j s k) (λ j. take_in (called j s k)) (λ j r. r ≡ take_in (called j s k)) (λ j n e m. (call_decides j s k, λ a. refl))

-- what a call that sees is tested for
pub sees_decides : (j : Job) (s : PinSet) (k : Call) (n : ℕ) → Decides (click_tests j s (sees k n)) (CallAsks j s k ++ (condition 11 (words j ≤ n) ∷ []))
unfolding click_tests
sees_decides j s k n = decides_join (call_decides j s k) (one_more refl (leb-true (words j) n, le-leb (words j) n) no_more)

-- a click is refused by the job, the set and its own tests
pub click_refusal : (b : List ℕ) (s : PinSet) (k : Click) → (click b s k).refused ≡ refusal_in (checked opening b s) (λ j. click_tests j s k)
unfolding click
click_refusal b s k = of_reading (checked opening b s)
  where
    of_tests : (o : Option ℕ) (t : PinSet) → (unless (refuse s) o (take_in t)).refused ≡ o
    of_tests none t = unfold unless take_in in refl
    of_tests (some n) t = unfold unless refuse in refl

    of_reading : (r : Result Job) → (on_read (refuse s) r (λ j. click_in j s k)).refused ≡ refusal_in r (λ j. click_tests j s k)
    of_reading (refused n) = unfold on_read refuse refusal_in in refl
    of_reading (took j n) = unfold on_read click_in guarded refusal_in in (of_tests (refusal (click_tests j s k)) (called j s (call_of k)))
