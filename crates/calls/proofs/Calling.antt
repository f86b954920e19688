-- Calls as numbers: what refuses them and the call in a place.
use Prim.Native.Nat.{ℕ, ◌+◌, ◌*◌, ◌/◌, ◌%◌, ◌<◌}
use mathlib.Core.Path.{◌≡◌, sym, ◌∙◌}
use mathlib.Core.Bool.{true, false}
use mathlib.Core.Option.{none, some}
use mathlib.Core.List.{List}
use lib.ListN.{length, get_or}
use borrow.Author.Tests.{eq-eqb, ne_eqb}
use Rattle.base.specs.All.{all_below}
use Rattle.base.specs.Refusals.{refusal}
use Rattle.base.proofs.Refusals.{refusal_past, refusal_here, refusal_last}
use Rattle.model.specs.Pins.{pin, lift}
use Rattle.base.proofs.All.{all_stop}
use Rattle.calling.specs.Commands.{pins_kind, kind_of, call_at, kind_fits, calls_tests}

module _ (l : List ℕ) where
  -- the kinds of the first n calls
  abbrev pub KindsFit : ℕ → Type 0
  KindsFit n = all_below (λ i. kind_fits (kind_of l i)) n ≡ true

  -- the verdict, test by test
  pub kind_not_due : (i : ℕ) → i < length l / 3 → kind_fits (kind_of l i) ≡ false → some 2 ≡ refusal (calls_tests l)
  unfolding calls_tests
  kind_not_due i h e = sym (refusal_here _ _ (sym (all_stop (λ i. kind_fits (kind_of l i)) i (length l / 3) h e)))

  module _ (e : KindsFit (length l / 3)) where
    pub last_cut : (length l % 3 ≡ 0 → ⊥) → some 1 ≡ refusal (calls_tests l)
    unfolding calls_tests
    last_cut n = sym (refusal_past _ _ e ∙ refusal_here _ _ (ne_eqb (length l % 3) 0 n))

    pub whole_calls : length l % 3 ≡ 0 → none ≡ refusal (calls_tests l)
    unfolding calls_tests
    whole_calls n = sym (refusal_past _ _ e ∙ refusal_last _ (eq-eqb (length l % 3) 0 n))

  -- the call in a place, by its kind
  pub call_pins : (i : ℕ) → get_or l (3 * i) 0 ≡ pins_kind → pin (get_or l (3 * i + 1) 0) (get_or l (3 * i + 2) 0) ≡ call_at l i
  unfolding call_at kind_of
  call_pins i e = rw (eq-eqb (get_or l (3 * i) 0) pins_kind e)

  pub call_lifts : (i : ℕ) → (get_or l (3 * i) 0 ≡ pins_kind → ⊥) → lift (get_or l (3 * i + 1) 0) ≡ call_at l i
  unfolding call_at kind_of
  call_lifts i e = rw (ne_eqb (get_or l (3 * i) 0) pins_kind e)
