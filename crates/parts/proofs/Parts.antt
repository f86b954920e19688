-- What a bucket's part and a pin come to.
use Prim.Native.Nat.{ℕ}
use mathlib.Core.Path.{◌≡◌, refl, sym}
use mathlib.Core.Bool.{Bool, true, false}
use mathlib.Core.Option.{Option}
use native.Mathlib.Omega.{arith}
use lib.Dec.{eqb}
use borrow.Author.Tests.{eqb-true, eq-eqb, ne_eqb}
use Rattle.model.specs.Step.{Drained, same_choice, pin_held}
use Rattle.format.specs.Choices.{no_choice, choice_of}
use Rattle.format.proofs.Choices.{of_mark, of_choice}

pub no_pin_holds : (pin : ℕ) (o : Option ℕ) → pin ≡ no_choice → true ≡ pin_held (choice_of pin) o
unfolding pin_held
no_pin_holds pin o e = rw (e, of_mark)

pub pin_holds_by : (pin choice : ℕ) → (pin ≡ no_choice → ⊥) → eqb choice pin ≡ pin_held (choice_of pin) (choice_of choice)
unfolding pin_held same_choice
pin_holds_by pin choice h = rw (of_choice pin h) (go (eqb choice no_choice) refl)
  where
    go : (t : Bool) → eqb choice no_choice ≡ t → eqb choice pin ≡ same_choice (choice_of choice) pin
    go true e = let q = eqb-true choice no_choice e in rw (q, of_mark) (ne_eqb no_choice pin (λ z. h (sym z)))
    go false e = rw (of_choice choice (λ z. let y : ◌≡◌ {A = ℕ} 0 1 = cc (eq-eqb choice no_choice z) in omega arith))

pub drained_same : {a a' b b' : ℕ} → a ≡ a' → b ≡ b' → ◌≡◌ {A = Drained} (record { level = a; unused = b }) (record { level = a'; unused = b' })
drained_same p q = cc
