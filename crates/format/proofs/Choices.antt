-- A choice and its number: the mark stands for none and for nothing else, and every other number for itself.
use Prim.Native.Nat.{ℕ}
use mathlib.Core.Path.{◌≡◌, refl, sym}
use mathlib.Core.Bool.{Bool, true, false}
use mathlib.Core.Option.{none, some, some-injective, none-ne-some}
use lib.Dec.{eqb}
use borrow.Author.Tests.{eqb-true, eq-eqb, ne_eqb}
use Rattle.std.specs.Prelude.{if◌then◌else◌}
use Rattle.format.specs.Choices.{no_choice, choice_under, choice_of, choice_number}
use Rattle.format.specs.Claims.{Marked}

-- under any mark: none is the mark, and a choice is its number
module _ (mark : ℕ) where
  pub under_none : (x : ℕ) → choice_under mark x ≡ none → x ≡ mark
  unfolding choice_under
  under_none x e = go (eqb x mark) refl e
    where
      go : (t : Bool) → eqb x mark ≡ t → (if t then none else some x) ≡ none → x ≡ mark
      go true q r = eqb-true x mark q
      go false q r = absurd (none-ne-some x (sym r))

  pub under_some : (x y : ℕ) → choice_under mark x ≡ some y → x ≡ y
  unfolding choice_under
  under_some x y e = go (eqb x mark) e
    where
      go : (t : Bool) → (if t then none else some x) ≡ some y → x ≡ y
      go true r = absurd (none-ne-some y r)
      go false r = some-injective x y r

  pub under_mark : choice_under mark mark ≡ none
  unfolding choice_under
  under_mark = rw (eq-eqb mark mark refl)

  pub under_choice : (x : ℕ) → (x ≡ mark → ⊥) → choice_under mark x ≡ some x
  unfolding choice_under
  under_choice x h = rw (ne_eqb x mark h)

-- under that of today
pub number_none : (x : ℕ) → choice_of x ≡ none → x ≡ no_choice
number_none = under_none no_choice

pub number_some : (x y : ℕ) → choice_of x ≡ some y → x ≡ y
number_some = under_some no_choice

pub of_mark : choice_of no_choice ≡ none
of_mark = under_mark no_choice

pub of_choice : (x : ℕ) → (x ≡ no_choice → ⊥) → choice_of x ≡ some x
of_choice = under_choice no_choice

pub number_back : (x : ℕ) → choice_number (choice_of x) ≡ x
unfolding choice_under choice_number
number_back x = go (eqb x no_choice) refl
  where
    go : (t : Bool) → eqb x no_choice ≡ t → choice_number (if t then none else some x) ≡ x
    go true q = sym (eqb-true x no_choice q)
    go false q = refl

pub marked : Marked
marked x = record { mark = λ e. rw e of_mark; choice = of_choice x }
