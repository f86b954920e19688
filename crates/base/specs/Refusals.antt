-- What a call looks at before it does its work, in order: each test has a number, and the first that does not pass refuses the call by it (document 01, "Where each refusal is checked").
use Rattle.std.specs.Prelude.{ℕ, ◌≡◌, Bool, List, [], ◌∷◌, if◌then◌else◌}
use Rattle.std.proofs.Math.Option.{Option, none, some}

pub record Test : Type 0 where
  pub passes : Bool
  pub number : ℕ

abbrev pub test : ℕ → Bool → Test
test n t = record { passes = t; number = n }

-- the number of the first test that does not pass
unfoldable pub refusal : List Test → Option ℕ
refusal [] = none
refusal (t ∷ ts) = if t.passes then refusal ts else some t.number

-- What a call answers and leaves, of a type R: a refusal that comes first, if there is one, else the work. `refuse` says what a refusal answers and leaves
unfoldable pub unless : {R : Type 0} → (ℕ → R) → Option ℕ → R → R
unless refuse (some n) r = refuse n
unless refuse none r = r

-- the first refusal of two
abbrev pub first : Option ℕ → Option ℕ → Option ℕ
first o p = unless some o p

unfoldable pub guarded : {R : Type 0} → (ℕ → R) → List Test → R → R
guarded refuse ts r = unless refuse (refusal ts) r

-- The same in words: what has to hold, and the number where it does not.
pub record Condition : Type 1 where
  pub Holds : Type 0
  pub number : ℕ

abbrev pub condition : ℕ → Type 0 → Condition
condition n P = record { Holds = P; number = n }

-- the first condition that does not hold refuses by its number; where all hold, r is as `Else` says
abbrev pub InOrder : {R : Type 0} → R → (ℕ → R) → List Condition → Type 0 → Type 0
InOrder r refuse [] Else = Else
InOrder r refuse (c ∷ cs) Else = ((c.Holds → ⊥) → r ≡ refuse c.number) × (c.Holds → InOrder r refuse cs Else)
