-- A call that fills a list which the caller lends: its answer, and the list after it.
use Rattle.std.specs.Prelude.{ℕ, ◌≡◌, List, ◌++◌, length, take, drop}
use Rattle.base.specs.Answer.{Answer, refused, gives}

pub record Ended (A : Type 0) : Type 0 where
  pub answer : Answer A
  pub list : List ℕ

-- these numbers first, the rest of the list as before
unfoldable pub over : List ℕ → List ℕ → List ℕ
over new old = new ++ drop (length new) old

-- the same from a place on
unfoldable pub over_at : ℕ → List ℕ → List ℕ → List ℕ
over_at at new old = take at old ++ over new (drop at old)

-- a refusal writes nothing
unfoldable pub refuse : {A : Type 0} → List ℕ → ℕ → Ended A
refuse list n = record { answer = refused n; list = list }

-- the list after a call that writes these numbers, unless it is refused
unfoldable pub put : {A : Type 0} → Answer A → (A → List ℕ) → List ℕ → List ℕ
put (refused n) f list = list
put (gives a) f list = over (f a) list

-- a refusal, if there is one, leaves the list as it came
abbrev pub Keeping : {A : Type 0} → List ℕ → Ended A → Type 0
Keeping list r = (n : ℕ) → r.answer ≡ refused n → r.list ≡ list
