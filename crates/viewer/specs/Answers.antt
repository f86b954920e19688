-- What is told of a call that sees, and what that asks.
use Rattle.std.specs.Prelude.{ℕ, ◌≤◌, ◌≡◌, List, ltb, if◌then◌else◌, Result, Ok}
use Rattle.std.proofs.Math.Option.{Option, none, some}
use Rattle.format.specs.JobBytes.{Header}
use Rattle.pinning.specs.Calls.{Handed}
use Rattle.table.specs.Answers.{table_words}
use Rattle.header.specs.declared.refusal.Refusal.{Refusal}
use Rattle.header.specs.Refusals.{code}
use Rattle.see.specs.declared.Seen.{Seen}
use Rattle.see.specs.Answers as see
use Rattle.exporting.specs.Sets as exported
use Rattle.exporting.specs.Sets.{after_see}

-- with no room for the value: the call's own refusal, 11 for a table of so few words, then 12
unfoldable pub unseen_by : Option ℕ → Header → ℕ → ℕ
unseen_by (some n) h table = n
unseen_by none h table = if ltb table (table_words h) then 11 else 12

abbrev pub unseen : Handed → ℕ → ℕ
unseen r table = unseen_by r.refused r.set.header table

-- where the call was taken, there is room for the set and the value
abbrev pub Room : Seen → ℕ → ℕ → Type 0
Room s set values = (w : ℕ) → s.answer ≡ Ok w → (528 ≤ set) × (1 ≤ values)

-- the number, the set and the values, whatever became of the table
abbrev pub Told : Seen → List ℕ → List ℕ → Result (Unit {0}) Refusal → List ℕ → List ℕ → Type 0
Told s set values r new-set new-values = (table : List ℕ) → exported.seen (code r) new-set table new-values ≡ after_see (see.answered s.answer) (see.seen s table) set values
