-- What an entry of the code means in the terms of `replaying`.
use Rattle.std.specs.Prelude.{ℕ, ◌≡◌, List, [], ◌∷◌}
use Rattle.format.specs.Fields.{spelled}
use Rattle.replaying.specs.Entries.{entry_widths, rate_field, choice_field}
use Rattle.entry.specs.declared.Entry.{Entry}

-- the bytes of these numbers
unfoldable pub entry_numbers : ℕ → ℕ → List ℕ
entry_numbers rate choice = spelled entry_widths (rate ∷ choice ∷ [])

-- the entry in a place
pub record EntryRead (b : List ℕ) (place : ℕ) (e : Entry) : Type 0 where
  pub rate : e.rate ≡ rate_field b place
  pub choice : e.choice ≡ choice_field b place
