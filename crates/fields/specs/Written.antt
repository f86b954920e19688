-- Bytes written into a list.
use Rattle.std.specs.Prelude.{ℕ, List}
use Rattle.std.proofs.lemmas.List.Edits.{sets}

-- these bytes from a place on, the rest of the list as before
unfoldable pub put_at : List ℕ → ℕ → List ℕ → List ℕ
put_at l at new = sets l at new
