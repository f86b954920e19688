-- What writing a set after a call asks.
use Rattle.std.specs.Prelude.{ℕ, ◌≤◌, ◌≡◌}
use Rattle.std.proofs.Math.Option.{none}
use Rattle.pinning.specs.Calls.{Handed}

-- where the call was taken, there is room for the set
abbrev pub Room : Handed → ℕ → Type 0
Room h n = h.refused ≡ none → 528 ≤ n
