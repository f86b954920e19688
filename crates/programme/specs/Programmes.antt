-- The numbers that a list of programmes is written as: first byte and length of each, pair after pair.
use Rattle.std.specs.Prelude.{ℕ, ◌/◌, min, ◌≡◌, List, [], ◌∷◌, map}
use Rattle.playlists.specs.Calls as playlists
use Rattle.playlists.specs.Calls.{programmes}
use Rattle.programme.specs.declared.Programme.{Programme}

-- the numbers that a list is written as
abbrev pub numbers_of : List Programme → List ℕ
numbers_of [] = []
numbers_of (p ∷ ps) = p.first ∷ p.length ∷ numbers_of ps

-- how many of n programmes have room in m places: each takes two
abbrev pub fitting : ℕ → ℕ → ℕ
fitting n m = min n (m / 2)

-- a programme in the terms of `playlists`, and the list in the numbers that it is written as
unfoldable pub programme_is : Programme → playlists.Programme
programme_is p = record { first = p.first; size = p.length }

abbrev pub ToldBack : Type 0
ToldBack = (ps : List Programme) → programmes (numbers_of ps) ≡ map programme_is ps
