-- The answer of a playlist as one number, case by case.
use Prim.Native.Nat.{ℕ, ◌+◌, ◌*◌}
use mathlib.Core.Path.{◌≡◌}
use mathlib.Core.List.{List}
use Rattle.std.specs.Prelude.{Result, Ok, Err}
use Rattle.header.specs.declared.refusal.Refusal.{Refusal}
use Rattle.header.specs.Refusals.{number}
use Rattle.playlist.specs.declared.Stopped.{Stopped}
use Rattle.playlist.specs.declared.Stopped.TheVariants as o
use Rattle.playlist.specs.Answers.{outcome, played}
use Rattle.playlists.specs.Calls.{playlist_call}
use Rattle.exporting.specs.Playlists.{told, playlisted, after_list, playlist_export}

-- what the call within left, with its answer as a number
pub exported : (b ns table entries totals : List ℕ) (x : Result (Unit {0}) Stopped) (t e u : List ℕ) → played x t e u ≡ playlist_call b ns table entries totals → (n : ℕ) → n ≡ told (outcome x) → playlisted n t e u ≡ playlist_export b ns table entries totals
unfolding after_list played
exported b ns table entries totals x t e u q n w = rw (← q, w)
