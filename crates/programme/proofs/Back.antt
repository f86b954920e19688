-- The numbers of a list of programmes tell that list: `ToldBack`.
use mathlib.Core.Path.{refl, ap}
use mathlib.Core.List.{List, [], ◌∷◌}
use Rattle.playlists.specs.Calls as playlists
use Rattle.playlists.specs.Calls.{programmes}
use Rattle.programme.specs.Programmes.{programme_is, ToldBack}

pub told_back : ToldBack
unfolding programmes programme_is
told_back [] = refl
told_back (p ∷ ps) = ap (λ (l : List playlists.Programme). programme_is p ∷ l) (told_back ps)
