-- The claim of the exported list of larger buckets, composed from that of the call within it: `Listings`.
use Prim.Native.Nat.{ℕ}
use mathlib.Core.Path.{◌≡◌, refl, ap}
use mathlib.Core.List.{List, ◌∷◌}
use Rattle.base.specs.Answer.{gives}
use Rattle.base.specs.Refusals.{condition}
use Rattle.model.specs.Job.{Job}
use Rattle.format.specs.JobBytes.{opening, parse}
use Rattle.pinning.specs.Check.{Matches}
use Rattle.pinning.specs.Numbers.{set_in}
use Rattle.planning.specs.Seeing.{pins_of}
use Rattle.enlarging.specs.Calls as enlarging
use Rattle.enlarging.specs.Calls.{sizes_call}
use Rattle.enlarging.specs.Claims.{Asks, SizesClaim}
use Rattle.enlarging.proofs.Sizes.{sizes_calls}
use Rattle.exporting.specs.Exports.{number_of}
use Rattle.exporting.specs.Larger.{listed, after_list, Listing, Listings}
use Rattle.exporting.proofs.Exports.{given_zero, looks_through}

-- a list that is written, and a refusal, as they are exported
done_shown : (r : enlarging.Listed) → r.answer ≡ gives tt → after_list r ≡ listed 0 r.table r.totals
unfolding after_list
done_shown r q = ap (λ (n : ℕ). listed n r.table r.totals) (given_zero r.answer tt q)

refusal_shown : (table totals : List ℕ) (n : ℕ) → after_list (enlarging.refuse table totals n) ≡ listed n table totals
unfolding after_list enlarging.refuse number_of
refusal_shown table totals n = refl

-- what is exported of a list of which the claim of `enlarging` holds
exported_list : (j : Job) (set table totals : List ℕ) (r : enlarging.Listed) → SizesClaim j (pins_of j (set_in set)) table totals r → Listing j set table totals (after_list r)
exported_list j set table totals r c = record { inner = r; claim = c; is = done_shown r c.done }

pub listings : Listings
unfolding after_list
listings b set table totals =
    looks_through after_list _ (enlarging.refuse table totals) (λ n. listed n table totals) (parse opening b) (λ j. condition 6 (Matches j (set_in set)) ∷ Asks j table totals) (λ j. SizesClaim j (pins_of j (set_in set)) table totals (sizes_call b (set_in set) table totals)) _
    (refusal_shown table totals) (λ j c. exported_list j set table totals _ c) (sizes_calls b (set_in set) table totals)
