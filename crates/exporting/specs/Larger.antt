-- What the exported list of larger buckets answers and leaves (document 02, E13): the inner call's answer as a number, 0 where it is not refused; and what is claimed of it.
use Rattle.std.specs.Prelude.{ℕ, ◌≡◌, List, ◌∷◌}
use Rattle.base.specs.Refusals.{condition}
use Rattle.model.specs.Job.{Job}
use Rattle.format.specs.Parser.{Looks}
use Rattle.format.specs.JobBytes.{opening, parse}
use Rattle.pinning.specs.Check.{Matches}
use Rattle.pinning.specs.Numbers.{set_in}
use Rattle.planning.specs.Seeing.{pins_of}
use Rattle.enlarging.specs.Calls as enlarging
use Rattle.enlarging.specs.Calls.{sizes_call}
use Rattle.enlarging.specs.Claims.{Asks, SizesClaim}
use Rattle.exporting.specs.Exports.{number_of}

pub record Listed : Type 0 where
  pub number : ℕ
  pub table : List ℕ
  pub totals : List ℕ

abbrev pub listed : ℕ → List ℕ → List ℕ → Listed
listed n table totals = record { number = n; table = table; totals = totals }

unfoldable pub after_list : enlarging.Listed → Listed
after_list r = listed (number_of r.answer) r.table r.totals

abbrev pub sizes_export : List ℕ → List ℕ → List ℕ → List ℕ → Listed
sizes_export b set table totals = after_list (sizes_call b (set_in set) table totals)

-- where nothing refuses it, the number is 0, and the lists are those of which the claim of `enlarging` holds
pub record Listing (j : Job) (set table totals : List ℕ) (r : Listed) : Type 0 where
  pub inner : enlarging.Listed
  pub claim : SizesClaim j (pins_of j (set_in set)) table totals inner
  pub is : r ≡ listed 0 inner.table inner.totals

abbrev pub Listings : Type 0
Listings = (b set table totals : List ℕ) → Looks (sizes_export b set table totals) (λ n. listed n table totals) (parse opening b) (λ j. condition 6 (Matches j (set_in set)) ∷ Asks j table totals) (λ j. Listing j set table totals (sizes_export b set table totals))
