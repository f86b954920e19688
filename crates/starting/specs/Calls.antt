-- What planning from given levels of the buckets answers and leaves (document 02, E14).
use Rattle.std.specs.Prelude.{ℕ, Bool, true, false, List, [], ◌∷◌, leb, length, if◌then◌else◌}
use Rattle.base.specs.Refusals.{Test, test, guarded}
use Rattle.model.specs.Job.{Levels, Job}
use Rattle.model.specs.Best.{Order, Aim}
use Rattle.model.specs.Table.{sizes}
use Rattle.format.specs.Parser.{on_read}
use Rattle.format.specs.JobBytes.{opening}
use Rattle.pinning.specs.PinSet.{PinSet, lines}
use Rattle.pinning.specs.Check.{checked}
use Rattle.planning.specs.Calls.{Planned, refuse, plan_tests, search_in}

-- as many levels as sizes, each at most its size
unfoldable pub levels_fit : List ℕ → List ℕ → Bool
levels_fit [] [] = true
levels_fit [] (l ∷ ls) = false
levels_fit (k ∷ ks) [] = false
levels_fit (k ∷ ks) (l ∷ ls) = if leb l k then levels_fit ks ls else false

-- these levels of the buckets in place of the job's; the decoder's is the job's own
unfoldable pub start_with : Job → List ℕ → Levels
start_with j ls = record { decoder = j.start.decoder; buckets = ls }

-- other levels are refused with 20, before all that planning is tested for
unfoldable pub level_tests : Job → List ℕ → ℕ → ℕ → List Test
level_tests j ls table entries = test 20 (levels_fit (sizes j.line) ls) ∷ plan_tests j 0 table entries

-- the whole job with the pins of a set, from these levels
unfoldable pub plan_with : Job → PinSet → List ℕ → Aim → Order → List ℕ → List ℕ → Planned
plan_with j s ls a o table entries = guarded (refuse table entries) (level_tests j ls (length table) (length entries)) (search_in j (lines (length j.units) s.pins) a o 0 (start_with j ls) table entries)

-- the job, 1 to 5 and 17, the set, 6, then the above
unfoldable pub levels_call : List ℕ → PinSet → List ℕ → Aim → Order → List ℕ → List ℕ → Planned
levels_call b s ls a o table entries = on_read (refuse table entries) (checked opening b s) (λ j. plan_with j s ls a o table entries)
