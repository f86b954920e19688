-- What the list of larger buckets answers, and what it leaves in the two lists that were lent (document 02, E13).
use Rattle.std.specs.Prelude.{ℕ, ◌+◌, ◌-◌, List, [], ◌∷◌, leb, length}
use Rattle.trellis.specs.Table.{encode}
use Rattle.base.specs.Answer.{Answer, refused, gives}
use Rattle.base.specs.Refusals.{Test, test, guarded}
use Rattle.base.specs.Lists.{build}
use Rattle.base.specs.Lent.{over}
use Rattle.model.specs.Job.{bucket_at, Job, on_line}
use Rattle.model.specs.Pins.{PinMap}
use Rattle.model.specs.Best.{unlimited, least_total}
use Rattle.model.specs.Table.{mark, words}
use Rattle.format.specs.Parser.{on_read}
use Rattle.format.specs.JobBytes.{opening}
use Rattle.pinning.specs.PinSet.{PinSet, lines}
use Rattle.pinning.specs.Check.{checked}
use Rattle.planning.specs.Words.{table_from}
use Rattle.enlarging.specs.Larger.{with_size}

-- the largest size of a first bucket
abbrev pub largest : ℕ
largest = 255

-- K, the size of the job's own, and how many sizes there are from it to the largest
abbrev pub own_size : Job → ℕ
own_size j = (bucket_at j.line.buckets 0).size

unfoldable pub sizes : Job → ℕ
sizes j = (largest + 1) - own_size j

-- the job with a first bucket of another size, all else equal
abbrev pub sized : Job → ℕ → Job
sized j size = on_line j (with_size j.line 0 size)

-- the least total that holds the pins with a first bucket of this size, or 4,294,967,295 where there is no plan
unfoldable pub least_at : Job → PinMap → ℕ → ℕ
least_at j m size = encode mark (least_total (sized j size) (unlimited m) 0 j.start)

-- size after size
unfoldable pub least_totals : Job → PinMap → List ℕ
least_totals j m = build (sizes j) (λ i. least_at j m (own_size j + i))

-- the answer, and the lists that were lent for the table and the totals
pub record Listed : Type 0 where
  pub answer : Answer (Unit {0})
  pub table : List ℕ
  pub totals : List ℕ

-- a refusal writes nothing
unfoldable pub refuse : List ℕ → List ℕ → ℕ → Listed
refuse table totals n = record { answer = refused n; table = table; totals = totals }

-- what is tested of a job that the set matches: the table, judged at the largest size, 11, then the list for the totals, 12
unfoldable pub size_tests : Job → ℕ → ℕ → List Test
size_tests j table totals = test 11 (leb (words (sized j largest)) table) ∷ test 12 (leb (sizes j) totals) ∷ []

-- the totals, and the table of the largest size
unfoldable pub list_in : Job → PinMap → List ℕ → List ℕ → Listed
list_in j m table totals = record {
  answer = gives tt;
  table = table_from ◌+◌ (sized j largest) (unlimited m) 0 table;
  totals = over (least_totals j m) totals;
}

-- with the pins of a set
unfoldable pub list_all : Job → PinSet → List ℕ → List ℕ → Listed
list_all j s table totals = guarded (refuse table totals) (size_tests j (length table) (length totals)) (list_in j (lines (length j.units) s.pins) table totals)

-- the job, 1 to 5 and 17, the set, 6, then the tests above
unfoldable pub sizes_call : List ℕ → PinSet → List ℕ → List ℕ → Listed
sizes_call b s table totals = on_read (refuse table totals) (checked opening b s) (λ j. list_all j s table totals)
