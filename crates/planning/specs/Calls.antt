-- What planning answers, and what it leaves in the two lists that were lent (document 01, "The best plan" and "Where each refusal is checked"; document 02, E7).
use Rattle.std.specs.Prelude.{ℕ, ◌+◌, ◌-◌, ◌*◌, List, [], ◌∷◌, leb, length}
use Rattle.std.proofs.Math.Option.{Option, none, some}
use Rattle.base.specs.Answer.{Answer, refused, gives}
use Rattle.base.specs.Refusals.{Test, test, guarded}
use Rattle.model.specs.Job.{Levels, Job, intervals}
use Rattle.model.specs.Pins.{PinMap}
use Rattle.model.specs.Replay.{Totals, totals}
use Rattle.model.specs.Best.{Order, Open, least_total, best_plan, Aim, open_for}
use Rattle.model.specs.Table.{words}
use Rattle.format.specs.Parser.{on_read}
use Rattle.format.specs.JobBytes.{opening}
use Rattle.pinning.specs.PinSet.{PinSet, lines}
use Rattle.pinning.specs.Check.{checked}
use Rattle.replaying.specs.Entries.{entry_size, entry_bytes}
use Rattle.base.specs.Lent.{over}
use Rattle.planning.specs.Words.{table_from}

-- the answer, and the lists that were lent for the table and the entries
pub record Planned : Type 0 where
  pub answer : Answer Totals
  pub table : List ℕ
  pub entries : List ℕ

-- a refusal writes nothing
unfoldable pub refuse : List ℕ → List ℕ → ℕ → Planned
refuse table entries n = record { answer = refused n; table = table; entries = entries }

-- what a search for the intervals after s found with the choices k open, from the levels `start` there: 13, which leaves the table and keeps the entries; or the best plan, its totals and its bytes
unfoldable pub searched : Job → Open → Order → ℕ → Levels → Option ℕ → List ℕ → List ℕ → Planned
searched j k o s start none table entries = record {
  answer = refused 13;
  table = table_from ◌+◌ j k s table;
  entries = entries;
}
searched j k o s start (some v) table entries = record {
  answer = gives (totals j s start (best_plan j k s start o));
  table = table_from ◌+◌ j k s table;
  entries = over (entry_bytes (best_plan j k s start o)) entries;
}

-- with the choices that hold the pins, and that the aim leaves open
unfoldable pub search_in : Job → PinMap → Aim → Order → ℕ → Levels → List ℕ → List ℕ → Planned
search_in j m a o s start table entries = searched j (open_for a j m s start) o s start (least_total j (open_for a j m s start) s start) table entries

-- what planning of the intervals after s is tested for: the table, 11, then the list for their entries, 12
unfoldable pub plan_tests : Job → ℕ → ℕ → ℕ → List Test
plan_tests j s table entries = test 11 (leb (words j) table) ∷ test 12 (leb (entry_size * (intervals j - s)) entries) ∷ []

unfoldable pub plan_in : Job → PinMap → Aim → Order → ℕ → Levels → List ℕ → List ℕ → Planned
plan_in j m a o s start table entries = guarded (refuse table entries) (plan_tests j s (length table) (length entries)) (search_in j m a o s start table entries)

-- the whole job with the pins of a set, from its starting levels
abbrev pub plan_all : Job → PinSet → Aim → Order → List ℕ → List ℕ → Planned
plan_all j s a o table entries = plan_in j (lines (length j.units) s.pins) a o 0 j.start table entries

-- the job, 1 to 5 and 17, the set, 6, then the two lists
unfoldable pub plan_call : List ℕ → PinSet → Aim → Order → List ℕ → List ℕ → Planned
plan_call b s a o table entries = on_read (refuse table entries) (checked opening b s) (λ j. plan_all j s a o table entries)
