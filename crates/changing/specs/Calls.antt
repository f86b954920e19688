-- What a change of contract answers, and what it leaves in the two lists that were lent (document 02, E12).
use Rattle.std.specs.Prelude.{ℕ, ◌-◌, ◌*◌, Bool, true, false, List, [], ◌∷◌, ◌++◌, leb, length, take, drop}
use Rattle.std.proofs.Math.Option.{Option, none, some}
use Rattle.base.specs.Answer.{Answer, refused, gives}
use Rattle.base.specs.Refusals.{Test, test, guarded}
use Rattle.model.specs.Job.{Levels, Job, Entry, intervals}
use Rattle.model.specs.Pins.{PinMap}
use Rattle.model.specs.Step.{overfull}
use Rattle.model.specs.Replay.{Totals, totals, plus, Result, clean, stopped, Replay, replay, last_levels}
use Rattle.model.specs.Best.{Order, total}
use Rattle.model.specs.Table.{words}
use Rattle.format.specs.Limits.{limit, kept, each_kept}
use Rattle.format.specs.Parser.{on_read}
use Rattle.format.specs.JobBytes.{header_in, opening, drain_limits, rate_limits}
use Rattle.pinning.specs.PinSet.{PinSet, lines}
use Rattle.pinning.specs.Check.{checked}
use Rattle.replaying.specs.Entries.{entry_size, plan_of, shaped}
use Rattle.planning.specs.Calls.{Planned, refuse, search_in}
use Rattle.changing.specs.NewContract.{Contract, policed_under, contract_limits, under}

-- "The first s entries remain, with the levels they led to": their replay under the old contract
module _ (j : Job) (m : PinMap) (s : ℕ) (old : List ℕ) where
  abbrev pub remaining : List Entry
  remaining = take s (plan_of j old)

  unfoldable pub front : Replay
  front = replay j m 0 j.start remaining

  unfoldable pub carried : Levels
  carried = last_levels j.start front.levels

unfoldable pub is_clean : Result → Bool
is_clean clean = true
is_clean (stopped t v) = false

-- no bucket holds more than its size
unfoldable pub none_over : Option ℕ → Bool
none_over none = true
none_over (some i) = false

-- where the rest is planned for the job k, which is j under the new contract: s, 18, a violation by s, 19, the levels that are carried, 20; then the table, which has the new buckets, 11, and the list for all entries, 12
unfoldable pub rest_tests : Job → Job → PinMap → List ℕ → ℕ → ℕ → ℕ → List Test
rest_tests j k m old s table entries =
    test 18 (kept (limit 18 1 (intervals j - 1) s))
    ∷ test 19 (is_clean (front j m s old).result)
    ∷ test 20 (none_over (overfull k.line.buckets (carried j m s old).buckets))
    ∷ test 11 (leb (words k) table)
    ∷ test 12 (leb (entry_size * intervals j) entries)
    ∷ []

-- what is tested of a job that the set matches: the old plan, 14; the new contract, 3, 17 and 4; then the above
unfoldable pub change_tests : Job → PinMap → List ℕ → ℕ → Contract → ℕ → ℕ → List Test
change_tests j m old s c table entries =
    test 14 (shaped (header_in j) old)
    ∷ test 3 (each_kept (contract_limits (length j.line.buckets) c))
    ∷ test 17 (each_kept (drain_limits opening (policed_under c)))
    ∷ test 4 (each_kept (rate_limits 0 c.rates))
    ∷ rest_tests j (under j c) m old s table entries

-- the continuation that a search found, behind the entries that remain: the totals of both parts, and all entries; 13 keeps the entries
unfoldable pub both_totals : Totals → Answer Totals → Answer Totals
both_totals before (refused n) = refused n
both_totals before (gives rest) = gives (plus before rest)

unfoldable pub all_entries : Answer Totals → List ℕ → List ℕ → List ℕ → List ℕ
all_entries (refused n) first rest entries = entries
all_entries (gives t) first rest entries = first ++ rest

unfoldable pub behind : Totals → List ℕ → List ℕ → Planned → Planned
behind before first entries r = record { answer = both_totals before r.answer; table = r.table; entries = all_entries r.answer first r.entries entries }

-- the rest is planned afresh for the job k, from the levels that are carried and with the pins kept
unfoldable pub change_in : Job → Job → PinMap → List ℕ → ℕ → Order → List ℕ → List ℕ → Planned
change_in j k m old s o table entries =
    behind (totals j 0 j.start (remaining j m s old)) (take (entry_size * s) old) entries
    (search_in k m total o s (carried j m s old) table (drop (entry_size * s) entries))

-- the job, 1 to 5 and 17, the set, 6, then the tests above
unfoldable pub change_call : List ℕ → PinSet → List ℕ → ℕ → Contract → Order → List ℕ → List ℕ → Planned
change_call b p old s c o table entries = on_read (refuse table entries) (checked opening b p) (λ j. let m = lines (length j.units) p.pins in guarded (refuse table entries) (change_tests j m old s c (length table) (length entries)) (change_in j (under j c) m old s o table entries))
