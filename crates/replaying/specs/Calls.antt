-- What replay and the effective buffer report answer, and what they leave in the list that was lent (document 01, "Levels, interval by interval" and "Where each refusal is checked").
use Rattle.std.specs.Prelude.{ℕ, suc, ◌*◌, List, [], ◌∷◌, ◌++◌, leb, length}
use Rattle.base.specs.Refusals.{Test, test, guarded}
use Rattle.base.specs.Answer.{gives}
use Rattle.base.specs.Lent.{Ended, over, refuse}
use Rattle.model.specs.Job.{Levels, Job, intervals}
use Rattle.model.specs.Levels.{effective_buffers}
use Rattle.model.specs.Pins.{PinMap}
use Rattle.model.specs.Admissible.{Violation}
use Rattle.model.specs.Replay.{Totals, totals, Result, clean, stopped, replay}
use Rattle.format.specs.Parser.{on_read}
use Rattle.format.specs.JobBytes.{header_in, parse, archive}
use Rattle.pinning.specs.PinSet.{PinSet, lines}
use Rattle.pinning.specs.Check.{checked}
use Rattle.replaying.specs.Entries.{plan_of, shaped}

-- the totals, or the first interval with a violation, counted from 1, and its first violation
pub data Replayed : Type 0 where
  totals_are : Totals → Replayed
  violated : ℕ → Violation → Replayed

unfoldable pub replayed : Totals → Result → Replayed
replayed s clean = totals_are s
replayed s (stopped t v) = violated t v

-- the levels as one list, interval after interval, the decoder's first
unfoldable pub flat : List Levels → List ℕ
flat [] = []
flat (l ∷ ls) = l.decoder ∷ (l.buckets ++ flat ls)

-- how many numbers the levels of a job's intervals are
unfoldable pub level_count : Job → ℕ
level_count j = suc (length j.line.buckets) * intervals j

-- the replay of a plan in shape with these pins, its levels over the first numbers of the list
unfoldable pub played : Job → PinMap → List ℕ → List ℕ → Ended Replayed
played j m entries levels = record {
  answer = gives (replayed (totals j 0 j.start (plan_of j entries)) (replay j m 0 j.start (plan_of j entries)).result);
  list = over (flat (replay j m 0 j.start (plan_of j entries)).levels) levels;
}

-- what replay is tested for, of a job that the set matches: the plan's shape, 14, then the list, 12
unfoldable pub replay_tests : Job → List ℕ → ℕ → List Test
replay_tests j entries levels = test 14 (shaped (header_in j) entries) ∷ test 12 (leb (level_count j) levels) ∷ []

-- the job, 1 to 5, the set, 6, then the plan and the list
unfoldable pub replay_call : List ℕ → PinSet → List ℕ → List ℕ → Ended Replayed
replay_call b s entries levels = on_read (refuse levels) (checked archive b s) (λ j. guarded (refuse levels) (replay_tests j entries (length levels)) (played j (lines (length j.units) s.pins) entries levels))

-- the report of a plan in shape
unfoldable pub reported : Job → List ℕ → List ℕ → Ended (Unit {0})
reported j entries sums = record { answer = gives tt; list = over (effective_buffers j (plan_of j entries)) sums }

unfoldable pub report_tests : Job → List ℕ → ℕ → List Test
report_tests j entries sums = test 14 (shaped (header_in j) entries) ∷ test 12 (leb (suc (length j.units)) sums) ∷ []

-- the report takes no set: 1 to 5, then 14, then 12
unfoldable pub report_call : List ℕ → List ℕ → List ℕ → Ended (Unit {0})
report_call b entries sums = on_read (refuse sums) (parse archive b) (λ j. guarded (refuse sums) (report_tests j entries (length sums)) (reported j entries sums))
