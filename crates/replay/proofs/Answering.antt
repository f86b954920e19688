-- What replay answers and leaves, from what the check and the tests answered.
use Prim.Native.Nat.{ℕ, suc, ◌+◌, ◌*◌, ◌<◌, ◌≤◌}
use mathlib.Core.Path.{◌≡◌, sym, ◌∙◌, ap, ap₂}
use mathlib.Core.Bool.{true, false}
use mathlib.Core.List.{List, [], ◌∷◌}
use native.Mathlib.Omega.{arith}
use lib.ListN.{length}
use lib.Dec.{leb}
use borrow.Author.Tests.{le-leb, lt-leb}
use Rattle.base.specs.Refusals.{test, guarded}
use Rattle.base.proofs.Refusals.{guarded_past, guarded_here, guarded_last}
use Rattle.base.specs.Answer.{refused}
use Rattle.model.specs.Job.{Job}
use Rattle.format.specs.Parser.{on_read}
use Rattle.format.specs.Parser as P
use Rattle.format.specs.JobBytes.{Header, archive, job_in, Opens}
use Rattle.format.proofs.Opened.{units_are, intervals_are}
use Rattle.pinning.specs.PinSet.{PinSet, lines}
use Rattle.pinning.specs.Check.{checked, Ready}
use Rattle.pinning.proofs.Agree.{matched}
use Rattle.replaying.specs.Entries.{shaped}
use Rattle.base.specs.Lent.{Ended, refuse}
use Rattle.replaying.specs.Calls.{Replayed, level_count, played, replay_tests, replay_call}
use Rattle.replay.proofs.Levels.{bucket_count}

-- the bytes of a job with this header
module _ (b : List ℕ) (h : Header) (o : Opens b h) where
  -- how many numbers the levels are, by the header's buckets
  pub levels_are : level_count (job_in b) ≡ suc (length h.buckets) * (h.units + h.delay)
  unfolding level_count
  levels_are = rw (bucket_count b h o, intervals_are b h o)

pub replay_refused : (b : List ℕ) (s : PinSet) (entries levels : List ℕ) (n : ℕ) → checked archive b s ≡ P.refused n → record { answer = refused n; list = levels } ≡ replay_call b s entries levels
unfolding replay_call on_read refuse
replay_refused b s entries levels n e = rw e

-- for a job that the set matches
module _ (b : List ℕ) (h : Header) (s : PinSet) (r : Ready b h s) (entries levels : List ℕ) where
  abbrev J : Job
  J = job_in b

  abbrev work : Ended Replayed
  work = played J (lines (length J.units) s.pins) entries levels

  replay_on : replay_call b s entries levels ≡ guarded (refuse levels) (test 14 (shaped h entries) ∷ test 12 (leb (level_count J) (length levels)) ∷ []) work
  unfolding replay_call on_read replay_tests
  replay_on = rw (matched archive b J r.opens.taken r.opens.parsed s r.matches, r.opens.header_is)

  pub replay_14 : shaped h entries ≡ false → record { answer = refused 14; list = levels } ≡ replay_call b s entries levels
  unfolding refuse
  replay_14 e = sym (replay_on ∙ guarded_here (refuse levels) _ _ _ e)

  -- the list is tested by as many levels an interval as the header says, and as many intervals
  module _ (e : shaped h entries ≡ true) (each total : ℕ) (each_is : each ≡ suc (length h.buckets)) (total_is : total ≡ h.units + h.delay) where
    counted : level_count J ≡ each * total
    counted = levels_are b h r.opens ∙ sym (ap₂ ◌*◌ each_is total_is)

    pub replay_12 : length levels < each * total → record { answer = refused 12; list = levels } ≡ replay_call b s entries levels
    unfolding refuse
    replay_12 l = sym (replay_on ∙ guarded_past (refuse levels) _ _ _ e ∙ guarded_here (refuse levels) _ _ _ (lt-leb (level_count J) (length levels) (omega (arith, counted))))

    pub replay_played : each * total ≤ length levels → played J (lines h.units s.pins) entries levels ≡ replay_call b s entries levels
    replay_played l =
        ap (λ (n : ℕ). played J (lines n s.pins) entries levels) (sym (units_are b h r.opens))
        ∙ sym (replay_on ∙ guarded_past (refuse levels) _ _ _ e ∙ guarded_last (refuse levels) _ _ (le-leb (level_count J) (length levels) (omega (arith, counted))))
