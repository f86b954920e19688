-- What the report answers and leaves, from what reading the job and the tests answered.
use Prim.Native.Nat.{ℕ, suc, ◌<◌, ◌≤◌}
use mathlib.Core.Path.{◌≡◌, sym, ◌∙◌}
use mathlib.Core.Bool.{true, false}
use mathlib.Core.List.{List, [], ◌∷◌}
use native.Mathlib.Omega.{arith}
use lib.ListN.{length}
use lib.Dec.{leb}
use borrow.Author.Tests.{le-leb, lt-leb}
use Rattle.base.specs.Refusals.{test, guarded}
use Rattle.base.proofs.Refusals.{guarded_past, guarded_here, guarded_last}
use Rattle.base.specs.Answer.{refused, gives}
use Rattle.model.specs.Levels.{effective_buffers}
use Rattle.format.specs.Parser.{on_read}
use Rattle.format.specs.Parser as P
use Rattle.format.specs.JobBytes.{Header, archive, parse, job_in, Opens}
use Rattle.format.proofs.Opened.{units_are}
use Rattle.replaying.specs.Entries.{plan_of, shaped}
use Rattle.base.specs.Lent.{over, refuse}
use Rattle.replaying.specs.Calls.{reported, report_tests, report_call}

-- the bytes of a job with this header
module _ (b : List ℕ) (h : Header) (o : Opens b h) where
  module _ (entries list : List ℕ) where
    -- the report goes on to the tests of the job
    report_on : report_call b entries list ≡ guarded (refuse list) (test 14 (shaped h entries) ∷ test 12 (leb (suc (length (job_in b).units)) (length list)) ∷ []) (reported (job_in b) entries list)
    unfolding report_call on_read report_tests
    report_on = rw (o.parsed, o.header_is)

    pub report_14 : shaped h entries ≡ false → record { answer = refused 14; list = list } ≡ report_call b entries list
    unfolding refuse
    report_14 e = sym (report_on ∙ guarded_here (refuse list) _ _ _ e)

    module _ (e : shaped h entries ≡ true) where
      pub report_12 : length list ≤ h.units → record { answer = refused 12; list = list } ≡ report_call b entries list
      unfolding refuse
      report_12 l = sym (report_on ∙ guarded_past (refuse list) _ _ _ e ∙ guarded_here (refuse list) _ _ _ (lt-leb (suc (length (job_in b).units)) (length list) (omega (arith, units_are b h o))))

      pub report_done : (sums : List ℕ) → h.units < length list → sums ≡ over (effective_buffers (job_in b) (plan_of (job_in b) entries)) list → record { answer = gives tt; list = sums } ≡ report_call b entries list
      unfolding reported
      report_done sums l q = sym (report_on ∙ guarded_past (refuse list) _ _ _ e ∙ guarded_last (refuse list) _ _ (le-leb (suc (length (job_in b).units)) (length list) (omega (arith, units_are b h o))) ∙ rw q)

pub report_refused : (b entries list : List ℕ) (n : ℕ) → parse archive b ≡ P.refused n → record { answer = refused n; list = list } ≡ report_call b entries list
unfolding report_call on_read refuse
report_refused b entries list n e = rw e
