-- What opening and calls answer and leave, from what the calls within them answered.
use Prim.Native.Nat.{ℕ, ◌<◌, ◌≤◌}
use mathlib.Core.Path.{◌≡◌, sym, ◌∙◌, ap}
use mathlib.Core.Option.{none, some}
use mathlib.Core.List.{List, [], ◌∷◌}
use lib.ListN.{length}
use borrow.Author.Tests.{lt-leb, le-leb}
use Rattle.base.specs.Lent.{over, put}
use Rattle.base.proofs.Refusals.{guarded_here, guarded_last}
use Rattle.format.specs.Parser.{on_took}
use Rattle.format.specs.JobBytes.{header_in, Door, parse}
use Rattle.header.specs.Answers.{plain}
use Rattle.pinning.specs.PinSet.{PinSet, fresh}
use Rattle.pinning.specs.Calls.{open_call}
use Rattle.pins.specs.declared.Opened.{Opened}
use Rattle.std.specs.Prelude.{Result, Ok, Err}
use Rattle.header.specs.declared.refusal.Refusal.{Refusal}
use Rattle.header.specs.Refusals.{number}
use Rattle.header.specs.Answers.{answer_by}
use Rattle.pinset.specs.Answers.{set_of}
use Rattle.pins.specs.Answers.{opening}
use Rattle.pins.proofs.Opens.{Open, is_open, not_open, answer_is, state_is}
use Rattle.calling.specs.Sessions.{calls_refusal, calls_call}
use Rattle.calls.specs.declared.PinTotals.{PinTotals}
use Rattle.calls.specs.Answers.{called_answer}
use Rattle.calls.specs.Answers as numbers
use Rattle.values.specs.Lists.{opened_values, pins_list}
use Rattle.exporting.specs.Exports.{number_of, opened, open_export, called, after_calls, calls_export}
use Rattle.exporting.proofs.Rooms.{before, few, behind}

-- opening
module _ (d : Door) (job values : List ℕ) (r : Opened) (i : opening r ≡ open_call d job) where
  pub open_refused : (n : Refusal) → r.answer ≡ Err n → opened (number n) values ≡ open_export d job values
  unfolding open_export on_took
  open_refused n e = rw (not_open _ (number n) (answer_is d job r i ∙ ap (answer_by (λ k. k)) e)).0

  module _ (k : ℕ) (e : r.answer ≡ Ok k) where
    here : Open (parse d job) k
    here = is_open (parse d job) k (answer_is d job r i ∙ ap (answer_by (λ k. k)) e)

    -- the header that is handed back is the job's
    header_here : plain r.set.header ≡ header_in here.job
    unfolding set_of fresh
    header_here = ap (λ (s : PinSet). s.header) (state_is d job r i ∙ here.fresh_is)

    pub open_12 : length values < 4 → opened 12 values ≡ open_export d job values
    unfolding open_export on_took
    open_12 l = rw here.is (sym (guarded_here (λ n. opened n values) _ _ _ (lt-leb 4 (length values) l)))

    pub open_took : 4 ≤ length values → (new : List ℕ) → new ≡ over (opened_values k (plain r.set.header)) values → opened 0 new ≡ open_export d job values
    unfolding open_export on_took
    open_took l new w = rw (here.is, w, header_here) (sym (guarded_last (λ n. opened n values) _ _ (le-leb 4 (length values) l)))

-- calls alone
module _ (job ks answers values : List ℕ) where
  pub calls_before : (n : ℕ) → some n ≡ calls_refusal job ks (length answers) → called n answers values ≡ calls_export job ks answers values
  unfolding calls_export
  calls_before = before (λ n. called n answers values) (calls_refusal job ks (length answers)) 3 values _

  module _ (e : none ≡ calls_refusal job ks (length answers)) where
    pub calls_12 : length values < 3 → called 12 answers values ≡ calls_export job ks answers values
    unfolding calls_export
    calls_12 = few (λ n. called n answers values) (calls_refusal job ks (length answers)) 3 values _ e

    module _ (room : 3 ≤ length values) (x : Result PinTotals Refusal) (a : List ℕ) (i : numbers.called x a ≡ calls_call job ks answers) where
      on_calls : calls_export job ks answers values ≡ after_calls (numbers.called x a) values
      unfolding calls_export
      on_calls = behind (λ n. called n answers values) (calls_refusal job ks (length answers)) 3 values _ e room ∙ rw (← i)

      pub calls_refused : (n : Refusal) → x ≡ Err n → called (number n) a values ≡ calls_export job ks answers values
      unfolding after_calls numbers.called numbers.totals_are number_of put
      calls_refused n q = sym (on_calls ∙ rw q)

      pub calls_done : (t : PinTotals) → x ≡ Ok t → (new : List ℕ) → new ≡ over (t.count ∷ t.size ∷ t.distortion ∷ []) values → called 0 a new ≡ calls_export job ks answers values
      unfolding after_calls numbers.called numbers.totals_are number_of put pins_list
      calls_done t q new w = sym (on_calls ∙ rw (q, w))
