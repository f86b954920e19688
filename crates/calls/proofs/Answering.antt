-- What refuses calls before one is made, test by test, and what the calls answer and leave behind it.
use Prim.Native.Nat.{ℕ, ◌/◌, ◌<◌, ◌≤◌}
use mathlib.Core.Path.{◌≡◌, sym, ◌∙◌}
use mathlib.Core.Option.{Option, none, some}
use mathlib.Core.List.{List, [], ◌∷◌, ◌++◌}
use lib.Dec.{leb}
use lib.ListN.{length}
use borrow.Author.Tests.{lt-leb, le-leb, leb-true}
use Rattle.base.specs.Answer.{gives}
use Rattle.base.specs.Refusals.{Test, test, refusal, first}
use Rattle.base.specs.Lent as lent
use Rattle.base.proofs.Refusals.{refusal_here, refusal_last, refusal_none, refusal_join, first_none, unless_some, unless_none}
use Rattle.model.specs.Job.{Job}
use Rattle.format.specs.Parser.{refusal_in}
use Rattle.format.specs.Parser as P
use Rattle.format.specs.JobBytes.{Header, Door, opening, job_in, parse}
use Rattle.format.proofs.Parsing.{passed}
use Rattle.job.proofs.Answers.{Passes}
use Rattle.pinset.specs.declared.PinSet as code_set
use Rattle.pinset.specs.Answers.{set_of}
use Rattle.calling.specs.Commands.{calls_tests}
use Rattle.calling.specs.Sessions.{answers_tests, calls_refusal, calls_call}
use Rattle.calling.proofs.Sessions.{calls_by}
use Rattle.calls.specs.Answers.{Made}

-- tests of what is asked, as of the calls, and others behind them, which know the job
module _ (d : Door) (b : List ℕ) (asked : List Test) (more : Job → List Test) where
  abbrev whole : Option ℕ
  whole = refusal_in (parse d b) (λ j. asked ++ more j)

  pub not_read : (n : ℕ) → parse d b ≡ P.refused n → some n ≡ whole
  unfolding refusal_in
  not_read n e = rw e

  module _ (k : ℕ) (took : parse d b ≡ P.took (job_in b) k) where
    looked : whole ≡ first (refusal asked) (refusal (more (job_in b)))
    unfolding refusal_in
    looked = rw took (refusal_join asked (more (job_in b)))

    pub by_asked : (n : ℕ) → some n ≡ refusal asked → some n ≡ whole
    by_asked n e = sym (looked ∙ unless_some some (refusal asked) n _ (sym e))

    pub behind_asked : none ≡ refusal asked → whole ≡ refusal (more (job_in b))
    behind_asked e = looked ∙ unless_none some (refusal asked) _ (sym e)

-- calls alone
module _ (b calls : List ℕ) (answers : ℕ) where
  abbrev few : Test
  few = test 12 (leb (length calls / 3) answers)

  pub calls_not_read : (n : ℕ) → parse opening b ≡ P.refused n → some n ≡ calls_refusal b calls answers
  unfolding calls_refusal answers_tests
  calls_not_read = not_read opening b (calls_tests calls) (λ j. few ∷ [])

  module _ (h : Header) (p : Passes opening b h) where
    pub calls_not_due : (n : ℕ) → some n ≡ refusal (calls_tests calls) → some n ≡ calls_refusal b calls answers
    unfolding calls_refusal answers_tests
    calls_not_due = by_asked opening b (calls_tests calls) (λ j. few ∷ []) p.taken p.took

    module _ (f : none ≡ refusal (calls_tests calls)) where
      on : calls_refusal b calls answers ≡ refusal (few ∷ [])
      unfolding calls_refusal answers_tests
      on = behind_asked opening b (calls_tests calls) (λ j. few ∷ []) p.taken p.took f

      pub calls_12 : answers < length calls / 3 → some 12 ≡ calls_refusal b calls answers
      calls_12 l = sym (on ∙ refusal_here few [] (lt-leb (length calls / 3) answers l))

      pub calls_fit : length calls / 3 ≤ answers → none ≡ calls_refusal b calls answers
      calls_fit l = sym (on ∙ refusal_last few (le-leb (length calls / 3) answers l))

-- Behind the tests.

pub calls_room : (b calls : List ℕ) (answers : ℕ) → none ≡ calls_refusal b calls answers → length calls / 3 ≤ answers
unfolding calls_refusal answers_tests
calls_room b calls answers e =
    let p = passed (parse opening b) (λ j. calls_tests calls ++ (few b calls answers ∷ [])) (sym e) in
    leb-true (length calls / 3) answers (refusal_none _ [] (first_none (refusal (calls_tests calls)) _ (sym (refusal_join (calls_tests calls) (few b calls answers ∷ [])) ∙ p.none_refuses)).1).0

module _ (b calls answers : List ℕ) where
  pub calls_refused : (n : ℕ) → some n ≡ calls_refusal b calls (length answers) → lent.refuse answers n ≡ calls_call b calls answers
  calls_refused n e = sym (calls_by b calls answers ∙ unless_some (lent.refuse answers) _ n _ (sym e))

  pub calls_made : none ≡ calls_refusal b calls (length answers) → (s : code_set.PinSet) (new : List ℕ) → Made b calls answers s new → record { answer = gives (set_of s).totals; list = new } ≡ calls_call b calls answers
  calls_made e s new m = rw (m.set_is, m.written) (sym (calls_by b calls answers ∙ unless_none (lent.refuse answers) _ _ (sym e)))
