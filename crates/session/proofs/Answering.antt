-- What refuses planning and a replay after calls before a call is made, test by test, and what they answer and leave behind it.
use Prim.Native.Nat.{ℕ, suc, ◌+◌, ◌*◌, ◌/◌, ◌<◌, ◌≤◌}
use mathlib.Core.Path.{◌≡◌, sym, ◌∙◌, ap₂}
use mathlib.Core.Bool.{true, false}
use mathlib.Core.Option.{none, some}
use mathlib.Core.List.{List, [], ◌∷◌, ◌++◌}
use native.Mathlib.Omega.{arith}
use lib.Dec.{leb}
use lib.ListN.{length}
use borrow.Author.Tests.{lt-leb, le-leb, leb-true}
use Rattle.base.specs.Answer.{refused, gives}
use Rattle.base.specs.Refusals.{Test, test, refusal}
use Rattle.base.proofs.Refusals.{refusal_past, refusal_here, refusal_last, refusal_none, refusal_join, first_none, unless_some, unless_none}
use Rattle.base.proofs.Lent.{put_given, put_refused}
use Rattle.model.specs.Job.{Job, intervals}
use Rattle.model.specs.Replay.{Totals}
use Rattle.model.specs.Best.{Order, Aim}
use Rattle.model.specs.Table.{words}
use Rattle.format.specs.Parser as P
use Rattle.format.specs.JobBytes.{Header, opening, archive, job_in, parse, Opens}
use Rattle.format.proofs.Parsing.{passed}
use Rattle.format.proofs.Opened.{intervals_are}
use Rattle.job.proofs.Answers.{Passes}
use Rattle.pinning.specs.PinSet.{PinSet}
use Rattle.pinset.specs.declared.PinSet as code_set
use Rattle.pinset.specs.Answers.{set_of}
use Rattle.replaying.specs.Entries.{entry_size, shaped}
use Rattle.replaying.specs.Calls.{level_count, replay_tests, replay_call}
use Rattle.replay.proofs.Answering.{levels_are}
use Rattle.table.specs.Answers.{table_words}
use Rattle.table.proofs.Words.{words_are}
use Rattle.planning.specs.Calls.{Planned, plan_call}
use Rattle.calling.specs.Commands.{calls_tests}
use Rattle.calling.specs.Sessions.{made, numbers, aim_named, order_named, asked_tests, refuse, session_tests, plan_refusal, planned_after, session_call, replay_refusal, replay_session}
use Rattle.calling.proofs.Sessions.{session_by, replay_passed}
use Rattle.calls.specs.Answers.{Made}
use Rattle.calls.proofs.Answering.{not_read, by_asked, behind_asked}

-- with planning
module _ (b calls : List ℕ) (aim order answers table entries : ℕ) where
  abbrev more : Job → List Test
  more j = test 11 (leb (words j) table) ∷ test 12 (leb (length calls / 3) answers) ∷ test 12 (leb (entry_size * intervals j) entries) ∷ []

  pub plan_not_read : (n : ℕ) → parse opening b ≡ P.refused n → some n ≡ plan_refusal b calls aim order answers table entries
  unfolding plan_refusal session_tests
  plan_not_read = not_read opening b (asked_tests calls aim order) more

  module _ (h : Header) (p : Passes opening b h) where
    pub plan_not_due : (n : ℕ) → some n ≡ refusal (asked_tests calls aim order) → some n ≡ plan_refusal b calls aim order answers table entries
    unfolding plan_refusal session_tests
    plan_not_due = by_asked opening b (asked_tests calls aim order) more p.taken p.took

    module _ (f : none ≡ refusal (asked_tests calls aim order)) where
      plan_on : plan_refusal b calls aim order answers table entries ≡ refusal (more (job_in b))
      unfolding plan_refusal session_tests
      plan_on = behind_asked opening b (asked_tests calls aim order) more p.taken p.took f

      pub plan_11 : table < table_words h → some 11 ≡ plan_refusal b calls aim order answers table entries
      plan_11 l = sym (plan_on ∙ refusal_here _ _ (lt-leb (words (job_in b)) table (omega (arith, words_are b h p.opens))))

      module _ (room : table_words h ≤ table) where
        past_11 : plan_refusal b calls aim order answers table entries ≡ refusal (test 12 (leb (length calls / 3) answers) ∷ test 12 (leb (entry_size * intervals (job_in b)) entries) ∷ [])
        past_11 = plan_on ∙ refusal_past _ _ (le-leb (words (job_in b)) table (omega (arith, words_are b h p.opens)))

        pub plan_12_answers : answers < length calls / 3 → some 12 ≡ plan_refusal b calls aim order answers table entries
        plan_12_answers l = sym (past_11 ∙ refusal_here _ _ (lt-leb (length calls / 3) answers l))

        module _ (each : length calls / 3 ≤ answers) where
          past_12 : plan_refusal b calls aim order answers table entries ≡ refusal (test 12 (leb (entry_size * intervals (job_in b)) entries) ∷ [])
          past_12 = past_11 ∙ refusal_past _ _ (le-leb (length calls / 3) answers each)

          pub plan_12_entries : entries < entry_size * (h.units + h.delay) → some 12 ≡ plan_refusal b calls aim order answers table entries
          plan_12_entries l = sym (past_12 ∙ refusal_here _ _ (lt-leb (entry_size * intervals (job_in b)) entries (omega (arith, intervals_are b h p.opens))))

          pub plan_fits : entry_size * (h.units + h.delay) ≤ entries → none ≡ plan_refusal b calls aim order answers table entries
          plan_fits l = sym (past_12 ∙ refusal_last _ (le-leb (entry_size * intervals (job_in b)) entries (omega (arith, intervals_are b h p.opens))))

-- with a replay
module _ (b calls entries : List ℕ) (levels : ℕ) where
  pub replay_not_read : (n : ℕ) → parse archive b ≡ P.refused n → some n ≡ replay_refusal b calls entries levels
  unfolding replay_refusal
  replay_not_read = not_read archive b (calls_tests calls) (λ j. replay_tests j entries levels)

  module _ (h : Header) (o : Opens b h) where
    pub replay_not_due : (n : ℕ) → some n ≡ refusal (calls_tests calls) → some n ≡ replay_refusal b calls entries levels
    unfolding replay_refusal
    replay_not_due = by_asked archive b (calls_tests calls) (λ j. replay_tests j entries levels) o.taken o.parsed

    module _ (f : none ≡ refusal (calls_tests calls)) where
      replay_on : replay_refusal b calls entries levels ≡ refusal (test 14 (shaped h entries) ∷ test 12 (leb (level_count (job_in b)) levels) ∷ [])
      unfolding replay_refusal replay_tests
      replay_on = behind_asked archive b (calls_tests calls) (λ j. replay_tests j entries levels) o.taken o.parsed f ∙ rw o.header_is

      pub replay_14 : shaped h entries ≡ false → some 14 ≡ replay_refusal b calls entries levels
      replay_14 e = sym (replay_on ∙ refusal_here _ _ e)

      -- so many numbers an interval, and so many intervals
      module _ (e : shaped h entries ≡ true) (each total : ℕ) (each_is : each ≡ suc (length h.buckets)) (total_is : total ≡ h.units + h.delay) where
        counted : level_count (job_in b) ≡ each * total
        counted = levels_are b h o ∙ sym (ap₂ ◌*◌ each_is total_is)

        pub replay_12 : levels < each * total → some 12 ≡ replay_refusal b calls entries levels
        replay_12 l = sym (replay_on ∙ refusal_past _ _ e ∙ refusal_here _ _ (lt-leb (level_count (job_in b)) levels (omega (arith, counted))))

        pub replay_fits : each * total ≤ levels → none ≡ replay_refusal b calls entries levels
        replay_fits l = sym (replay_on ∙ refusal_past _ _ e ∙ refusal_last _ (le-leb (level_count (job_in b)) levels (omega (arith, counted))))

-- Behind the tests.

pub session_room : (b calls : List ℕ) (aim order answers table entries : ℕ) → none ≡ plan_refusal b calls aim order answers table entries → length calls / 3 ≤ answers
unfolding plan_refusal session_tests
session_room b calls aim order answers table entries e =
    let p = passed (parse opening b) (λ j. asked_tests calls aim order ++ more b calls aim order answers table entries j) (sym e) in
    let behind = (first_none (refusal (asked_tests calls aim order)) _ (sym (refusal_join (asked_tests calls aim order) (more b calls aim order answers table entries p.value)) ∙ p.none_refuses)).1 in
    leb-true (length calls / 3) answers (refusal_none _ _ (refusal_none _ _ behind).1).0

module _ (b calls : List ℕ) (aim order : ℕ) (answers table entries : List ℕ) where
  -- the tests passed
  module _ (e : none ≡ plan_refusal b calls aim order (length answers) (length table) (length entries)) where
    on_planning : session_call b calls aim order answers table entries ≡ planned_after b calls aim order answers table entries
    on_planning = session_by b calls aim order answers table entries ∙ unless_none (refuse answers table entries) _ _ (sym e)

    -- the set that the calls left, and what planning with it came to
    module _ (s : code_set.PinSet) (is : set_of s ≡ (made opening b calls).set) (a : Aim) (a_is : a ≡ aim_named aim) (o : Order) (o_is : o ≡ order_named order) (p : Planned) (i : p ≡ plan_call b (set_of s) a o table entries) where
      planned_is : plan_call b (made opening b calls).set (aim_named aim) (order_named order) table entries ≡ p
      planned_is = rw (← is, ← a_is, ← o_is) (sym i)

      pub session_none : (n : ℕ) → p.answer ≡ refused n → record { answers = answers; planned = record { answer = refused n; table = p.table; entries = p.entries } } ≡ session_call b calls aim order answers table entries
      unfolding planned_after
      session_none n q = rw (← q) (sym (on_planning ∙ rw (planned_is, put_refused p.answer n (λ (t : Totals). numbers b calls) answers q)))

      pub session_made : (t : Totals) → p.answer ≡ gives t → (u : code_set.PinSet) (new : List ℕ) → Made b calls answers u new → record { answers = new; planned = record { answer = gives t; table = p.table; entries = p.entries } } ≡ session_call b calls aim order answers table entries
      unfolding planned_after
      session_made t q u new m = rw (m.written, ← q) (sym (on_planning ∙ rw (planned_is, put_given p.answer t (λ (t : Totals). numbers b calls) answers q)))

  pub session_refused : (n : ℕ) → some n ≡ plan_refusal b calls aim order (length answers) (length table) (length entries) → refuse answers table entries n ≡ session_call b calls aim order answers table entries
  session_refused n e = sym (session_by b calls aim order answers table entries ∙ unless_some (refuse answers table entries) _ n _ (sym e))

pub replay_done : (b calls entries levels : List ℕ) → none ≡ replay_refusal b calls entries (length levels) → (s : PinSet) → s ≡ (made archive b calls).set → replay_call b s entries levels ≡ replay_session b calls entries levels
replay_done b calls entries levels e s is = rw is (sym (replay_passed b calls entries levels (sym e)))
