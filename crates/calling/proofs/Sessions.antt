-- Sessions of calls: alone, `CallSessions`; with planning, `Sessions` and `SessionKeeps`; with a replay, `ReplaySessions` and `ReplaySessionKeeps`.
use Prim.Native.Nat.{ℕ, zero, suc, ◌+◌, ◌*◌, ◌/◌, ◌≤◌}
use mathlib.Core.Path.{◌≡◌, refl, sym, ◌∙◌, ap, ap₂}
use mathlib.Core.Logic.{◌↔◌, ◌⊎◌, inl, inr}
use mathlib.Core.Bool.{Bool, true, false}
use mathlib.Core.Option.{none, some}
use mathlib.Core.List.{List, [], ◌∷◌, ◌++◌, map}
use native.Mathlib.Omega.{arith}
use lib.Dec.{leb}
use lib.ListN.{length}
use borrow.Author.Tests.{leb-true, le-leb}
use Rattle.base.specs.Answer.{gives}
use Rattle.base.specs.Refusals.{Test, refusal, unless, condition, guarded, InOrder}
use Rattle.base.specs.Lent.{Ended, over}
use Rattle.base.specs.Lent as lent
use Rattle.base.proofs.Refusals.{not_none, some_same, refusal_join, first_none, unless_some, unless_none, unless_first, Decides, no_more, one_more, decides_join, Guarded, was_refused, was_done, guarded_is}
use Rattle.base.proofs.Lent.{put_given, put_refused}
use Rattle.base.proofs.Lent as lent_laws
use Rattle.model.specs.Job.{Job, intervals}
use Rattle.model.specs.Pins.{PinTotals, no_pins, pin_totals}
use Rattle.model.specs.Replay.{Totals}
use Rattle.model.specs.Table.{words}
use Rattle.format.specs.Parser.{Result, took, on_read, refusal_in}
use Rattle.format.specs.Parser as P
use Rattle.format.specs.JobBytes.{parse, header_in, opening, archive, drain_limits}
use Rattle.format.proofs.Parsing.{looks_read, read_refusal}
use Rattle.pinning.specs.PinSet.{PinSet, lines}
use Rattle.pinning.specs.Check.{Matches}
use Rattle.pinning.specs.Calls.{open_call, run}
use Rattle.pinning.proofs.Agree.{passes_matches, matched}
use Rattle.pinning.proofs.History.{call_history, fresh_pins}
use Rattle.pinning.proofs.Archive.{archived_sets}
use Rattle.format.proofs.Places.{well_read}
use Rattle.format.proofs.Bounds.{limited, within, two_doors, drains_told, told_drains}
use Rattle.format.proofs.Limits.{not_true, fit_all, all_fit}
use Rattle.format.specs.Limits.{each_kept}
use Rattle.format.specs.Claims.{InLimits, Drains}
use Rattle.replaying.specs.Entries.{entry_size, plan_of}
use Rattle.replaying.specs.Calls.{Replayed, played, replay_tests, replay_call}
use Rattle.replaying.specs.Claims.{InShape, DemandTwo}
use Rattle.replaying.proofs.Reports as replaying
use Rattle.planning.specs.Calls.{Planned, plan_call}
use Rattle.planning.specs.Claims.{PlanClaim}
use Rattle.planning.proofs.DemandThree.{calls_three}
use Rattle.planning.proofs.Refusals as planning
use Rattle.calling.specs.Commands.{calls_of, calls_tests}
use Rattle.calling.specs.Sessions.{made, answer_number, numbers, aim_named, order_named, named_tests, asked_tests, answers_tests, calls_refusal, calls_call, Session, refuse, session_tests, plan_refusal, planned_after, session_call, replay_refusal, replay_session}
use Rattle.calling.specs.Claims.{Either, Named, AllKinds, Whole, book_numbers, book_pins, archive_pins, ReplayPins, SessionClaim, SessionKeeping, CallSessions, Sessions, SessionKeeps, ReplaySessions, ReplaySessionKeeps}
use Rattle.calling.proofs.Numbers.{calls_decide}

-- a number names an aim or an order exactly where it is 0 or 1
one_of_two : (n : ℕ) → (leb n 1 ≡ true) ↔ Either n
one_of_two n = (λ e. go n (leb-true n 1 e), λ e. le-leb n 1 (low e))
  where
    go : (n : ℕ) → n ≤ 1 → Either n
    go zero h = inl refl
    go (suc n) h = inr (omega arith)

    low : Either n → n ≤ 1
    low (inl e) = omega arith
    low (inr e) = omega arith

pub named_decide : (aim order : ℕ) → Decides (named_tests aim order) (condition 2 (Either aim) ∷ condition 2 (Either order) ∷ [])
named_decide aim order = one_more refl (one_of_two aim) (one_more refl (one_of_two order) no_more)

asked_decide : (calls : List ℕ) (aim order : ℕ) → Decides (asked_tests calls aim order) (condition 2 (Either aim) ∷ condition 2 (Either order) ∷ condition 2 (AllKinds calls) ∷ condition 1 (Whole calls) ∷ [])
unfolding asked_tests
asked_decide calls aim order = decides_join (named_decide aim order) (calls_decide calls)

pub named : Named
unfolding aim_named order_named
named = record { total_is = refl; even_is = refl; early_is = refl; late_is = refl }

-- after any calls the set holds what the book does
module _ (b : List ℕ) (j : Job) (k : ℕ) (parsed : parse opening b ≡ took j k) (calls : List ℕ) where
  numbers_are : numbers b calls ≡ book_numbers j calls
  unfolding numbers made
  numbers_are = ap (map answer_number) (call_history b j k parsed (calls_of calls)).answered

  set_matches : Matches j (made opening b calls).set
  unfolding made
  set_matches = passes_matches opening b j k parsed _ (call_history b j k parsed (calls_of calls)).passes

pub call_sessions : CallSessions
unfolding calls_call answers_tests
call_sessions b calls answers =
    looks_read (lent.refuse answers) (parse opening b) (λ j. answers_tests calls (length answers)) (λ j. condition 2 (AllKinds calls) ∷ condition 1 (Whole calls) ∷ condition 12 (length calls / 3 ≤ length answers) ∷ []) (λ j. record { answer = gives (made opening b calls).set.totals; list = over (numbers b calls) answers }) (λ j r. r ≡ record { answer = gives (pin_totals j (book_pins j calls)); list = over (book_numbers j calls) answers })
    (λ j k e. (
      decides_join (calls_decide calls) (one_more refl (leb-true (length calls / 3) (length answers), le-leb (length calls / 3) (length answers)) no_more),
      λ h. done j k e,
    ))
  where
    done : (j : Job) (k : ℕ) → parse opening b ≡ took j k → ◌≡◌ {A = Ended PinTotals} (record { answer = gives (made opening b calls).set.totals; list = over (numbers b calls) answers }) (record { answer = gives (pin_totals j (book_pins j calls)); list = over (book_numbers j calls) answers })
    done j k e = unfold made in (ap₂ (λ (t : PinTotals) (l : List ℕ). record { answer = gives t; list = over l answers }) (call_history b j k e (calls_of calls)).totals (numbers_are b j k e calls))

-- with planning
module _ (b calls : List ℕ) (aim order : ℕ) (answers table entries : List ℕ) where
  module _ (j : Job) (k : ℕ) (parsed : parse opening b ≡ took j k) (room : words j ≤ length table) (space : entry_size * intervals j ≤ length entries) where
    planned : Planned
    planned = plan_call b (made opening b calls).set (aim_named aim) (order_named order) table entries

    claim : PlanClaim j (book_pins j calls) (aim_named aim) (order_named order) 0 j.start table entries planned
    unfolding made planned
    claim = (calls_three b j k parsed (calls_of calls)).planning (aim_named aim) (order_named order) table entries room space

    session_claim : SessionClaim j calls aim order answers table entries (planned_after b calls aim order answers table entries)
    unfolding planned_after planned
    session_claim = record {
      answered = λ f. put_given _ _ (λ (t : Totals). numbers b calls) answers (claim.else_best f).totals_are ∙ ap (λ (l : List ℕ). over l answers) (numbers_are b j k parsed calls);
      none_kept = λ e. put_refused _ 13 (λ (t : Totals). numbers b calls) answers e;
      planning = claim;
    }

  pub session_decides : (j : Job) → Decides (session_tests j calls aim order (length answers) (length table) (length entries)) (condition 2 (Either aim) ∷ condition 2 (Either order) ∷ condition 2 (AllKinds calls) ∷ condition 1 (Whole calls) ∷ condition 11 (words j ≤ length table) ∷ condition 12 (length calls / 3 ≤ length answers) ∷ condition 12 (entry_size * intervals j ≤ length entries) ∷ [])
  unfolding session_tests
  session_decides j =
      decides_join (asked_decide calls aim order)
      (one_more refl (leb-true (words j) (length table), le-leb (words j) (length table))
      (one_more refl (leb-true (length calls / 3) (length answers), le-leb (length calls / 3) (length answers))
      (one_more refl (leb-true (entry_size * intervals j) (length entries), le-leb (entry_size * intervals j) (length entries)) no_more)))

pub sessions : Sessions
unfolding session_call
sessions b calls aim order answers table entries =
    looks_read (refuse answers table entries) (parse opening b) (λ j. session_tests j calls aim order (length answers) (length table) (length entries)) (λ j. condition 2 (Either aim) ∷ condition 2 (Either order) ∷ condition 2 (AllKinds calls) ∷ condition 1 (Whole calls) ∷ condition 11 (words j ≤ length table) ∷ condition 12 (length calls / 3 ≤ length answers) ∷ condition 12 (entry_size * intervals j ≤ length entries) ∷ []) (λ j. planned_after b calls aim order answers table entries) (λ j r. SessionClaim j calls aim order answers table entries r)
    (λ j k e. (session_decides b calls aim order answers table entries j, λ h. session_claim b calls aim order answers table entries j k e h.1.1.1.1.0 h.1.1.1.1.1.1.0))

module _ (b calls : List ℕ) (aim order : ℕ) (answers table entries : List ℕ) where
  refused_keeps : (n : ℕ) → SessionKeeping answers table entries (refuse answers table entries n)
  unfolding refuse
  refused_keeps n = record { lists = planning.refuse_keeps table entries n; answers_kept = λ k e. refl }

  after_keeps : SessionKeeping answers table entries (planned_after b calls aim order answers table entries)
  unfolding planned_after
  after_keeps = record {
    lists = planning.keeps b (made opening b calls).set (aim_named aim) (order_named order) table entries;
    answers_kept = λ n e. put_refused _ n (λ (t : Totals). numbers b calls) answers e;
  }

  guarded_keeps : {q : Session} → Guarded (refuse answers table entries) (planned_after b calls aim order answers table entries) q → SessionKeeping answers table entries q
  guarded_keeps (was_refused n) = refused_keeps n
  guarded_keeps was_done = after_keeps

  read_keeps : (r : Result Job) → SessionKeeping answers table entries (on_read (refuse answers table entries) r (λ j. guarded (refuse answers table entries) (session_tests j calls aim order (length answers) (length table) (length entries)) (planned_after b calls aim order answers table entries)))
  unfolding on_read
  read_keeps (P.refused n) = refused_keeps n
  read_keeps (P.took j k) = guarded_keeps (guarded_is (refuse answers table entries) (session_tests j calls aim order (length answers) (length table) (length entries)) (planned_after b calls aim order answers table entries))

pub session_keeps : SessionKeeps
unfolding session_call
session_keeps b calls aim order answers table entries = read_keeps b calls aim order answers table entries (parse opening b)

-- the archive's set after calls: those of opening's where the buckets drain, and else as it was
module _ (j : Job) (limits : InLimits j) where
  pub drained_kept : Drains opening j → each_kept (drain_limits opening (header_in j).buckets) ≡ true
  drained_kept d = sym (fit_all (drain_limits opening (header_in j).buckets) (told_drains opening j limits d))

  idle_kept : (Drains opening j → ⊥) → each_kept (drain_limits opening (header_in j).buckets) ≡ false
  idle_kept f = go (each_kept (drain_limits opening (header_in j).buckets)) refl
    where
      go : (t : Bool) → each_kept (drain_limits opening (header_in j).buckets) ≡ t → t ≡ false
      go true q = absurd (f (drains_told opening j (record { well_formed = within j limits; drains = all_fit (drain_limits opening (header_in j).buckets) q })))
      go false q = refl

  drained_or : Drains opening j ⊎ (Drains opening j → ⊥)
  drained_or = go (each_kept (drain_limits opening (header_in j).buckets)) refl
    where
      go : (t : Bool) → each_kept (drain_limits opening (header_in j).buckets) ≡ t → Drains opening j ⊎ (Drains opening j → ⊥)
      go true q = inl (drains_told opening j (record { well_formed = within j limits; drains = all_fit (drain_limits opening (header_in j).buckets) q }))
      go false q = inr (λ d. not_true (sym q ∙ drained_kept d))

pub replay_pins : ReplayPins
unfolding archive_pins
replay_pins j calls = record { drained = λ l d. rw (drained_kept j l d); idle = λ l f. rw (idle_kept j l f) }

module _ (b : List ℕ) (j : Job) (k : ℕ) (parsed : parse archive b ≡ took j k) (calls : List ℕ) where
  abbrev its_limits : InLimits j
  its_limits = limited j (well_read archive b j k parsed).well_formed

  archive_lines : lines (length j.units) (made archive b calls).set.pins ≡ archive_pins j calls
  unfolding made
  archive_lines = go (drained_or j its_limits)
    where
      go : Drains opening j ⊎ (Drains opening j → ⊥) → lines (length j.units) (run b (open_call archive b).set (calls_of calls)).set.pins ≡ archive_pins j calls
      go (inl d) = rw ((archived_sets b j k parsed).as_opening d) (call_history b j k ((two_doors b j k).opening_iff.1 (parsed, d)) (calls_of calls)).pins ∙ sym ((replay_pins j calls).drained its_limits d)
      go (inr f) = ap (λ (s : PinSet). lines (length j.units) s.pins) ((archived_sets b j k parsed).unchanged f (open_call archive b).set (calls_of calls)) ∙ fresh_lines ∙ sym ((replay_pins j calls).idle its_limits f)
        where
          fresh_lines : lines (length j.units) (open_call archive b).set.pins ≡ no_pins (length j.units)
          fresh_lines = rw (archived_sets b j k parsed).answers (fresh_pins j its_limits)

  archive_matches : Matches j (made archive b calls).set
  unfolding made
  archive_matches = go (drained_or j its_limits)
    where
      go : Drains opening j ⊎ (Drains opening j → ⊥) → Matches j (run b (open_call archive b).set (calls_of calls)).set
      go (inl d) = rw ((archived_sets b j k parsed).as_opening d) (unfold made in set_matches b j k ((two_doors b j k).opening_iff.1 (parsed, d)) calls)
      go (inr f) = rw ((archived_sets b j k parsed).unchanged f (open_call archive b).set (calls_of calls)) (archived_sets b j k parsed).matches

-- with a replay: after the calls come the tests of replay itself
pub replay_sessions : ReplaySessions
unfolding replay_session
replay_sessions b calls entries levels =
    looks_read (lent.refuse levels) (parse archive b) (λ j. calls_tests calls) (λ j. condition 2 (AllKinds calls) ∷ condition 1 (Whole calls) ∷ []) (λ j. replay_call b (made archive b calls).set entries levels) Then
    (λ j k e. (calls_decide calls, λ h. then_replay j k e))
  where
    Then : Job → Ended Replayed → Type 0
    Then j r = InOrder r (lent.refuse levels) (condition 14 (InShape j entries) ∷ condition 12 ((1 + length j.line.buckets) * intervals j ≤ length levels) ∷ []) (DemandTwo j (archive_pins j calls) (plan_of j entries) levels r)

    then_replay : (j : Job) (k : ℕ) → parse archive b ≡ took j k → Then j (replay_call b (made archive b calls).set entries levels)
    then_replay j k e = rw (← archive_lines b j k e calls) (((replaying.replay_calls b (made archive b calls).set entries levels).1 j k e).1 (archive_matches b j k e calls))

pub replay_session_keeps : ReplaySessionKeeps
unfolding replay_session
replay_session_keeps b calls entries levels = replaying.read_keeps levels _ (parse archive b) (λ j. kept (guarded_is (lent.refuse levels) (calls_tests calls) (replay_call b (made archive b calls).set entries levels)))
  where
    kept : {q : Ended Replayed} → Guarded (lent.refuse levels) (replay_call b (made archive b calls).set entries levels) q → lent.Keeping levels q
    kept (was_refused n) = lent_laws.refuse_keeps levels n
    kept was_done = (replaying.keeps b (made archive b calls).set entries levels).0

-- The refusal of each that is found before a call is made.

pub calls_by : (b calls answers : List ℕ) → calls_call b calls answers ≡ unless (lent.refuse answers) (calls_refusal b calls (length answers)) (record { answer = gives (made opening b calls).set.totals; list = over (numbers b calls) answers })
unfolding calls_call calls_refusal
calls_by b calls answers = sym (read_refusal (lent.refuse answers) (parse opening b) (λ j. answers_tests calls (length answers)) _)

pub session_by : (b calls : List ℕ) (aim order : ℕ) (answers table entries : List ℕ) → session_call b calls aim order answers table entries ≡ unless (refuse answers table entries) (plan_refusal b calls aim order (length answers) (length table) (length entries)) (planned_after b calls aim order answers table entries)
unfolding session_call plan_refusal
session_by b calls aim order answers table entries = sym (read_refusal (refuse answers table entries) (parse opening b) (λ j. session_tests j calls aim order (length answers) (length table) (length entries)) _)

module _ (b calls entries levels : List ℕ) where
  abbrev replaying_tests : Job → List Test
  replaying_tests j = calls_tests calls ++ replay_tests j entries (length levels)

  abbrev then_replay : Ended Replayed
  then_replay = replay_call b (made archive b calls).set entries levels

  -- of a job: the calls' tests and replay's are looked at one after the other
  replay_on : (j : Job) (k : ℕ) → parse archive b ≡ took j k → then_replay ≡ guarded (lent.refuse levels) (replay_tests j entries (length levels)) (played j (lines (length j.units) (made archive b calls).set.pins) entries levels)
  unfolding replay_call on_read
  replay_on j k e = rw (matched archive b j k e (made archive b calls).set (archive_matches b j k e calls))

  joined : (j : Job) (k : ℕ) → parse archive b ≡ took j k → guarded (lent.refuse levels) (calls_tests calls) then_replay ≡ unless (lent.refuse levels) (refusal (replaying_tests j)) (played j (lines (length j.units) (made archive b calls).set.pins) entries levels)
  unfolding guarded
  joined j k e = rw (replay_on j k e, refusal_join (calls_tests calls) (replay_tests j entries (length levels))) (sym (unless_first (lent.refuse levels) (refusal (calls_tests calls)) (refusal (replay_tests j entries (length levels))) (played j (lines (length j.units) (made archive b calls).set.pins) entries levels)))

  pub replay_refused : (n : ℕ) → replay_refusal b calls entries (length levels) ≡ some n → replay_session b calls entries levels ≡ lent.refuse levels n
  unfolding replay_session replay_refusal
  replay_refused n e = go (parse archive b) refl e
    where
      go : (r : Result Job) → parse archive b ≡ r → refusal_in r replaying_tests ≡ some n → on_read (lent.refuse levels) r (λ j. guarded (lent.refuse levels) (calls_tests calls) then_replay) ≡ lent.refuse levels n
      go (P.refused m) q f = unfold on_read refusal_in in (ap (lent.refuse levels) (some_same f))
      go (took j k) q f = unfold on_read refusal_in in (joined j k q ∙ unless_some (lent.refuse levels) _ n _ f)

  pub replay_passed : replay_refusal b calls entries (length levels) ≡ none → replay_session b calls entries levels ≡ then_replay
  unfolding replay_session replay_refusal
  replay_passed e = go (parse archive b) e
    where
      go : (r : Result Job) → refusal_in r replaying_tests ≡ none → on_read (lent.refuse levels) r (λ j. guarded (lent.refuse levels) (calls_tests calls) then_replay) ≡ then_replay
      go (P.refused m) f = unfold refusal_in in (absurd (not_none f))
      go (took j k) f = unfold on_read refusal_in guarded in (unless_none (lent.refuse levels) _ _ (first_none _ _ (sym (refusal_join (calls_tests calls) (replay_tests j entries (length levels))) ∙ f)).0)
