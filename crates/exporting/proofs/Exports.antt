-- The claims of the exported calls, composed from those of the calls within them: `Opening`, `Calling`, `Plans`, `Replays`, `Reports`, `Turns`, `Writes` and `Trials`.
use Prim.Native.Nat.{ℕ, ◌+◌, ◌*◌, ◌/◌, ◌≤◌}
use mathlib.Core.Path.{◌≡◌, refl, sym, ◌∙◌, ap, ap₂, subst}
use mathlib.Core.Logic.{◌⊎◌, ◌↔◌}
use mathlib.Core.Option.{Option, none, some}
use mathlib.Core.List.{List, [], ◌∷◌, ◌++◌}
use native.Mathlib.Omega.{arith}
use lib.ListN.{length}
use borrow.Author.Tests.{leb-true, le-leb}
use Rattle.base.specs.Answer.{Answer, refused, gives}
use Rattle.base.specs.Refusals.{Test, Condition, condition, InOrder, refusal, unless, first, guarded}
use Rattle.base.specs.Lent.{over, put}
use Rattle.base.specs.Lent as lent
use Rattle.base.proofs.Refusals.{Decides, no_more, one_more, decides_join, AllHold, in_order, guarded_here, guarded_last, unless_some, unless_none}
use Rattle.base.proofs.Lent.{put_given, put_refused}
use Rattle.model.specs.Job.{Job, intervals}
use Rattle.model.specs.Pins.{pin_totals}
use Rattle.model.specs.Replay.{Totals}
use Rattle.model.specs.Table.{words}
use Rattle.format.specs.Parser.{Looks, on_read, on_took, refusal_in}
use Rattle.format.specs.Parser as P
use Rattle.format.specs.JobBytes as format
use Rattle.format.specs.JobBytes.{header_of, header_in, Door, archive, parse}
use Rattle.format.proofs.Parsing.{looks_read, read_refusal, refusal_in_join}
use Rattle.format.proofs.Opened.{opens_by, held_job}
use Rattle.table.specs.Answers.{table_words}
use Rattle.table.proofs.Words.{words_are}
use Rattle.replaying.specs.Calls.{Replayed, totals_are, violated, report_call, replay_tests}
use Rattle.replaying.proofs.Reports.{replay_decides, reports}
use Rattle.replaying.specs.Former.{turn_call}
use Rattle.replaying.proofs.Former.{turns}
use Rattle.format.specs.Places.{job_size}
use Rattle.writing.specs.Claims.{Asks, Written}
use Rattle.writing.proofs.Refusals.{refusal_order, done_first}
use Rattle.writing.proofs.Writes.{writes}
use Rattle.trials.specs.Claims as trials
use Rattle.trials.specs.Claims.{Tried}
use Rattle.trials.proofs.Trials as trials_proofs
use Rattle.calling.specs.Commands.{calls_tests}
use Rattle.calling.specs.Sessions.{answers_tests, calls_refusal, calls_call, Session, session_tests, plan_refusal, session_call, replay_refusal, replay_session}
use Rattle.calling.specs.Claims.{book_numbers, book_pins, archive_pins, SessionClaim}
use Rattle.calling.proofs.Numbers.{calls_decide}
use Rattle.calling.proofs.Sessions.{call_sessions, session_decides, sessions, replay_sessions}
use Rattle.values.specs.Lists.{buckets_in, opened_values, pins_list, totals_list, replayed_list}
use Rattle.exporting.proofs.Fields.{is_header, no_header}
use Rattle.exporting.specs.Exports as x
use Rattle.exporting.specs.Exports.{number_of, room_for, opened, open_export, called, after_calls, calls_export, planned, after_session, plan_export, replayed, after_replay, replay_export, filled, done_export, report_export, turn_export, written, after_write, job_export}
use Rattle.exporting.specs.Claims.{CallConditions, Opening, Calling, Planning, PlanConditions, Plans, Replaying, ReplayTold, ReplayConditions, Replays, Reporting, Reports, Turning, Turns, Making, Makes, Writes, Trials}
use Rattle.replaying.specs.Claims.{InShape, DemandTwo, Reported, WasPlan, Turned}
use Rattle.replaying.specs.Entries.{plan_of}

-- room for so many values
pub room_decides : (least : ℕ) (values : List ℕ) → Decides (room_for least values) (condition 12 (least ≤ length values) ∷ [])
room_decides least values = one_more refl (leb-true least (length values), le-leb least (length values)) no_more

-- a call whose refusal is found first, then room for its values
module _ {R : Type 0} (refuse : ℕ → R) (reading : P.Result Job) (tests : Job → List Test) (least : ℕ) (values : List ℕ) (work : R) where
  abbrev pub whole : R
  whole = unless refuse (first (refusal_in reading tests) (refusal (room_for least values))) work

  pub all_tests : whole ≡ on_read refuse reading (λ j. guarded refuse (tests j ++ room_for least values) work)
  all_tests = ap (λ (o : Option ℕ). unless refuse o work) (refusal_in_join reading tests (room_for least values)) ∙ read_refusal refuse reading (λ j. tests j ++ room_for least values) work

  looks : (conditions : Job → List Condition) (Else : Job → R → Type 0) → ((j : Job) (k : ℕ) → reading ≡ P.took j k → Decides (tests j) (conditions j) × (AllHold (conditions j ++ (condition 12 (least ≤ length values) ∷ [])) → Else j work)) → Looks whole refuse reading (λ j. conditions j ++ (condition 12 (least ≤ length values) ∷ [])) (λ j. Else j whole)
  looks conditions Else f =
      rw all_tests
      (looks_read refuse reading (λ j. tests j ++ room_for least values) (λ j. conditions j ++ (condition 12 (least ≤ length values) ∷ [])) (λ j. work) Else
      (λ j k e. let h = f j k e in (decides_join h.0 (room_decides least values), h.1)))

-- the same with the room said of the job that was read
pub of_job : {R : Type 0} (r : R) (refuse : ℕ → R) (d : Door) (b : List ℕ) (conditions : Job → List Condition) (values : List ℕ) (Else : Job → Type 0) (least : ℕ) (most : Job → ℕ) → ((j : Job) (k : ℕ) → parse d b ≡ P.took j k → least ≡ most j) → Looks r refuse (parse d b) (λ j. conditions j ++ (condition 12 (least ≤ length values) ∷ [])) Else → Looks r refuse (parse d b) (λ j. conditions j ++ (condition 12 (most j ≤ length values) ∷ [])) Else
of_job r refuse d b conditions values Else least most q l = (
  l.0,
  λ j k e. subst (λ (n : ℕ). InOrder r refuse (conditions j ++ (condition 12 (n ≤ length values) ∷ [])) (Else j)) (q j k e) (l.1 j k e),
)

pub counted : (d : Door) (b : List ℕ) (j : Job) (k : ℕ) → parse d b ≡ P.took j k → buckets_in b ≡ length j.line.buckets
counted d b j k e = ap (λ (i : Job). length i.line.buckets) (held_job d b j k e)

-- a number that is no refusal's
number_none : {A : Type 0} (a : Answer A) (n : ℕ) → number_of a ≡ n → (n ≡ 0 → ⊥) → a ≡ refused n
unfolding number_of
number_none (refused m) n e f = rw e
number_none (gives a) n e f = absurd (f (sym e))

thirteen : {A : Type 0} (a : Answer A) → number_of a ≡ 13 → a ≡ refused 13
thirteen a e = number_none a 13 e (λ z. omega arith)

is_thirteen : {A : Type 0} (a : Answer A) → a ≡ refused 13 → number_of a ≡ 13
unfolding number_of
is_thirteen a e = rw e

pub given_zero : {A : Type 0} (a : Answer A) (x : A) → a ≡ gives x → number_of a ≡ 0
unfolding number_of
given_zero a x e = rw e

-- what the number tells of a plan, and which values it writes, where 13 is the answer exactly where there is `None`
module _ (a : Answer Totals) where
  pub number_iff : {None : Type 0} → (a ≡ refused 13) ↔ None → (number_of a ≡ 13) ↔ None
  number_iff h = (λ e. h.0 (thirteen a e), λ f. is_thirteen a (h.1 f))

  pub number_kept : {Kept : Type 0} (values : List ℕ) → (a ≡ refused 13 → Kept) → number_of a ≡ 13 → Kept × (put a totals_list values ≡ values)
  number_kept values h e = let none_is = thirteen a e in (h none_is, put_refused a 13 totals_list values none_is)

  pub number_else : ((a ≡ refused 13 → ⊥) → number_of a ≡ 0) → (number_of a ≡ 13 → ⊥) → number_of a ≡ 0
  number_else h f = h (λ e. f (is_thirteen a e))

pub totals_put : (x : Answer Totals) (t : Totals) (values : List ℕ) → x ≡ gives t → put x totals_list values ≡ over (t.distortion ∷ t.source ∷ t.channel ∷ t.unused) values
unfolding totals_list
totals_put x t values e = put_given x t totals_list values e

-- the values of a job that opens
values_of : (d : Door) (b : List ℕ) (j : Job) (k : ℕ) → parse d b ≡ P.took j k → opened_values k (header_in j) ≡ k ∷ length j.units ∷ intervals j ∷ words j ∷ []
unfolding opened_values header_in intervals
values_of d b j k e =
    let w : words j ≡ table_words (header_in j) = ap words (sym (held_job d b j k e)) ∙ words_are b (header_in j) (opens_by d b (header_in j) j k e refl) in
    rw w

pub opening : Opening
unfolding open_export on_took
opening d b values = (
  λ n e. rw e,
  λ j k e. rw e (in_order (λ n. opened n values) (room_decides 4 values) (λ r. r ≡ opened 0 (over (k ∷ length j.units ∷ intervals j ∷ words j ∷ []) values)) (opened 0 (over (opened_values k (header_in j)) values)) _ refl (λ h. ap (λ (vs : List ℕ). opened 0 (over vs values)) (values_of d b j k e))),
)

pub calling : Calling
unfolding calls_export calls_refusal
calling b calls answers values =
    looks (λ n. called n answers values) (parse format.opening b) (λ j. answers_tests calls (length answers)) 3 values (after_calls (calls_call b calls answers) values) (λ j. CallConditions calls ++ (condition 12 (length calls / 3 ≤ length answers) ∷ [])) (λ j r. r ≡ called 0 (over (book_numbers j calls) answers) (over (pins_list (pin_totals j (book_pins j calls))) values))
    (λ j k e. (
      unfold answers_tests in (decides_join (calls_decide calls) (one_more refl (leb-true (length calls / 3) (length answers), le-leb (length calls / 3) (length answers)) no_more)),
      λ h. done j (((((call_sessions b calls answers).1 j k e).1 h.0).1 h.1.0).1 h.1.1.0),
    ))
  where
    done : (j : Job) → calls_call b calls answers ≡ record { answer = gives (pin_totals j (book_pins j calls)); list = over (book_numbers j calls) answers } → after_calls (calls_call b calls answers) values ≡ called 0 (over (book_numbers j calls) answers) (over (pins_list (pin_totals j (book_pins j calls))) values)
    done j q = unfold after_calls number_of put in (rw q)

-- what is exported of a session of which demand 3 holds
exported : (j : Job) (calls : List ℕ) (aim order : ℕ) (answers table entries values : List ℕ) (s : Session) → SessionClaim j calls aim order answers table entries s → Planning j calls aim order answers table entries values (after_session s values)
unfolding after_session
exported j calls aim order answers table entries values s c = record {
  session = s;
  claim = c;
  is = unfold after_session in refl;
  lists = (refl, refl, refl);
  values_are = λ t e. totals_put s.planned.answer t values e;
  none_iff = number_iff s.planned.answer c.planning.none_iff;
  none_kept = λ e. let kept = number_kept s.planned.answer values c.planning.none_kept e in (c.none_kept (thirteen s.planned.answer e), kept.0, kept.1);
  else_done = number_else s.planned.answer (λ f. given_zero s.planned.answer _ (c.planning.else_best f).totals_are);
}

pub plans : Plans
unfolding plan_export plan_refusal
plans b calls aim order answers table entries values =
    of_job _ (λ n. planned n answers table entries values) format.opening b (λ j. PlanConditions j calls aim order answers table entries) values _ (3 + buckets_in b) (λ j. 3 + length j.line.buckets) (λ j k e. ap (λ (n : ℕ). 3 + n) (counted format.opening b j k e))
    (looks (λ n. planned n answers table entries values) (parse format.opening b) (λ j. session_tests j calls aim order (length answers) (length table) (length entries)) (3 + buckets_in b) values (after_session (session_call b calls aim order answers table entries) values) (λ j. PlanConditions j calls aim order answers table entries) (λ j r. Planning j calls aim order answers table entries values r)
    (λ j k e. (
      session_decides b calls aim order answers table entries j,
      λ h. exported j calls aim order answers table entries values (session_call b calls aim order answers table entries) (((((((((sessions b calls aim order answers table entries).1 j k e).1 h.0).1 h.1.0).1 h.1.1.0).1 h.1.1.1.0).1 h.1.1.1.1.0).1 h.1.1.1.1.1.0).1 h.1.1.1.1.1.1.0),
    )))

-- and of a replay, over so many buckets
pub replay_told : (j : Job) (values : List ℕ) (n : ℕ) → n ≡ length j.line.buckets → (r : lent.Ended Replayed) → ReplayTold j values r (after_replay n r values)
unfolding after_replay
replay_told j values n q r = record {
  levels_are = refl;
  clean_values = λ t e. unfold replayed_list totals_list in (put_given r.answer (totals_are t) (replayed_list n) values e);
  violated_values = λ i v e. rw (← q) (unfold replayed_list in (put_given r.answer (violated i v) (replayed_list n) values e));
}

exported_replay : (j : Job) (calls entries levels values : List ℕ) (n : ℕ) → n ≡ length j.line.buckets → (r : lent.Ended Replayed) → DemandTwo j (archive_pins j calls) (plan_of j entries) levels r → Replaying j calls entries levels values (after_replay n r values)
exported_replay j calls entries levels values n q r c = record { replay = r; claim = c; is = unfold after_replay in (rw q); told = replay_told j values n q r }

pub replays : Replays
unfolding replay_export replay_refusal
replays b calls entries levels values =
    of_job _ (λ n. replayed n levels values) archive b (λ j. ReplayConditions j calls entries levels) values _ (5 + buckets_in b) (λ j. 5 + length j.line.buckets) (λ j k e. ap (λ (n : ℕ). 5 + n) (counted archive b j k e))
    (looks (λ n. replayed n levels values) (parse archive b) (λ j. calls_tests calls ++ replay_tests j entries (length levels)) (5 + buckets_in b) values (after_replay (buckets_in b) (replay_session b calls entries levels) values) (λ j. ReplayConditions j calls entries levels) (λ j r. Replaying j calls entries levels values r)
    (λ j k e. (
      decides_join (calls_decide calls) (replay_decides b j k e entries levels),
      λ h. exported_replay j calls entries levels values (buckets_in b) (counted archive b j k e) (replay_session b calls entries levels) ((((((replay_sessions b calls entries levels).1 j k e).1 h.0).1 h.1.0).1 h.1.1.0).1 h.1.1.1.0),
    )))

-- an order of refusals, seen through what is exported of a call
pub in_order_through : {R S : Type 0} (f : R → S) (r : R) (refuse : ℕ → R) (out : ℕ → S) (cs : List Condition) (A B : Type 0) → ((n : ℕ) → f (refuse n) ≡ out n) → (A → B) → InOrder r refuse cs A → InOrder (f r) out cs B
in_order_through f r refuse out [] A B e g p = g p
in_order_through f r refuse out (c ∷ cs) A B e g p = (λ h. ap f (p.0 h) ∙ e c.number, λ h. in_order_through f r refuse out cs A B e g (p.1 h))

pub looks_through : {R S : Type 0} (f : R → S) (r : R) (refuse : ℕ → R) (out : ℕ → S) (reading : P.Result Job) (conditions : Job → List Condition) (A B : Job → Type 0) → ((n : ℕ) → f (refuse n) ≡ out n) → ((j : Job) → A j → B j) → Looks r refuse reading conditions A → Looks (f r) out reading conditions B
looks_through f r refuse out reading conditions A B e g l = (λ n q. ap f (l.0 n q) ∙ e n, λ j k q. in_order_through f r refuse out (conditions j) (A j) (B j) e (g j) (l.1 j k q))

refusal_shown : (list : List ℕ) (n : ℕ) → done_export (lent.refuse list n) ≡ filled n list
unfolding done_export lent.refuse number_of
refusal_shown list n = refl

done_shown : (e : lent.Ended (Unit {0})) → e.answer ≡ gives tt → done_export e ≡ filled 0 e.list
unfolding done_export number_of
done_shown e q = rw q

pub reports_exported : Reports
reports_exported b entries sums = looks_through done_export _ (lent.refuse sums) (λ n. filled n sums) (parse archive b) (λ j. condition 14 (InShape j entries) ∷ condition 12 (length j.units + 1 ≤ length sums) ∷ []) (λ j. Reported j (plan_of j entries) sums (report_call b entries sums)) (λ j. Reporting j entries sums (report_export b entries sums)) (refusal_shown sums) (λ j c. record { report = report_call b entries sums; claim = c; is = done_shown (report_call b entries sums) c.given }) (reports b entries sums)

pub turns_exported : Turns
turns_exported b old entries = looks_through done_export _ (lent.refuse entries) (λ n. filled n entries) (parse archive b) (λ j. condition 14 (WasPlan j old) ∷ condition 12 (3 * intervals j ≤ length entries) ∷ []) (λ j. Turned j old entries (turn_call b old entries)) (λ j. Turning j old entries (turn_export b old entries)) (refusal_shown entries) (λ j c. record { turn = turn_call b old entries; claim = c; is = done_shown (turn_call b old entries) c.given }) (turns b old entries)

-- an order that is known of the refusal found first
in_front : {R : Type 0} (refuse : ℕ → R) (o : Option ℕ) (r : R) (cs ds : List Condition) (Else : Type 0) → InOrder o some cs (o ≡ none) → ((n : ℕ) → o ≡ some n → r ≡ refuse n) → (o ≡ none → InOrder r refuse ds Else) → InOrder r refuse (cs ++ ds) Else
in_front refuse o r [] ds Else p f g = g p
in_front refuse o r (c ∷ cs) ds Else p f g = (λ h. f c.number (p.0 h), λ h. in_front refuse o r cs ds Else (p.1 h) f g)

-- a job that is made: what refuses it, in which order, how long it is where nothing does, and what holds of what is written
module _ (fields job values : List ℕ) (looked : Option ℕ) (made : lent.Ended ℕ) where
  abbrev r : x.Written
  r = job_export fields looked made job values

  module _ (nine : (length fields ≡ 9) ⊎ (length fields ≡ 12)) where
    on : r ≡ unless (λ n. written n job values) (first looked (refusal (room_for 1 values))) (after_write made values)
    unfolding job_export
    on = guarded_last (λ n. written n job values) _ _ (is_header (length fields) nine)

    refuses : (n : ℕ) → looked ≡ some n → r ≡ written n job values
    refuses n e = on ∙ unless_some (λ n. written n job values) _ n _ (unless_some some looked n _ e)

    module _ (Holds : ℕ → List ℕ → Type 0) (size : ℕ) (given : looked ≡ none → made.answer ≡ gives size) (holds : (n : ℕ) → made.answer ≡ gives n → Holds n made.list) where
      then_room : looked ≡ none → InOrder r (λ n. written n job values) (condition 12 (1 ≤ length values) ∷ []) (Making Holds values r)
      then_room e =
          in_order (λ n. written n job values) (room_decides 1 values) (Making Holds values) (after_write made values) r
          (on ∙ ap (λ (o : Option ℕ). unless (λ n. written n job values) o (after_write made values)) (unless_none some looked _ e) ∙ unfold guarded in refl)
          (λ h. shows (given e))
        where
          shows : made.answer ≡ gives size → Making Holds values (after_write made values)
          shows q = unfold after_write number_of in (record {
            taken = size;
            holds = holds size q;
            is = ap₂ (λ (n : ℕ) (vs : List ℕ). written n made.list vs) (rw q) (put_given _ size (λ (n : ℕ). n ∷ []) values q);
          })

  makes : (asks : List Condition) (Holds : ℕ → List ℕ → Type 0) (size : ℕ) → InOrder looked some asks (looked ≡ none) → (looked ≡ none → made.answer ≡ gives size) → ((n : ℕ) → made.answer ≡ gives n → Holds n made.list) → Makes fields job values r asks Holds
  makes asks Holds size order given holds = (
    λ f. unfold job_export in (guarded_here (λ n. written n job values) _ _ _ (no_header (length fields) f)),
    λ nine. in_front (λ n. written n job values) looked r asks (condition 12 (1 ≤ length values) ∷ []) (Making Holds values r) order (refuses nine) (then_room nine Holds size given holds),
  )

pub writes_exported : Writes
writes_exported fields rates sizes distortions job values =
    let h = header_of fields in
    makes fields job values _ _ (Asks h rates sizes distortions job) (Written h rates sizes distortions job) (job_size h) (refusal_order h rates sizes distortions job) (done_first h rates sizes distortions job) (writes h rates sizes distortions job)

pub trials_exported : Trials
trials_exported fields state job values =
    let h = header_of fields in
    makes fields job values _ _ (trials.Asks h job) (Tried h state job) (job_size h) (trials_proofs.refusal_order h job) (trials_proofs.done_first h state job) (trials_proofs.tries h state job)
