-- The claims of the exported calls with a set as numbers, composed from those of the calls within them: `SetOpening`, `SetCalls`, `SetSees`, `SetPlans` and `SetReplays`.
use Prim.Native.Nat.{ℕ, ◌+◌, ◌*◌, ◌≤◌}
use mathlib.Core.Path.{◌≡◌, refl, ◌∙◌, ap, subst, sym}
use mathlib.Core.Option.{Option}
use mathlib.Core.List.{List, [], ◌∷◌, ◌++◌}
use lib.ListN.{length}
use Rattle.base.specs.Refusals.{Test, refusal, unless, first, Condition, condition, InOrder}
use Rattle.base.specs.Lent.{Ended, over}
use Rattle.base.proofs.Refusals.{Decides, decides_join, AllHold, in_order}
use Rattle.model.specs.Job.{Job, intervals}
use Rattle.model.specs.Pins.{Call, pin, lift, sees}
use Rattle.model.specs.Table.{words}
use Rattle.format.specs.Parser.{Looks, on_took}
use Rattle.format.specs.Parser as P
use Rattle.format.specs.JobBytes.{header_in, Door, opening, archive, parse}
use Rattle.pinning.specs.PinSet.{PinSet, fresh}
use Rattle.pinning.specs.Check.{Matches, checked}
use Rattle.pinning.specs.Calls.{Handed, refuse, take_in, called, call, click_tests}
use Rattle.pinning.specs.Claims.{CallAsks, Asks}
use Rattle.pinning.specs.Numbers.{set_size, set_numbers, set_in}
use Rattle.pinning.proofs.Agree.{looks_checked}
use Rattle.pinning.proofs.Refusals.{refusals, sees_decides, click_refusal}
use Rattle.replaying.specs.Entries.{plan_of}
use Rattle.replaying.specs.Calls.{Replayed, replay_tests, replay_call}
use Rattle.replaying.specs.Claims.{InShape, DemandTwo}
use Rattle.replaying.proofs.Reports.{replay_decides, replay_calls}
use Rattle.planning.specs.Calls as planning
use Rattle.planning.specs.Calls.{plan_call}
use Rattle.planning.specs.Claims.{PlanClaim}
use Rattle.planning.specs.See as sight
use Rattle.planning.specs.See.{keep, see_call}
use Rattle.planning.specs.Seeing.{pins_of, SeeClaim}
use Rattle.planning.proofs.Refusals.{plan_decides, plan_calls}
use Rattle.planning.proofs.Seeing.{see_calls}
use Rattle.calling.specs.Sessions.{aim_named, order_named, set_plan_tests, set_plan_refusal, set_replay_refusal}
use Rattle.calling.specs.Claims.{Either}
use Rattle.calling.proofs.Sessions.{named_decide}
use Rattle.values.specs.Lists.{buckets_in}
use Rattle.exporting.specs.Exports.{room_for, Filled, filled, replayed, after_replay}
use Rattle.exporting.specs.Sets.{set_export, after_call, call_export, Seen, seen, after_see, see_export, set_planned, after_plan, set_plan_export, set_replay_export}
use Rattle.exporting.specs.SetClaims.{SetOpening, SetCalls, SetSeen, SetSees, SetPlanning, SetPlans, SetReplaying, SetReplays}
use Rattle.exporting.proofs.Exports.{replay_told, room_decides, whole, all_tests, of_job, counted, given_zero, number_iff, number_kept, number_else, totals_put, looks_through}

pub set_opening : SetOpening
unfolding set_export on_took
set_opening d b set = (
  λ n e. rw e,
  λ j k e. rw e (in_order (λ n. filled n set) (room_decides set_size set) (λ r. r ≡ filled 0 (over (set_numbers (fresh (header_in j))) set)) _ _ refl (λ h. refl)),
)

-- a pin or a lift, seen through what is exported of it
abbrev handed : List ℕ → Handed → Filled
handed set h = after_call h.refused h set

pub set_calls : SetCalls
unfolding call_export
set_calls b set k =
    looks_through (handed set) (call b (set_in set) k) (refuse (set_in set)) (λ n. filled n set) (parse opening b) (λ j. Asks j (set_in set) k) (λ j. call b (set_in set) k ≡ take_in (called j (set_in set) k)) _
    (λ n. unfold after_call refuse in refl) (λ j e. ap (handed set) e ∙ unfold after_call take_in in refl) (refusals b (set_in set) k)

-- a call with a set whose refusal is found first, then room for its values
looks_set : {R : Type 0} (refuse : ℕ → R) (d : Door) (b : List ℕ) (s : PinSet) (tests : Job → List Test) (least : ℕ) (values : List ℕ) (work : R) (conditions : Job → List Condition) (Else : Job → R → Type 0) → ((j : Job) (k : ℕ) → parse d b ≡ P.took j k → Matches j s → Decides (tests j) (conditions j) × (AllHold (conditions j ++ (condition 12 (least ≤ length values) ∷ [])) → Else j work)) → Looks (whole refuse (checked d b s) tests least values work) refuse (parse d b) (λ j. condition 6 (Matches j s) ∷ conditions j ++ (condition 12 (least ≤ length values) ∷ [])) (λ j. Else j (whole refuse (checked d b s) tests least values work))
looks_set {R} refuse d b s tests least values work conditions Else f =
    subst (λ (r : R). Looks r refuse (parse d b) (λ j. condition 6 (Matches j s) ∷ conditions j ++ (condition 12 (least ≤ length values) ∷ [])) (λ j. Else j r))
    (sym (all_tests refuse (checked d b s) tests least values work))
    (looks_checked refuse d b s (λ j. tests j ++ room_for least values) (λ j. conditions j ++ (condition 12 (least ≤ length values) ∷ [])) (λ j. work) Else
    (λ j k e m. let h = f j k e m in (decides_join h.0 (room_decides least values), h.1)))

-- what an order of refusals says where its conditions hold, and others behind them
pub where_all : {R : Type 0} (r : R) (refuse : ℕ → R) (cs ds : List Condition) (Else : Type 0) → InOrder r refuse cs Else → AllHold (cs ++ ds) → Else
where_all r refuse [] ds Else p h = p
where_all r refuse (c ∷ cs) ds Else p h = where_all r refuse cs ds Else (p.1 h.0) h.1

-- what is exported of a call that sees
exported_see : (j : Job) (set : List ℕ) (k : Call) (table values : List ℕ) (r : sight.Seen) → SeeClaim j (set_in set) k table r → SetSeen j set k table values (after_see r.answer r set values)
exported_see j set k table values r c = record {
  see = r;
  claim = c;
  is = unfold after_see in (rw (c.word, c.set_is) refl);
}

module _ (b set : List ℕ) (k : Call) (table values : List ℕ) where
  abbrev s : PinSet
  s = set_in set

  abbrev after : Seen
  after = after_see (see_call b s k table).answer (see_call b s k table) set values

  -- what refuses the click is looked at first: the job, the set and its own tests
  see_whole : see_export b set k table values ≡ whole (λ n. seen n set table values) (checked opening b s) (λ j. click_tests j s (sees k (length table))) 1 values after
  unfolding see_export
  see_whole = ap (λ (o : Option ℕ). unless (λ n. seen n set table values) (first o (refusal (room_for 1 values))) after) (click_refusal b s (sees k (length table)))

  sees_in_order : Looks (see_export b set k table values) (λ n. seen n set table values) (parse opening b) (λ j. (Asks j s k ++ (condition 11 (words j ≤ length table) ∷ [])) ++ (condition 12 (1 ≤ length values) ∷ [])) (λ j. SetSeen j set k table values (see_export b set k table values))
  sees_in_order =
      subst (λ (r : Seen). Looks r (λ n. seen n set table values) (parse opening b) (λ j. (Asks j s k ++ (condition 11 (words j ≤ length table) ∷ [])) ++ (condition 12 (1 ≤ length values) ∷ [])) (λ j. SetSeen j set k table values r)) (sym see_whole)
      (looks_set (λ n. seen n set table values) opening b s (λ j. click_tests j s (sees k (length table))) 1 values after (λ j. CallAsks j s k ++ (condition 11 (words j ≤ length table) ∷ [])) (λ j r. SetSeen j set k table values r)
      (λ j n e m. (
        sees_decides j s k (length table),
        λ h. exported_see j set k table values (see_call b s k table) (where_all (see_call b s k table) (keep s table) (Asks j s k ++ (condition 11 (words j ≤ length table) ∷ [])) (condition 12 (1 ≤ length values) ∷ []) _ ((see_calls b s k table).1 j n e) (m, h)),
      )))

pub set_sees : SetSees
set_sees b set (pin u x) table values = sees_in_order b set (pin u x) table values
set_sees b set (lift u) table values = sees_in_order b set (lift u) table values

-- what is exported of planning of which demand 3 holds
exported_plan : (j : Job) (set : List ℕ) (aim order : ℕ) (table entries values : List ℕ) (r : planning.Planned) → PlanClaim j (pins_of j (set_in set)) (aim_named aim) (order_named order) 0 j.start table entries r → SetPlanning j set aim order table entries values (after_plan r values)
unfolding after_plan
exported_plan j set aim order table entries values r c = record {
  planned = r;
  claim = c;
  is = unfold after_plan in refl;
  none_kept = number_kept r.answer values c.none_kept;
  lists = (refl, refl);
  values_are = λ t e. totals_put r.answer t values e;
  none_iff = number_iff r.answer c.none_iff;
  else_done = number_else r.answer (λ f. given_zero r.answer _ (c.else_best f).totals_are);
}

-- what planning asks behind the set
abbrev PlanAsks : ℕ → ℕ → List ℕ → List ℕ → Job → List Condition
PlanAsks aim order table entries j = condition 2 (Either aim) ∷ condition 2 (Either order) ∷ condition 11 (words j ≤ length table) ∷ condition 12 (3 * intervals j ≤ length entries) ∷ []

pub set_plans : SetPlans
unfolding set_plan_export set_plan_refusal set_plan_tests
set_plans b set aim order table entries values =
    of_job _ (λ n. set_planned n table entries values) opening b (λ j. condition 6 (Matches j (set_in set)) ∷ PlanAsks aim order table entries j) values _ (3 + buckets_in b) (λ j. 3 + length j.line.buckets) (λ j k e. ap (λ (n : ℕ). 3 + n) (counted opening b j k e))
    (looks_set (λ n. set_planned n table entries values) opening b (set_in set) (λ j. set_plan_tests j aim order (length table) (length entries)) (3 + buckets_in b) values (after_plan (plan_call b (set_in set) (aim_named aim) (order_named order) table entries) values) (PlanAsks aim order table entries) (λ j r. SetPlanning j set aim order table entries values r)
    (λ j k e m. (
      decides_join (named_decide aim order) (plan_decides j table entries),
      λ h. exported_plan j set aim order table entries values _ (((((plan_calls b (set_in set) (aim_named aim) (order_named order) table entries).1 j k e).1 m).1 h.1.1.0).1 h.1.1.1.0),
    )))

-- and of a replay of which demand 2 holds
exported_played : (j : Job) (set entries levels values : List ℕ) (n : ℕ) → n ≡ length j.line.buckets → (r : Ended Replayed) → DemandTwo j (pins_of j (set_in set)) (plan_of j entries) levels r → SetReplaying j set entries levels values (after_replay n r values)
exported_played j set entries levels values n q r c = record { replay = r; claim = c; is = unfold after_replay in (rw q); told = replay_told j values n q r }

abbrev ReplayAsks : List ℕ → List ℕ → Job → List Condition
ReplayAsks entries levels j = condition 14 (InShape j entries) ∷ condition 12 ((1 + length j.line.buckets) * intervals j ≤ length levels) ∷ []

pub set_replays : SetReplays
unfolding set_replay_export set_replay_refusal
set_replays b set entries levels values =
    of_job _ (λ n. replayed n levels values) archive b (λ j. condition 6 (Matches j (set_in set)) ∷ ReplayAsks entries levels j) values _ (5 + buckets_in b) (λ j. 5 + length j.line.buckets) (λ j k e. ap (λ (n : ℕ). 5 + n) (counted archive b j k e))
    (looks_set (λ n. replayed n levels values) archive b (set_in set) (λ j. replay_tests j entries (length levels)) (5 + buckets_in b) values (after_replay (buckets_in b) (replay_call b (set_in set) entries levels) values) (ReplayAsks entries levels) (λ j r. SetReplaying j set entries levels values r)
    (λ j k e m. (
      replay_decides b j k e entries levels,
      λ h. exported_played j set entries levels values (buckets_in b) (counted archive b j k e) (replay_call b (set_in set) entries levels) (((((replay_calls b (set_in set) entries levels).1 j k e).1 m).1 h.0).1 h.1.0),
    )))
