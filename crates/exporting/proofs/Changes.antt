-- The claim of the exported change of contract, composed from that of the call within it: `Changes`.
use Prim.Native.Nat.{ℕ, ◌+◌, ◌≤◌}
use mathlib.Core.Path.{◌≡◌, refl, ◌∙◌, ap}
use mathlib.Core.Logic.{inl}
use mathlib.Core.List.{List, [], ◌∷◌, ◌++◌}
use lib.ListN.{length}
use Rattle.base.specs.Refusals.{Test, Condition, condition, guarded}
use Rattle.base.proofs.Refusals.{AllHold, Following, decided, following_join, in_turn}
use Rattle.model.specs.Job.{Job}
use Rattle.format.specs.Parser.{Looks, on_read}
use Rattle.format.specs.Parser as P
use Rattle.format.specs.JobBytes.{opening, parse}
use Rattle.format.specs.Claims.{InLimits}
use Rattle.pinning.specs.Check.{Matches, checked}
use Rattle.pinning.specs.Numbers.{set_in}
use Rattle.pinning.proofs.Agree.{limits, checked_refused, matched, unmatched}
use Rattle.planning.specs.Calls as planning
use Rattle.planning.specs.Calls.{refuse}
use Rattle.planning.specs.Seeing.{pins_of}
use Rattle.changing.specs.NewContract.{Contract}
use Rattle.changing.specs.Claims.{Asks, ChangeClaim}
use Rattle.changing.proofs.Changes.{follows, change_calls}
use Rattle.calling.specs.Sessions.{order_named}
use Rattle.calling.specs.Claims.{Either}
use Rattle.calling.proofs.Sessions.{named_decide}
use Rattle.values.specs.Lists.{buckets_in}
use Rattle.exporting.specs.Exports.{room_for}
use Rattle.exporting.specs.Sets.{SetPlanned, set_planned, after_plan}
use Rattle.exporting.specs.Changes.{change_asked, set_change_refusal, change_export, Changing, ChangeConditions, Changes}
use Rattle.exporting.proofs.Exports.{room_decides, whole, all_tests, of_job, counted, given_zero, number_iff, number_kept, number_else, totals_put}
use Rattle.exporting.proofs.Sets.{where_all}

module _ (set old : List ℕ) (s : ℕ) (c : Contract) (order : ℕ) (table entries values : List ℕ) where
  abbrev out : ℕ → SetPlanned
  out n = set_planned n table entries values

  -- what is exported of a change of which the claim of `changing` holds
  exported_change : (j : Job) (r : planning.Planned) → ChangeClaim j (pins_of j (set_in set)) old s c (order_named order) table entries r → Changing j set old s c order table entries values (after_plan r values)
  unfolding after_plan
  exported_change j r h = record {
    planned = r;
    claim = h;
    is = unfold after_plan in refl;
    lists = (refl, refl);
    values_are = λ t e. totals_put r.answer t values e;
    none_iff = number_iff r.answer h.none_iff;
    none_kept = number_kept r.answer values h.none_kept;
    else_done = number_else r.answer (λ f. given_zero r.answer _ (h.else_best f).totals_are);
  }

  abbrev tests : Job → List Test
  tests j = change_asked j (pins_of j (set_in set)) order old s c (length table) (length entries)

  -- what is asked behind the set, then room for so many values; the aim, which is not named, is the total
  abbrev Behind : Job → ℕ → List Condition
  Behind j least = Asks j (pins_of j (set_in set)) old s c table entries ++ (condition 12 (least ≤ length values) ∷ [])

  asked_follows : (j : Job) → InLimits j → (least : ℕ) → Following (tests j ++ room_for least values) (condition 2 (Either 0) ∷ condition 2 (Either order) ∷ Behind j least)
  unfolding change_asked
  asked_follows j l least = following_join (following_join (decided (named_decide 0 order)) (follows j l (pins_of j (set_in set)) old s c (order_named order) table entries)) (decided (room_decides least values))

  -- a change whose refusal is found first, then room for its values
  module _ (b : List ℕ) (least : ℕ) (found : planning.Planned) where
    abbrev exported : SetPlanned
    exported = whole out (checked opening b (set_in set)) tests least values (after_plan found values)

    in_tests : exported ≡ on_read out (checked opening b (set_in set)) (λ j. guarded out (tests j ++ room_for least values) (after_plan found values))
    in_tests = all_tests out (checked opening b (set_in set)) tests least values (after_plan found values)

    looks_change : ((j : Job) (k : ℕ) → parse opening b ≡ P.took j k → Matches j (set_in set) → AllHold (Behind j least) → ChangeClaim j (pins_of j (set_in set)) old s c (order_named order) table entries found) → Looks exported out (parse opening b) (λ j. condition 6 (Matches j (set_in set)) ∷ condition 2 (Either order) ∷ Behind j least) (λ j. Changing j set old s c order table entries values exported)
    unfolding on_read
    looks_change claimed = (
      λ n e. in_tests ∙ rw (checked_refused opening b (set_in set) n e),
      λ j k e. (
        λ f. in_tests ∙ rw (unmatched opening b j k e (set_in set) f),
        λ f. (in_turn out (asked_follows j (limits opening b j k e) least) (Changing j set old s c order table entries values) (after_plan found values) exported (in_tests ∙ rw (matched opening b j k e (set_in set) f)) (λ h. exported_change j found (claimed j k e f h.1.1))).1 (inl refl),
      ),
    )

pub changes : Changes
unfolding change_export set_change_refusal
changes b set old s c order table entries values =
    of_job _ (λ n. set_planned n table entries values) opening b (λ j. ChangeConditions j set old s c order table entries) values _ (3 + buckets_in b) (λ j. 3 + length j.line.buckets) (λ j k e. ap (λ (n : ℕ). 3 + n) (counted opening b j k e))
    (looks_change set old s c order table entries values b (3 + buckets_in b) _
    (λ j k e m. where_all _ (refuse table entries) (Asks j (pins_of j (set_in set)) old s c table entries) (condition 12 (_ ≤ length values) ∷ []) _ (((change_calls b (set_in set) old s c (order_named order) table entries).1 j k e).1 m)))
