-- The value function and the best walk are what planning must answer, with any choices open: `Planning`.
use Prim.Native.Nat.{ℕ, ◌+◌, ◌-◌, ◌≤◌, max}
use mathlib.Core.Path.{◌≡◌, sym, ◌∙◌}
use mathlib.Core.Option.{some}
use mathlib.Core.List.{List}
use native.Mathlib.Omega.{arith}
use lib.ListN.{length}
use Rattle.trellis.specs.Trellis.{Walk, least, Foremost}
use Rattle.trellis.specs.Trellis as trellis
use Rattle.trellis.specs.Limit.{UpTo, limited}
use Rattle.trellis.proofs.Optimality.{sum_combines, sum_monotone, sum_cancels, none_iff}
use Rattle.trellis.proofs.Limit.{limited_walk, walk_limited}
use Rattle.trellis.proofs.TieOrder.{best_foremost}
use Rattle.model.specs.Job.{Levels, Job, Entry, intervals}
use Rattle.model.specs.Replay.{total_distortion}
use Rattle.model.specs.Best.{Order, Before, all_walks, Open, trellis_of, least_by, least_total, total, best_plan}
use Rattle.model.specs.Claims.{BestOf, Permits, PlanningClaim, Planning}
use Rattle.model.proofs.DemandTwo.{demand_two}
use Rattle.model.proofs.Entries.{entries_sorted}
use Rattle.model.proofs.Walks.{fits_length, walk_fits, walk_clean, clean_walk, sum_distortion, all_max, least_order}

module _ (j : Job) (k : Open) (s : ℕ) (start : Levels) (o : Order) (counted : s ≤ intervals j) where
  -- a walk is a plan that is permitted, and back
  pub walk_permitted : {p : List Entry} → Walk (trellis_of j k o) (intervals j - s) s start p → Permits j k s start p
  unfolding trellis_of
  walk_permitted {p} w =
      let r = limited_walk k.limit (all_walks j k.pins o) w in
      record {
        admissible = record {
          shaped = walk_fits j k.pins o r.0 (omega arith);
          sound = (demand_two j k.pins s start p).clean_iff.0 (walk_clean j k.pins o r.0);
        };
        up_to = rw (all_max j k.pins o s p) at r.1;
      }

  pub permitted_walk : {p : List Entry} → Permits j k s start p → Walk (trellis_of j k o) (intervals j - s) s start p
  unfolding trellis_of
  permitted_walk {p} a =
      let n = fits_length a.admissible.shaped in
      let e : intervals j - s ≡ length p = omega arith in
      let h : UpTo k.limit (trellis.total (all_walks j k.pins o) max s p) = rw (all_max j k.pins o s p) a.up_to in
      rw e (walk_limited k.limit (all_walks j k.pins o) (clean_walk j k.pins o start a.admissible.shaped ((demand_two j k.pins s start p).clean_iff.1 a.admissible.sound)) h)

  any_order : least (trellis_of j k o) ◌+◌ (intervals j - s) s start ≡ least_total j k s start
  unfolding least_by
  any_order = least_order j k o ◌+◌ sum_combines (intervals j - s) s start

  foremost : (v : ℕ) → least_total j k s start ≡ some v → Foremost (trellis_of j k o) ◌+◌ (Before o) (intervals j - s) s start v (best_plan j k s start o)
  unfolding trellis_of all_walks limited best_plan
  foremost v e = best_foremost (trellis_of j k o) ◌+◌ sum_monotone sum_cancels (Before o) (λ t. entries_sorted j t o) (intervals j - s) s start v (any_order ∙ e)

  foremost_best : {v : ℕ} {p : List Entry} → Foremost (trellis_of j k o) ◌+◌ (Before o) (intervals j - s) s start v p → BestOf j s total o (Permits j k s start) p
  foremost_best {v} {p} f =
      let e = sym (sum_distortion j k o s p) ∙ f.optimal.reaches in
      record {
        among = walk_permitted f.optimal.walk;
        least_of_all = λ q a. rw (e, ← sum_distortion j k o s q) (f.optimal.least_of_all q (permitted_walk a));
        first_of_these = λ q a h. f.no_later q (permitted_walk a) (as_little q a (rw e at h));
      }
    where
      as_little : (q : List Entry) → Permits j k s start q → total_distortion j s q ≤ v → trellis.total (trellis_of j k o) ◌+◌ s q ≡ v
      as_little q a h = omega (arith, f.optimal.least_of_all q (permitted_walk a), sum_distortion j k o s q)

  planned : PlanningClaim j k s start o
  planned =
      let empty = none_iff (trellis_of j k o) ◌+◌ sum_monotone (intervals j - s) s start in
      record {
        none_iff = (λ e p a. empty.0 (any_order ∙ e) p (permitted_walk a), λ h. sym any_order ∙ empty.1 (λ p w. h p (walk_permitted w)));
        best_is = λ v e. foremost_best (foremost v e);
        its_distortion = λ v e. sym (sum_distortion j k o s (best_plan j k s start o)) ∙ (foremost v e).optimal.reaches;
      }

pub planning : Planning
planning = planned
