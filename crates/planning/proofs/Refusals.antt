-- Planning is refused in document 01's order, and else gives 13 or a best plan: `PlanCalls`; a job that never drains is refused: `NeverPlanned`; what a refusal leaves: `Keeps`; 13 is given alike by either aim: `NoPlanAlike`, `NoPlanAnyhow`; and the order makes no difference to table, refusals and least total: `OrdersAlike`.
use Prim.Native.Nat.{ℕ, ◌-◌, ◌*◌, ◌≤◌}
use mathlib.Core.Path.{◌≡◌, refl, sym, ◌∙◌, ap}
use mathlib.Core.Logic.{◌↔◌}
use mathlib.Core.Bool.{true}
use mathlib.Core.Option.{Option, none, some}
use mathlib.Core.List.{List, [], ◌∷◌}
use native.Mathlib.Omega.{arith}
use lib.Dec.{leb}
use lib.ListN.{length}
use borrow.Author.Tests.{leb-true, le-leb}
use Rattle.base.specs.Answer as base
use Rattle.base.specs.Refusals.{Test, refusal, unless, guarded, condition}
use Rattle.base.proofs.Answers.{refused_same, not_refused, gives_same}
use Rattle.base.proofs.Refusals.{not_none, Decides, no_more, one_more, Guarded, was_refused, was_done, guarded_is}
use Rattle.model.specs.Job.{Levels, Job, Entry, intervals}
use Rattle.model.specs.Pins.{PinMap}
use Rattle.model.specs.Admissible.{Admissible}
use Rattle.model.specs.Replay.{Totals, totals}
use Rattle.model.specs.Best.{Order, Open, least_total, Aim, total, even, open_for}
use Rattle.model.specs.Table.{words}
use Rattle.format.specs.Parser.{Result, refused, took, on_read}
use Rattle.format.specs.JobBytes.{opening}
use Rattle.model.proofs.Evenness.{aims}
use Rattle.format.proofs.Bounds.{limited, two_doors}
use Rattle.format.proofs.Places.{well_read}
use Rattle.pinning.specs.PinSet.{lines}
use Rattle.pinning.specs.Check.{checked}
use Rattle.pinning.proofs.Agree.{looks_checked, checked_refused}
use Rattle.replaying.specs.Entries.{entry_size}
use Rattle.planning.specs.Calls.{Planned, refuse, searched, search_in, plan_tests, plan_in, plan_call}
use Rattle.planning.specs.Claims.{PlanClaim, Keeping, PlanCalls, NeverPlanned, Keeps, NoPlanAlike, NoPlanAnyhow, OrderAlike, OrdersAlike}
use Rattle.planning.proofs.DemandThree.{search_claim, plan_searches, plan_checked}

-- what planning of a whole job is tested for
pub plan_decides : (j : Job) (table entries : List ℕ) → Decides (plan_tests j 0 (length table) (length entries)) (condition 11 (words j ≤ length table) ∷ condition 12 (entry_size * intervals j ≤ length entries) ∷ [])
unfolding plan_tests
plan_decides j table entries = one_more refl (leb-true (words j) (length table), le-leb (words j) (length table)) (one_more refl entries_decide no_more)
  where
    entries_decide : (leb (entry_size * (intervals j - 0)) (length entries) ≡ true) ↔ (entry_size * intervals j ≤ length entries)
    entries_decide = (λ q. omega (arith, leb-true (entry_size * (intervals j - 0)) (length entries) q), λ q. le-leb (entry_size * (intervals j - 0)) (length entries) (omega arith))

pub plan_calls : PlanCalls
unfolding plan_call plan_in
plan_calls b s a o table entries =
    looks_checked (refuse table entries) opening b s (λ j. plan_tests j 0 (length table) (length entries)) (λ j. condition 11 (words j ≤ length table) ∷ condition 12 (entry_size * intervals j ≤ length entries) ∷ []) (λ j. search_in j (lines (length j.units) s.pins) a o 0 j.start table entries) (λ j r. PlanClaim j (lines (length j.units) s.pins) a o 0 j.start table entries r)
    (λ j k e m. (
      plan_decides j table entries,
      λ h. search_claim j (lines (length j.units) s.pins) a o 0 j.start (omega (arith, (limited j (well_read opening b j k e).well_formed).choices)) (omega (arith, (limited j (well_read opening b j k e).well_formed).rates)) (omega arith) table entries h.0 (omega (arith, h.1)),
    ))

module _ (table entries : List ℕ) where
  pub refuse_keeps : (n : ℕ) → Keeping table entries (refuse table entries n)
  unfolding refuse
  refuse_keeps n = record { entries_kept = λ k e. refl; table_kept = λ k e f. refl }

  searched_keeps : (j : Job) (k : Open) (o : Order) (s : ℕ) (start : Levels) (v : Option ℕ) → Keeping table entries (searched j k o s start v table entries)
  unfolding searched
  searched_keeps j k o s start none = record { entries_kept = λ n e. refl; table_kept = λ n e f. absurd (f (sym (refused_same e))) }
  searched_keeps j k o s start (some v) = record { entries_kept = λ n e. absurd (not_refused e); table_kept = λ n e f. absurd (not_refused e) }

  pub guarded_keeps : (ts : List Test) (r : Planned) → Keeping table entries r → Keeping table entries (guarded (refuse table entries) ts r)
  guarded_keeps ts r h = go (guarded_is (refuse table entries) ts r)
    where
      go : {q : Planned} → Guarded (refuse table entries) r q → Keeping table entries q
      go (was_refused n) = refuse_keeps n
      go was_done = h

  pub read_keeps : (f : Job → Planned) (r : Result Job) → ((j : Job) → Keeping table entries (f j)) → Keeping table entries (on_read (refuse table entries) r f)
  unfolding on_read
  read_keeps f (refused n) h = refuse_keeps n
  read_keeps f (took j k) h = h j

  pub search_keeps : (j : Job) (m : PinMap) (a : Aim) (o : Order) (s : ℕ) (start : Levels) → Keeping table entries (search_in j m a o s start table entries)
  unfolding search_in
  search_keeps j m a o s start = searched_keeps j (open_for a j m s start) o s start (least_total j (open_for a j m s start) s start)

  pub in_keeps : (j : Job) (m : PinMap) (a : Aim) (o : Order) (s : ℕ) (start : Levels) → Keeping table entries (plan_in j m a o s start table entries)
  unfolding plan_in
  in_keeps j m a o s start = guarded_keeps (plan_tests j s (length table) (length entries)) _ (search_keeps j m a o s start)

pub keeps : Keeps
unfolding plan_call
keeps b s a o table entries = read_keeps table entries _ (checked opening b s) (λ j. in_keeps table entries j (lines (length j.units) s.pins) a o 0 j.start)

-- a search gives 13 exactly where it finds nothing
module _ (j : Job) (k : Open) (o : Order) (s : ℕ) (start : Levels) (table entries : List ℕ) where
  searched_none : (v : Option ℕ) → ((searched j k o s start v table entries).answer ≡ base.refused 13) ↔ (v ≡ none)
  unfolding searched
  searched_none none = (λ e. refl, λ e. refl)
  searched_none (some v) = (λ e. absurd (not_refused e), λ e. absurd (not_none e))

-- and by either aim where no plan is admissible
module _ (o : Order) (table entries : List ℕ) where
  search_alike : (j : Job) (m : PinMap) → ((search_in j m total o 0 j.start table entries).answer ≡ base.refused 13) ↔ ((search_in j m even o 0 j.start table entries).answer ≡ base.refused 13)
  unfolding search_in
  search_alike j m = (both total even, both even total)
    where
      both : (a b : Aim) → (searched j (open_for a j m 0 j.start) o 0 j.start (least_total j (open_for a j m 0 j.start) 0 j.start) table entries).answer ≡ base.refused 13 → (searched j (open_for b j m 0 j.start) o 0 j.start (least_total j (open_for b j m 0 j.start) 0 j.start) table entries).answer ≡ base.refused 13
      both a b e =
          let none-a = (searched_none j (open_for a j m 0 j.start) o 0 j.start table entries (least_total j (open_for a j m 0 j.start) 0 j.start)).0 e in
          (searched_none j (open_for b j m 0 j.start) o 0 j.start table entries (least_total j (open_for b j m 0 j.start) 0 j.start)).1
          ((aims j m 0 j.start b o (omega arith)).none_iff.1 ((aims j m 0 j.start a o (omega arith)).none_iff.0 none-a))

  unless_alike : (n : Option ℕ) (q r : Planned) → (q.answer ≡ base.refused 13) ↔ (r.answer ≡ base.refused 13) → ((unless (refuse table entries) n q).answer ≡ base.refused 13) ↔ ((unless (refuse table entries) n r).answer ≡ base.refused 13)
  unfolding unless
  unless_alike none q r h = h
  unless_alike (some n) q r h = (λ e. e, λ e. e)

  read_alike : (r : Result Job) (f g : Job → Planned) → ((j : Job) → ((f j).answer ≡ base.refused 13) ↔ ((g j).answer ≡ base.refused 13)) → ((on_read (refuse table entries) r f).answer ≡ base.refused 13) ↔ ((on_read (refuse table entries) r g).answer ≡ base.refused 13)
  unfolding on_read
  read_alike (refused n) f g h = (λ e. e, λ e. e)
  read_alike (took j k) f g h = h j

pub no_plan_alike : NoPlanAlike
unfolding plan_call plan_in guarded
no_plan_alike b s o table entries =
    read_alike o table entries (checked opening b s) _ _ (λ j. unless_alike o table entries (refusal (plan_tests j 0 (length table) (length entries))) _ _ (search_alike o table entries j (lines (length j.units) s.pins)))

-- from lists that are long enough, planning gives 13 exactly where no plan is admissible, which names neither aim nor order nor lists
module _ (j : Job) (m : PinMap) (a : Aim) (o : Order) (table entries : List ℕ) (room : words j ≤ length table) (space : entry_size * intervals j ≤ length entries) where
  none_admissible : ((plan_in j m a o 0 j.start table entries).answer ≡ base.refused 13) ↔ ((p : List Entry) → Admissible j m 0 j.start p → ⊥)
  unfolding search_in
  none_admissible =
      let found = searched_none j (open_for a j m 0 j.start) o 0 j.start table entries (least_total j (open_for a j m 0 j.start) 0 j.start) in
      let none_is = (aims j m 0 j.start a o (omega arith)).none_iff in
      rw (plan_searches j m a o 0 j.start table entries room (omega arith)) (λ e. none_is.0 (found.0 e), λ f. found.1 (none_is.1 f))

pub no_plan_anyhow : NoPlanAnyhow
no_plan_anyhow b j n s read o o' table table' entries entries' room room' space space' =
    let m = lines (length j.units) s.pins in
    let one = none_admissible j m total o table entries room (omega (arith, space)) in
    let other = none_admissible j m even o' table' entries' room' (omega (arith, space')) in
    rw (plan_checked b j n s read total o table entries, plan_checked b j n s read even o' table' entries') (λ e. other.1 (one.0 e), λ e. one.1 (other.0 e))

pub never_planned : NeverPlanned
unfolding plan_call on_read
never_planned b j n e idle s a o table entries = rw (checked_refused opening b s 17 ((two_doors b j n).else_17 e idle))

-- which order is named makes no difference but to the entries and what they send
module _ (a : Aim) (o r : Order) (table entries : List ℕ) where
  alike_itself : (p : Planned) → OrderAlike p p
  alike_itself p = record { table_alike = refl; refused_alike = λ n e. e; total_alike = λ t u e f. ap (λ (x : Totals). x.distortion) (gives_same (sym e ∙ f)) }

  alike_searched : (j : Job) (m : PinMap) (v : Option ℕ) → least_total j (open_for a j m 0 j.start) 0 j.start ≡ v → OrderAlike (searched j (open_for a j m 0 j.start) o 0 j.start v table entries) (searched j (open_for a j m 0 j.start) r 0 j.start v table entries)
  unfolding searched totals
  alike_searched j m none e = alike_itself _
  alike_searched j m (some v) e = record {
    table_alike = refl;
    refused_alike = λ n q. absurd (not_refused q);
    total_alike = λ t u q w.
        let one = (aims j m 0 j.start a o (omega arith)).its_distortion v e in
        let other = (aims j m 0 j.start a r (omega arith)).its_distortion v e in
        ap (λ (x : Totals). x.distortion) (sym (gives_same q)) ∙ one ∙ sym other ∙ ap (λ (x : Totals). x.distortion) (gives_same w);
  }

  alike_unless : (n : Option ℕ) (p q : Planned) → OrderAlike p q → OrderAlike (unless (refuse table entries) n p) (unless (refuse table entries) n q)
  unfolding unless
  alike_unless none p q h = h
  alike_unless (some n) p q h = alike_itself _

  alike_read : (q : Result Job) (f g : Job → Planned) → ((j : Job) → OrderAlike (f j) (g j)) → OrderAlike (on_read (refuse table entries) q f) (on_read (refuse table entries) q g)
  unfolding on_read
  alike_read (refused n) f g h = alike_itself _
  alike_read (took j k) f g h = h j

pub orders_alike : OrdersAlike
unfolding plan_call plan_in search_in guarded
orders_alike b s a o r table entries =
    alike_read a o r table entries (checked opening b s) _ _ (λ j. alike_unless a o r table entries (refusal (plan_tests j 0 (length table) (length entries))) _ _ (alike_searched a o r table entries j (lines (length j.units) s.pins) (least_total j (open_for a j (lines (length j.units) s.pins) 0 j.start) 0 j.start) refl))
