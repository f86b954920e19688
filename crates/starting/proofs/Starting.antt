-- Planning from given levels, with any set and after any list of pins and lifts: `Starts`, `LevelsCalls`, `LevelsAfter`, `OwnLevels`, `LevelsKeep`.
use Prim.Native.Nat.{ℕ, zero, suc, ◌≤◌}
use mathlib.Core.Path.{◌≡◌, refl, sym, ap, ◌∙◌}
use mathlib.Core.Logic.{◌↔◌}
use mathlib.Core.Bool.{Bool, true, false}
use mathlib.Core.List.{List, [], ◌∷◌, map}
use native.Mathlib.Omega.{arith}
use lib.Dec.{leb}
use lib.ListN.{length}
use borrow.Author.Tests.{leb-true, le-leb}
use Rattle.std.specs.Prelude.{if◌then◌else◌}
use Rattle.base.specs.Refusals.{test}
use Rattle.base.proofs.Refusals.{Decides, one_more, in_order, guarded_past, AllHold}
use Rattle.model.specs.Job.{Bucket, Job}
use Rattle.model.specs.Pins.{PinMap}
use Rattle.model.specs.Admissible.{AllWithin}
use Rattle.model.specs.Best.{Order, Aim}
use Rattle.model.specs.Table.{sizes}
use Rattle.format.specs.Parser.{Result, refused, took, on_read}
use Rattle.format.specs.JobBytes.{opening}
use Rattle.format.specs.Claims.{InLimits}
use Rattle.format.proofs.Limits.{not_true}
use Rattle.format.proofs.Bounds.{limited}
use Rattle.format.proofs.Places.{well_read}
use Rattle.pinning.specs.PinSet.{lines}
use Rattle.pinning.specs.Check.{checked}
use Rattle.pinning.proofs.Agree.{checked_parsed, looks_checked}
use Rattle.pinning.proofs.History.{history}
use Rattle.planning.specs.Calls.{refuse, plan_tests, plan_in, search_in, plan_all, plan_call}
use Rattle.planning.specs.Claims.{PlanClaim}
use Rattle.planning.proofs.DemandThree.{search_claim}
use Rattle.planning.proofs.Refusals.{plan_decides, guarded_keeps, read_keeps, search_keeps}
use Rattle.starting.specs.Calls.{levels_fit, start_with, level_tests, plan_with, levels_call}
use Rattle.starting.specs.Claims.{LevelsFit, Asks, Starts, LevelsCalls, LevelsAfter, OwnLevels, LevelsKeep}

pub starts : Starts
unfolding start_with
starts j ls = record { buckets = refl; decoder = refl }

-- what the test of the levels says
fits_to : (ks : List Bucket) (ls : List ℕ) → levels_fit (map (λ k. k.size) ks) ls ≡ true → (length ls ≡ length ks) × AllWithin ks ls
unfolding levels_fit
fits_to [] [] e = (refl, λ i h. absurd (omega arith))
fits_to [] (l ∷ ls) e = not_true e
fits_to (k ∷ ks) [] e = not_true e
fits_to (k ∷ ks) (l ∷ ls) e = go (leb l k.size) refl (λ q. fits_to ks ls q) e
  where
    go : (t : Bool) → leb l k.size ≡ t → (levels_fit (map (λ k. k.size) ks) ls ≡ true → (length ls ≡ length ks) × AllWithin ks ls) → (if t then levels_fit (map (λ k. k.size) ks) ls else false) ≡ true → (length (l ∷ ls) ≡ length (k ∷ ks)) × AllWithin (k ∷ ks) (l ∷ ls)
    go false t ih e = not_true e
    go true t ih e = (ap suc (ih e).0, at (leb-true l k.size t) (ih e).1)
      where
        at : l ≤ k.size → AllWithin ks ls → AllWithin (k ∷ ks) (l ∷ ls)
        at h w zero b = h
        at h w (suc i) b = w i (omega arith)

to_fits : (ks : List Bucket) (ls : List ℕ) → length ls ≡ length ks → AllWithin ks ls → levels_fit (map (λ k. k.size) ks) ls ≡ true
unfolding levels_fit
to_fits [] [] e w = refl
to_fits [] (l ∷ ls) e w = absurd (omega arith)
to_fits (k ∷ ks) [] e w = absurd (omega arith)
to_fits (k ∷ ks) (l ∷ ls) e w = rw (le-leb l k.size (w 0 (omega arith))) (to_fits ks ls (omega arith) (λ i b. w (suc i) (omega arith)))

pub fits_iff : (j : Job) (ls : List ℕ) → (levels_fit (sizes j.line) ls ≡ true) ↔ LevelsFit j ls
fits_iff j ls = (λ e. let h = fits_to j.line.buckets ls e in record { count = h.0; within = h.1 }, λ f. to_fits j.line.buckets ls f.count f.within)

decides : (j : Job) (ls table entries : List ℕ) → Decides (level_tests j ls (length table) (length entries)) (Asks j ls table entries)
unfolding level_tests
decides j ls table entries = one_more refl (fits_iff j ls) (plan_decides j table entries)

module _ (j : Job) (l : InLimits j) (m : PinMap) (ls : List ℕ) (a : Aim) (o : Order) (table entries : List ℕ) where
  found : AllHold (Asks j ls table entries) → PlanClaim j m a o 0 (start_with j ls) table entries (search_in j m a o 0 (start_with j ls) table entries)
  found h = search_claim j m a o 0 (start_with j ls) (omega (arith, l.choices)) (omega (arith, l.rates)) (omega arith) table entries h.1.0 (omega (arith, h.1.1.0))

pub levels_calls : LevelsCalls
unfolding levels_call plan_with
levels_calls b s ls a o table entries =
    looks_checked (refuse table entries) opening b s (λ j. level_tests j ls (length table) (length entries)) (λ j. Asks j ls table entries) (λ j. search_in j (lines (length j.units) s.pins) a o 0 (start_with j ls) table entries) (λ j r. PlanClaim j (lines (length j.units) s.pins) a o 0 (start_with j ls) table entries r)
    (λ j k e m. (decides j ls table entries, found j (limited j (well_read opening b j k e).well_formed) (lines (length j.units) s.pins) ls a o table entries))

pub levels_after : LevelsAfter
unfolding levels_call plan_with on_read
levels_after b j n parsed clicks ls a o table entries =
    let h = history b j n parsed clicks in
    rw (h.passes, h.pins) (in_order (refuse table entries) (decides j ls table entries) (PlanClaim j _ a o 0 (start_with j ls) table entries) (search_in j _ a o 0 (start_with j ls) table entries) _ refl (found j (limited j (well_read opening b j n parsed).well_formed) _ ls a o table entries))

-- a job's own levels fit
own_fit : (j : Job) → InLimits j → LevelsFit j j.start.buckets
own_fit j l = record { count = l.buckets.2; within = l.fills }

took_same : {i j : Job} {k n : ℕ} → took i k ≡ took j n → i ≡ j
took_same e = cc

pub own_levels : OwnLevels
unfolding levels_call plan_with level_tests plan_call plan_in on_read start_with
own_levels b j n parsed s a o table entries = go (checked opening b s) refl
  where
    go : (r : Result Job) → checked opening b s ≡ r → on_read (refuse table entries) r (λ i. plan_all i s a o table entries) ≡ on_read (refuse table entries) r (λ i. plan_with i s j.start.buckets a o table entries)
    go (refused k) e = refl
    go (took i k) e =
        let same : i ≡ j = took_same (sym (checked_parsed opening b s i k e) ∙ parsed) in
        rw same (sym (guarded_past (refuse table entries) (test 20 (levels_fit (sizes j.line) j.start.buckets)) (plan_tests j 0 (length table) (length entries)) (search_in j (lines (length j.units) s.pins) a o 0 j.start table entries) ((fits_iff j j.start.buckets).1 (own_fit j (limited j (well_read opening b j n parsed).well_formed)))))

pub levels_keep : LevelsKeep
unfolding levels_call plan_with
levels_keep b s ls a o table entries =
    read_keeps table entries _ (checked opening b s)
    (λ j. guarded_keeps table entries (level_tests j ls (length table) (length entries)) _ (search_keeps table entries j (lines (length j.units) s.pins) a o 0 (start_with j ls)))
