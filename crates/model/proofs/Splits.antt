-- An admissible plan is its first interval and an admissible plan for the rest, down to a plan of no entry: `Splits`, `PlansEnd`. Both are replays without a violation, and a replay goes on by one entry.
use Prim.Native.Nat.{ℕ, suc}
use mathlib.Core.Path.{◌≡◌, refl}
use mathlib.Core.List.{List, [], ◌∷◌}
use native.Mathlib.Omega.{arith}
use Rattle.model.specs.Job.{Levels, Job, Entry, intervals, EntryFits, PlanFits, ends, goes}
use Rattle.model.specs.Pins.{PinMap}
use Rattle.model.specs.Admissible.{Admissible}
use Rattle.model.specs.Step.{Outcome, violates, reaches, outcome}
use Rattle.model.specs.Replay.{Replay, clean, written, go_on, replay}
use Rattle.model.specs.Claims.{Splits, PlansEnd}
use Rattle.model.proofs.DemandTwo.{demand_two}

goes_clean : (t : ℕ) (o : Outcome) (k : Levels → Replay) → (go_on t o k).result ≡ clean → (l : Levels) × (o ≡ reaches l) × ((k l).result ≡ clean)
unfolding go_on written
goes_clean t (violates v) k h = let z : ◌≡◌ {A = ℕ} 0 1 = cc in absurd (omega arith)
goes_clean t (reaches l) k h = (l, refl, h)

fits_first : {j : Job} {s : ℕ} {e : Entry} {p : List Entry} → PlanFits j s (e ∷ p) → EntryFits j (suc s) e × PlanFits j (suc s) p
fits_first (goes f r) = (f, r)

module _ (j : Job) (m : PinMap) (s : ℕ) (start : Levels) (e : Entry) (p : List Entry) where
  first_and_rest : Admissible j m s start (e ∷ p) → EntryFits j (suc s) e × ((l : Levels) × (outcome j m (suc s) start e ≡ reaches l) × Admissible j m (suc s) l p)
  unfolding replay
  first_and_rest a =
      let f = fits_first a.shaped in
      let r = goes_clean (suc s) (outcome j m (suc s) start e) (λ l. replay j m (suc s) l p) ((demand_two j m s start (e ∷ p)).clean_iff.1 a.sound) in
      (f.0, (r.0, r.1, record { shaped = f.1; sound = (demand_two j m (suc s) r.0 p).clean_iff.0 r.2 }))

  whole : EntryFits j (suc s) e → (l : Levels) → outcome j m (suc s) start e ≡ reaches l → Admissible j m (suc s) l p → Admissible j m s start (e ∷ p)
  unfolding replay go_on written
  whole f l q a = record {
    shaped = goes f a.shaped;
    sound = (demand_two j m s start (e ∷ p)).clean_iff.0 (rw q ((demand_two j m (suc s) l p).clean_iff.1 a.sound));
  }

pub splits : Splits
splits j m s start e p = (first_and_rest j m s start e p, λ (f, (l, q, a)). whole j m s start e p f l q a)

fits_last : {j : Job} {s : ℕ} → PlanFits j s [] → s ≡ intervals j
fits_last (ends e) = e

pub plans_end : PlansEnd
plans_end j m s start = (λ a. fits_last a.shaped, λ e. record { shaped = ends e; sound = λ k h. absurd (omega arith) })
