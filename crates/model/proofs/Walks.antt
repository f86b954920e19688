-- Replaying a plan and walking the trellis are one: a walk is a well-shaped plan whose replay is clean, and its totals are the distortions; the order of the entries does not change the values.
use Prim.Native.Nat.{ℕ, suc, ◌+◌, max}
use mathlib.Core.Path.{◌≡◌, refl, ◌∙◌, ap}
use mathlib.Core.Option.{some, some-injective, none-ne-some}
use mathlib.Core.List.{List, [], ◌∷◌}
use native.Mathlib.Omega.{arith}
use lib.ListN.{length}
use Rattle.trellis.specs.Trellis.{Combines, Walk, stop, move, total, least, Simulates}
use Rattle.trellis.specs.Limit.{limited}
use Rattle.trellis.proofs.Optimality.{sum_combines, greatest_combines}
use Rattle.trellis.proofs.Simulation.{total_same, least_same}
use Rattle.model.specs.Job.{Levels, Job, Entry, intervals, PlanFits, ends, goes}
use Rattle.base.specs.Lists.{gathered}
use Rattle.model.specs.Levels.{distorted}
use Rattle.model.specs.Pins.{PinMap}
use Rattle.model.specs.Step.{Outcome, violates, reaches, outcome}
use Rattle.model.specs.Replay.{total_distortion, greatest_distortion, clean, written, go_on, replay}
use Rattle.model.specs.Best.{Order, late, reached, all_walks, Open, trellis_of}
use Rattle.model.proofs.Sums.{distortions_first}
use Rattle.model.proofs.Entries.{fits_listed, listed_fits}

pub reached_some : (o : Outcome) (s : Levels) → reached o ≡ some s → o ≡ reaches s
unfolding reached
reached_some (violates v) s e = absurd (none-ne-some s e)
reached_some (reaches u) s e = ap reaches (some-injective u s e)

pub fits_length : {j : Job} {t : ℕ} {p : List Entry} → PlanFits j t p → t + length p ≡ intervals j
fits_length (ends e) = omega arith
fits_length (goes f r) = let ih = fits_length r in omega arith

module _ (j : Job) (m : PinMap) (o : Order) where
  pub walk_fits : {n t : ℕ} {s : Levels} {p : List Entry} → Walk (all_walks j m o) n t s p → t + n ≡ intervals j → PlanFits j t p
  unfolding all_walks
  walk_fits (stop {t}) e = ends {t = t} (omega arith)
  walk_fits (move {n} {t} a h w) e = goes (listed_fits j (suc t) o a) (walk_fits w (omega arith))

  pub walk_clean : {n t : ℕ} {s : Levels} {p : List Entry} → Walk (all_walks j m o) n t s p → (replay j m t s p).result ≡ clean
  unfolding all_walks replay go_on written
  walk_clean stop = refl
  walk_clean (move {n} {t} {s} {s'} {a = e} a h w) = rw (reached_some (outcome j m (suc t) s e) s' h) (walk_clean w)

  pub clean_walk : {t : ℕ} {p : List Entry} (s : Levels) → PlanFits j t p → (replay j m t s p).result ≡ clean → Walk (all_walks j m o) (length p) t s p
  unfolding all_walks replay go_on written reached
  clean_walk s (ends e) h = stop
  clean_walk s (goes {t} {e} {p} f r) h = go (outcome j m (suc t) s e) refl (λ s'. clean_walk s' r) h
    where
      go : (x : Outcome) → outcome j m (suc t) s e ≡ x → ((s' : Levels) → (replay j m (suc t) s' p).result ≡ clean → Walk (all_walks j m o) (length p) (suc t) s' p) → (go_on (suc t) x (λ s'. replay j m (suc t) s' p)).result ≡ clean → Walk (all_walks j m o) (suc (length p)) t s (e ∷ p)
      go (violates v) q ih k = let z : ◌≡◌ {A = ℕ} 0 1 = cc in absurd (omega arith)
      go (reaches s') q ih k = move (fits_listed j (suc t) o f) (ap reached q) (ih s' k)

  -- what the costs of a plan's entries come to is what its distortions do
  costs_gathered : (◌⊕◌ : ℕ → ℕ → ℕ) → Combines ◌⊕◌ → (t : ℕ) (p : List Entry) → total (all_walks j m o) ◌⊕◌ t p ≡ gathered ◌⊕◌ (distorted j t p) (length p)
  unfolding all_walks total
  costs_gathered ◌⊕◌ c t [] = unfold gathered in refl
  costs_gathered ◌⊕◌ c t (e ∷ p) = rw (costs_gathered ◌⊕◌ c (suc t) p, distortions_first j t e p ◌⊕◌ c)

  pub all_max : (t : ℕ) (p : List Entry) → total (all_walks j m o) max t p ≡ greatest_distortion j t p
  unfolding greatest_distortion
  all_max = costs_gathered max greatest_combines

  pub all_sum : (t : ℕ) (p : List Entry) → total (all_walks j m o) ◌+◌ t p ≡ total_distortion j t p
  unfolding total_distortion
  all_sum = costs_gathered ◌+◌ sum_combines

module _ (j : Job) (k : Open) (o : Order) where
  -- a limit leaves the costs as they are
  costs_same : (◌⊕◌ : ℕ → ℕ → ℕ) (t : ℕ) (p : List Entry) → total (trellis_of j k o) ◌⊕◌ t p ≡ total (all_walks j k.pins o) ◌⊕◌ t p
  unfolding trellis_of limited
  costs_same ◌⊕◌ = total_same (trellis_of j k o) (all_walks j k.pins o) ◌⊕◌ (λ t a. refl)

  pub sum_distortion : (t : ℕ) (p : List Entry) → total (trellis_of j k o) ◌+◌ t p ≡ total_distortion j t p
  sum_distortion t p = costs_same ◌+◌ t p ∙ all_sum j k.pins o t p

  pub max_distortion : (t : ℕ) (p : List Entry) → total (trellis_of j k o) max t p ≡ greatest_distortion j t p
  max_distortion t p = costs_same max t p ∙ all_max j k.pins o t p

-- the order of the entries does not change the values
module _ (j : Job) (k : Open) where
  order_simulates : (o o' : Order) → Simulates (trellis_of j k o) (trellis_of j k o') (λ t s s'. s ≡ s')
  unfolding trellis_of all_walks limited
  order_simulates o o' = record {
    listed = λ t a l. fits_listed j t o' (listed_fits j t o l);
    charged = λ t a. refl;
    follows = λ t s s' a u r l e. (u, rw r at e, refl);
  }

  pub least_order : (o : Order) (◌⊕◌ : ℕ → ℕ → ℕ) → Combines ◌⊕◌ → (n t : ℕ) (s : Levels) → least (trellis_of j k o) ◌⊕◌ n t s ≡ least (trellis_of j k late) ◌⊕◌ n t s
  least_order o ◌⊕◌ c = least_same (trellis_of j k o) (trellis_of j k late) ◌⊕◌ c.monotone (order_simulates o late) (order_simulates late o)
