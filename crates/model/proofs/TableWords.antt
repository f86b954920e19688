-- A table's word, by the plans that complete the job from its levels: `TableWords`.
use Prim.Native.Nat.{ℕ, ◌+◌, ◌-◌, ◌≤◌}
use mathlib.Core.Path.{◌≡◌, refl}
use mathlib.Core.Option.{Option, none, some}
use native.Mathlib.Omega.{arith}
use Rattle.trellis.specs.Table.{encode}
use Rattle.trellis.proofs.Optimality.{sum_combines}
use Rattle.model.specs.Job.{Levels, Job, intervals}
use Rattle.model.specs.Best.{late, Open, least_by, least_total, best_plan}
use Rattle.model.specs.Table.{bound, Bounded}
use Rattle.model.specs.Claims.{PlanningClaim, WordClaim, TableWords}
use Rattle.model.proofs.Planning.{planning}
use Rattle.model.proofs.Tables.{distortions_small}

module _ (j : Job) (k : Open) (t : ℕ) (s : Levels) (bounded : Bounded j) (counted : t ≤ intervals j) where
  claim : PlanningClaim j k t s late
  claim = planning j k t s late counted

  -- a least total is told from the mark
  below : (v : ℕ) → least_total j k t s ≡ some v → v ≤ bound
  unfolding least_by
  below v e = (distortions_small j k late bounded ◌+◌ sum_combines (λ t s. t ≤ t)).values (intervals j - t) t s v (omega arith) (omega arith) e

  -- a least total as a word, by the plans
  pub word_means : (o : Option ℕ) → least_total j k t s ≡ o → WordClaim j k t s (encode 4294967295 o)
  unfolding encode
  word_means none e = record {
    none_iff = (λ q. claim.none_iff.0 e, λ f. refl);
    attained = λ f. absurd (f refl);
    no_less = λ p a. absurd (claim.none_iff.0 e p a);
  }
  word_means (some v) e = record {
    none_iff = (λ q. absurd (omega (arith, below v e)), λ f. absurd (f _ (claim.best_is v e).among));
    attained = λ f. (best_plan j k t s late, (claim.best_is v e).among, claim.its_distortion v e);
    no_less = λ p a. rw (claim.its_distortion v e) at ((claim.best_is v e).least_of_all p a);
  }

pub table_words : TableWords
table_words j k first table bounded tab t s h counted inside = rw (tab.holds t s h counted inside) (word_means j k t s bounded counted (least_total j k t s) refl)
