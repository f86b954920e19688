-- The table law: a list whose words follow the rule from layer to layer holds the least distortions, for any number of buckets.
use Prim.Native.Nat.{ℕ, suc, ◌+◌, ◌-◌, ◌*◌, ◌<◌, ◌≤◌}
use mathlib.Core.Option.{Option}
use mathlib.Core.List.{[]}
use native.Mathlib.Omega.{arith}
use native.Mathlib.Decide.{dec_lt}
use lib.ListN.{length, get_or-eq_default}
use Rattle.trellis.specs.Trellis.{Combines}
use Rattle.trellis.specs.Limit.{limited}
use Rattle.trellis.specs.Table.{Small}
use Rattle.trellis.proofs.Optimality.{sum_combines}
use Rattle.trellis.proofs.Bounds.{Costs, Budget, small_within}
use Rattle.trellis.proofs.Tables.{marked_least}
use Rattle.model.specs.Job.{Levels, Job, job_coding, coding, distorts, intervals, ChoiceFits, waits, decodes}
use Rattle.model.specs.Best.{Order, late, all_walks, Open, trellis_of, least_by}
use Rattle.model.specs.Table.{mark, bound, InLayer, word_at, Bounded}
use Rattle.model.specs.Claims.{TableLaw}
use Rattle.model.proofs.Entries.{listed_fits}
use Rattle.model.proofs.Layers.{follows_marked}
use Rattle.model.proofs.Steps.{layer_closed}

module _ (j : Job) (k : Open) (o : Order) (bounded : Bounded j) where
  unit_most : (i x : ℕ) → x < j.choices → (job_coding j i x).distortion ≤ 1000000
  unfolding job_coding
  unit_most i x h = go (dec_lt i (length j.units))
    where
      go : Dec (i < length j.units) → (job_coding j i x).distortion ≤ 1000000
      go (yes q) = bounded.distortions i x q h
      go (no q) = rw (get_or-eq_default j.units [] {n = i} (omega arith)) (omega arith)

  coding_most : (t : ℕ) {c : Option ℕ} → ChoiceFits j t c → (coding j t c).distortion ≤ 1000000
  unfolding coding
  coding_most t (waits h) = omega arith
  coding_most t (decodes {x} h l) = unit_most _ x l

  costs_most : Costs (trellis_of j k o) 1000000
  unfolding trellis_of all_walks limited distorts
  costs_most t e l = coding_most t (listed_fits j t o l).choice

  -- the units that are left may each spend as much
  left : ℕ → ℕ
  left t = (length j.units - (t - j.delay)) * 1000000

  spends : Budget (trellis_of j k o) (intervals j) left
  unfolding trellis_of all_walks limited distorts intervals coding left
  spends t e h l = go (listed_fits j (suc t) o l).choice
    where
      go : {c : Option ℕ} → ChoiceFits j (suc t) c → (coding j (suc t) c).distortion + left (suc t) ≤ left t
      go (waits q) = omega arith
      go (decodes {x} q r) = omega (arith, coding_most (suc t) (decodes {x = x} q r))

  -- whatever states are asked about, and however distortions combine
  pub distortions_small : (◌⊕◌ : ℕ → ℕ → ℕ) → Combines ◌⊕◌ → (Ok : ℕ → Levels → Type 0) → Small (trellis_of j k o) ◌⊕◌ mark bound (intervals j) Ok
  unfolding left
  distortions_small ◌⊕◌ c Ok = small_within (trellis_of j k o) 1000000 ◌⊕◌ c mark bound (intervals j) Ok left costs_most spends (λ t. omega (arith, bounded.units)) (omega arith)

pub table_law : TableLaw
unfolding least_by
table_law j k table bounded follows = record {
  enough = follows.enough;
  holds = λ t s l h a.
      marked_least (trellis_of j k late) ◌+◌ mark bound (intervals j) (λ t s. InLayer j.line s) (word_at j table)
      (layer_closed j k late) (distortions_small j k late bounded ◌+◌ sum_combines (λ t s. InLayer j.line s)) (follows_marked j k table follows) (intervals j - t) t s (omega arith) a;
}
