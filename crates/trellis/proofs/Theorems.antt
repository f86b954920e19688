-- The claims of specs/Claims, each by its law.
use Rattle.trellis.specs.Claims.{Value, Ties, TableLaw, Simulation, Limits}
use Rattle.trellis.proofs.Optimality.{none_iff, best_optimal, optimal_value}
use Rattle.trellis.proofs.TieOrder.{best_foremost, foremost_best}
use Rattle.trellis.proofs.Tables.{marked_least}
use Rattle.trellis.proofs.Simulation.{walk_follows, least_follows}
use Rattle.trellis.proofs.Limit.{limited_walk, walk_limited}

pub value : Value
value S A τ ◌⊕◌ mono n t s = record {
  none_iff = none_iff τ ◌⊕◌ mono n t s;
  best_is = best_optimal τ ◌⊕◌ mono n t s;
  only = optimal_value τ ◌⊕◌ mono n t s;
}

pub ties : Ties
ties S A τ ◌⊕◌ mono cancels ◌≺◌ sorted n t s v e = record {
  best_is = best_foremost τ ◌⊕◌ mono cancels ◌≺◌ sorted n t s v e;
  only = λ strict p f. foremost_best τ ◌⊕◌ mono cancels ◌≺◌ sorted strict n t s v p f;
}

pub table_law : TableLaw
table_law S A τ ◌⊕◌ mark bound = marked_least τ ◌⊕◌ mark bound

pub simulation : Simulation
simulation S S₂ A τ σ R sim n t s s₂ r = record {
  walks = λ p w. walk_follows sim r w;
  value = λ ◌⊕◌ mono v e. least_follows sim ◌⊕◌ mono n t s s₂ v r e;
}

pub limits : Limits
limits S A τ θ n t s p = (λ w. limited_walk θ τ w, λ w. walk_limited θ τ w.0 w.1)
