-- A list that holds the least distortions follows the rule from layer to layer: `RuleOf`.
use Prim.Native.Nat.{ℕ, suc, ◌+◌, ◌-◌, ◌<◌, ◌≤◌}
use mathlib.Core.Path.{◌≡◌, sym, ◌∙◌, ap}
use mathlib.Core.List.{List}
use native.Mathlib.Omega.{arith}
use lib.ListN.{get_or}
use Rattle.trellis.specs.Trellis.{least, stage}
use Rattle.trellis.specs.Table.{encode, Small, marked_stage}
use Rattle.trellis.proofs.Optimality.{sum_combines}
use Rattle.trellis.proofs.Congruence.{marked_stage_cong}
use Rattle.trellis.proofs.Tables.{Follows, marked_stage_encode}
use Rattle.model.specs.Job.{Line, Levels, Job, intervals}
use Rattle.model.specs.Best.{late, Open, trellis_of, least_by, least_total}
use Rattle.model.specs.Table.{mark, bound, InLayer, tops, flat, place, levels_at, state_at, layer_words, word_at, layer_of, word_in, IsTable, Bounded}
use Rattle.model.specs.Claims.{RuleOf}
use Rattle.model.proofs.Places.{place_levels, state_in_layer}
use Rattle.model.proofs.Steps.{layer_closed}
use Rattle.model.proofs.Layers.{word_in_layer}
use Rattle.model.proofs.Tables.{distortions_small}

-- a place below the span is that of the state there
place_state : (line : Line) (i : ℕ) → i < layer_words line → place (tops line) (flat (state_at line i)) ≡ i
unfolding tops flat state_at levels_at
place_state line i h = place_levels (tops line) i h

module _ (j : Job) (k : Open) (table : List ℕ) (bounded : Bounded j) (tab : IsTable j k 0 table) where
  at_place : (t i : ℕ) → t ≤ intervals j → i < layer_words j.line → get_or (layer_of j.line table t) i 0 ≡ encode mark (least_total j k t (state_at j.line i))
  unfolding word_in
  at_place t i h b =
      let a = state_in_layer j.line i b in
      ap (λ n. get_or (layer_of j.line table t) n 0) (sym (place_state j.line i b))
      ∙ sym (word_in_layer j table t (state_at j.line i) a)
      ∙ tab.holds t (state_at j.line i) (omega arith) h a

  last_layer : (s : Levels) → encode mark (least_total j k (intervals j) s) ≡ 0
  unfolding least_by least encode
  last_layer s = let e : intervals j - intervals j ≡ 0 = omega arith in rw e

  module _ (t : ℕ) (s : Levels) (counted : t < intervals j) (inside : InLayer j.line s) where
    small : Small (trellis_of j k late) ◌+◌ mark bound (intervals j) (λ t s. InLayer j.line s)
    small = distortions_small j k late bounded ◌+◌ sum_combines (λ t s. InLayer j.line s)

    follows : Follows (trellis_of j k late) ◌+◌ mark bound t s (word_at j table (suc t)) (least_total j k (suc t))
    unfolding least_by
    follows = record {
      apart = small.apart;
      fits = λ e w. small.fits (suc t) e w;
      row = λ e u l x.
          let q = layer_closed j k late t s u e counted inside l x in
          (tab.holds (suc t) u (omega arith) counted q, λ y r. small.values (intervals j - suc t) (suc t) u y (omega arith) q r);
    }

    one_interval : least_total j k t s ≡ stage (trellis_of j k late) ◌+◌ t (least_total j k (suc t)) s
    unfolding least_by least
    one_interval = let e : intervals j - t ≡ suc (intervals j - suc t) = omega arith in rw e

    by_the_rule : encode mark (least_total j k t s) ≡ marked_stage (trellis_of j k late) ◌+◌ mark bound t (word_in j.line (layer_of j.line table (suc t))) s
    by_the_rule =
        ap (encode mark) one_interval
        ∙ sym (marked_stage_encode (trellis_of j k late) ◌+◌ mark bound follows)
        ∙ marked_stage_cong mark bound ◌+◌ (trellis_of j k late) t (word_at j table (suc t)) (word_in j.line (layer_of j.line table (suc t))) s (λ e u n x. word_in_layer j table (suc t) u (layer_closed j k late t s u e counted inside n x))

pub rule_of : RuleOf
rule_of j k table bounded tab = record {
  enough = tab.enough;
  last = λ i b. at_place j k table bounded tab (intervals j) i (omega arith) b ∙ last_layer j k table bounded tab (state_at j.line i);
  rule = λ t i h b. at_place j k table bounded tab t i (omega arith) b ∙ by_the_rule j k table bounded tab t (state_at j.line i) h (state_in_layer j.line i b);
}
