-- A table whose layers follow the rule, place by place, follows it state by state.
use Prim.Native.Nat.{ℕ, suc, ◌+◌, ◌*◌}
use mathlib.Core.Path.{◌≡◌, sym, ◌∙◌, ap}
use mathlib.Core.List.{List}
use lib.ListN.{get_or, drop}
use lib.Seq.{get_or-take, get_or-drop}
use Rattle.trellis.specs.Table.{marked_stage, Marked}
use Rattle.trellis.proofs.Congruence.{marked_stage_cong}
use Rattle.model.specs.Job.{Line, Levels, Job, intervals}
use Rattle.model.specs.Best.{late, Open, trellis_of}
use Rattle.model.specs.Table.{mark, bound, tops, place, flat, InLayer, layer_words, word_at, layer_of, word_in, FollowsRule}
use Rattle.model.proofs.Places.{layer_each, place_below, state_place}
use Rattle.model.proofs.Steps.{layer_closed}

-- a state's word in the table is its word in its layer
pub word_is : (line : Line) (table : List ℕ) (t : ℕ) (s : Levels) → InLayer line s → get_or table (t * layer_words line + place (tops line) (flat s)) 0 ≡ word_in line (layer_of line table t) s
unfolding word_in layer_of
word_is line table t s a =
    let n = layer_words line in
    let i = place (tops line) (flat s) in
    sym (get_or-take n (drop (t * n) table) i 0 (place_below (layer_each a)) ∙ get_or-drop (t * n) table i 0)

pub word_in_layer : (j : Job) (table : List ℕ) (t : ℕ) (s : Levels) → InLayer j.line s → word_at j table t s ≡ word_in j.line (layer_of j.line table t) s
unfolding word_at
word_in_layer j table t s a = word_is j.line table t s a

module _ (j : Job) (k : Open) (table : List ℕ) where
  pub follows_marked : FollowsRule j k table → Marked (trellis_of j k late) ◌+◌ mark bound (intervals j) (λ t s. InLayer j.line s) (word_at j table)
  unfolding word_in
  follows_marked f = record {
    last = λ s a. word_in_layer j table (intervals j) s a ∙ f.last (place (tops j.line) (flat s)) (place_below (layer_each a));
    rule = λ t s h a.
        word_in_layer j table t s a
        ∙ f.rule t (place (tops j.line) (flat s)) h (place_below (layer_each a))
        ∙ ap (marked_stage (trellis_of j k late) ◌+◌ mark bound t (word_in j.line (layer_of j.line table (suc t)))) (state_place j.line a)
        ∙ sym (marked_stage_cong mark bound ◌+◌ (trellis_of j k late) t (word_at j table (suc t)) (word_in j.line (layer_of j.line table (suc t))) s (λ e u n x. word_in_layer j table (suc t) u (layer_closed j k late t s u e h a n x)));
  }
