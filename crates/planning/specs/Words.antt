-- The table of a job with the choices that are open, word after word: no search, only the least that distortions come to (document 01, "The best plan").
use Rattle.std.specs.Prelude.{ℕ, zero, suc, ◌-◌, ◌*◌, List, [], ◌++◌, take, drop}
use Rattle.trellis.specs.Table.{encode}
use Rattle.model.specs.Job.{Job, intervals}
use Rattle.base.specs.Lists.{build}
use Rattle.model.specs.Best.{Open, least_by}
use Rattle.model.specs.Table.{mark, layer_words, state_at, words}

-- over how distortions combine: by their sum, which is document 01's table, or by the greatest of them
module _ (◌⊕◌ : ℕ → ℕ → ℕ) (j : Job) (k : Open) where
  -- the layer after interval t: each state's least distortion to the end, or the mark
  unfoldable pub layer : ℕ → List ℕ
  layer t = build (layer_words j.line) (λ i. encode mark (least_by ◌⊕◌ j k t (state_at j.line i)))

  -- n layers, from that of t on
  unfoldable pub layers : ℕ → ℕ → List ℕ
  layers t zero = []
  layers t (suc n) = layer t ++ layers (suc t) n

  -- the layers from s to T, over a list: those before s are kept, and so are the words behind the table
  unfoldable pub table_from : ℕ → List ℕ → List ℕ
  table_from s table = take (s * layer_words j.line) table ++ (layers s (suc (intervals j) - s) ++ drop (words j) table)
