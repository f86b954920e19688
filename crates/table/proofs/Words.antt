-- How many words a table has: of a job that opens, and of a header by the verdict on it.
use Prim.Native.Nat.{ℕ, ◌+◌, ◌≤◌}
use mathlib.Core.Path.{◌≡◌, refl, sym, ◌∙◌, ap}
use mathlib.Core.Option.{none, some}
use mathlib.Core.List.{List, [], ◌∷◌, map}
use native.Mathlib.Omega.{arith}
use Rattle.base.proofs.Refusals.{not_none}
use Rattle.model.specs.Job.{Bucket}
use Rattle.model.specs.Table.{tops, span, layer_words, words}
use Rattle.format.specs.JobBytes.{Policed, Header, header_limits, bucket_of, job_in, Opens}
use Rattle.format.proofs.Opened.{header_kept, intervals_are, decoder_is, buckets_are}
use Rattle.interval.specs.Answers.{line_of, OfHeader}
use Rattle.header.specs.declared.Header as job
use Rattle.header.specs.Answers.{plain}
use Rattle.format.proofs.Limits.{fit_all, all_fit}
use Rattle.interval.specs.declared.Buffers.{Buffers}
use Rattle.table.proofs.Jobs.{told_fit}
use Rattle.format.specs.Limits.{AllKept, each_kept, broken}
use Rattle.format.proofs.Limits.{all_kept, none_broken}
use mathlib.Core.Bool.{Bool, true, false}
use Rattle.line.proofs.Sizes.{each_small}
use Rattle.table.specs.Answers.{words_over, table_words}

sizes_same : (ks : List Policed) → map (λ (k : Bucket). k.size) (map bucket_of ks) ≡ map (λ (k : Policed). k.size) ks
unfolding bucket_of
sizes_same [] = refl
sizes_same (k ∷ ks) = ap (λ (l : List ℕ). k.size ∷ l) (sizes_same ks)

-- of a job, as the code computes it
module _ (b : List ℕ) (h : Header) (o : Opens b h) where
  pub words_are : words (job_in b) ≡ table_words h
  unfolding words tops span table_words
  words_are = rw (← fit_all (header_limits h) (header_kept b h o), intervals_are b h o, decoder_is b h o, buckets_are b h o, sizes_same h.buckets)

-- the words of a header's own table, by the verdict on it
module _ (h : job.Header) where
  out_of_range : (n : ℕ) → some n ≡ broken (header_limits (plain h)) → each_kept (header_limits (plain h)) ≡ false
  out_of_range n e = go (each_kept (header_limits (plain h))) refl
    where
      go : (t : Bool) → each_kept (header_limits (plain h)) ≡ t → t ≡ false
      go true q = absurd (not_none (e ∙ none_broken (header_limits (plain h)) (all_fit (header_limits (plain h)) q)))
      go false q = refl

  pub words_none : (n : ℕ) → some n ≡ broken (header_limits (plain h)) → 0 ≡ table_words (plain h)
  unfolding table_words
  words_none n e = rw (out_of_range n e)

  module _ (k : Buffers) (e : none ≡ broken (header_limits (plain h))) (of : OfHeader k (plain h)) where
    kept : AllKept (header_limits (plain h))
    kept = all_kept (header_limits (plain h)) (sym e)

    pub words_some : words_over (plain h) k ≡ table_words (plain h)
    unfolding words_over table_words tops span
    words_some =
        let d : (line_of k []).decoder ≡ (plain h).decoder = unfold line_of in of.decoder in
        rw (← fit_all (header_limits (plain h)) kept, d, of.buckets, sizes_same (plain h).buckets)

    pub own_over : (h.units + h.delay ≤ 576) × (layer_words (line_of k []) ≤ 4194304)
    own_over = (unfold plain in (omega (arith, kept)), each_small k (told_fit k (plain h) of kept))
