-- The list of the sizes that have a price: `listed_none`, `listed_skip`, `listed_more`; of what the sizes offer to a place, the least is that of the listed ones (`sizes_least`).
use Prim.Native.Nat.{ℕ, ◌+◌, ◌<◌, ◌≤◌}
use mathlib.Core.Path.{◌≡◌, refl, sym, ◌∙◌, ap}
use mathlib.Core.List.{List, [], ◌∷◌, ◌++◌}
use native.Mathlib.Decide.{dec_lt}
use native.Mathlib.Numerals.{add-one}
use native.Mathlib.Omega.{arith}
use lib.ListN.{length, get_or, take, set, length-set, length-append, get_or-append}
use lib.Seq.{get_or-append-add, take-suc-set}
use Rattle.model.specs.Table.{bound}
use Rattle.planning.specs.Passes.{least_below, row_offer}
use Rattle.planning.proofs.Passes.{least_marked, least_cong}
use Rattle.decoder.specs.Answers.{priced}
use Rattle.decoder.specs.Near.{SizesWithin, Offered, Listed}
use Rattle.decoder.proofs.Blocks.{least_rest}
use Rattle.decoder.proofs.Choices.{no_price, past_rows}

-- one more at the end
last_at : (l : List ℕ) (x : ℕ) → get_or (l ++ (x ∷ [])) (length l) 0 ≡ x
last_at l x = let e : length l + 0 ≡ length l = omega arith in ap (λ (n : ℕ). get_or (l ++ (x ∷ [])) n 0) (sym e) ∙ get_or-append-add l (x ∷ []) 0 0

module _ (prices : List ℕ) where
  offered_none : Offered prices 0 []
  unfolding least_below
  offered_none = record { listed = record { below = λ j h. absurd (omega arith); price = λ j h. absurd (omega arith) }; least = λ f h. refl }

  -- a size with no price
  offered_skip : (m : ℕ) (sizes : List ℕ) → bound < get_or prices m 0 → Offered prices m sizes → Offered prices (m + 1) sizes
  unfolding least_below
  offered_skip m sizes h a = record {
    listed = a.listed;
    least = λ f k. a.least f (λ x b. k x (omega arith)) ∙ rw add-one (omega (arith, k m (omega arith) h, least_marked m f));
  }

  -- one with a price
  offered_more : (m : ℕ) (sizes : List ℕ) → m < 256 → get_or prices m 0 ≤ bound → Offered prices m sizes → Offered prices (m + 1) (sizes ++ (m ∷ []))
  unfolding least_below
  offered_more m sizes h p a =
      record {
        listed = record { below = λ j k. go j (λ x. x < 256) (a.listed.below j) h k (dec_lt j (length sizes)); price = λ j k. go j (λ x. get_or prices x 0 ≤ bound) (a.listed.price j) p k (dec_lt j (length sizes)) };
        least = λ f k. rw (long, add-one, add-one, last_at sizes m, least_cong (length sizes) (λ j. f (get_or (sizes ++ (m ∷ [])) j 0)) (λ j. f (get_or sizes j 0)) (λ j b. ap f (get_or-append sizes (m ∷ []) 0 j b)), a.least f (λ x b. k x (omega arith))) refl;
      }
    where
      long : length (sizes ++ (m ∷ [])) ≡ length sizes + 1
      long = length-append sizes (m ∷ [])

      go : (j : ℕ) (P : ℕ → Type 0) → (j < length sizes → P (get_or sizes j 0)) → P m → j < length (sizes ++ (m ∷ [])) → Dec (j < length sizes) → P (get_or (sizes ++ (m ∷ [])) j 0)
      go j P old new k (yes b) = rw (get_or-append sizes (m ∷ []) 0 j b) (old b)
      go j P old new k (no b) = let e : j ≡ length sizes = omega (arith, long) in rw (e, last_at sizes m) new

  -- the list in an array
  pub listed_none : (array : List ℕ) → length array ≡ 256 → Listed prices 0 0 array
  listed_none array h = record { size = h; few = omega arith; offered = offered_none }

  pub listed_skip : (m n : ℕ) (array : List ℕ) → bound < get_or prices m 0 → Listed prices m n array → Listed prices (m + 1) n array
  listed_skip m n array h a = record { size = a.size; few = omega (arith, a.few); offered = offered_skip m (take n array) h a.offered }

  pub listed_more : (m n : ℕ) (array : List ℕ) → m < 256 → get_or prices m 0 ≤ bound → Listed prices m n array → Listed prices (m + 1) (n + 1) (set array n m)
  listed_more m n array h p a = record {
    size = length-set array n m ∙ a.size;
    few = omega (arith, a.few);
    offered = rw (add-one n, take-suc-set array n m (omega (arith, a.size, a.few))) (offered_more m (take n array) h p a.offered);
  }

  -- all sizes that fit stand in the list, so that the others offer nothing
  pub sizes_least : (◌⊕◌ : ℕ → ℕ → ℕ) (end width m i : ℕ) (words sizes : List ℕ) → i < end → SizesWithin end width m → Offered prices m sizes → least_below (length sizes) (λ j. row_offer ◌⊕◌ width words i (priced prices (get_or sizes j 0))) ≡ least_below 256 (λ x. row_offer ◌⊕◌ width words i (priced prices x))
  sizes_least ◌⊕◌ end width m i words sizes h w a =
      a.least (λ x. row_offer ◌⊕◌ width words i (priced prices x)) (λ x b p. no_price ◌⊕◌ width words prices i x p)
      ∙ sym (least_rest 256 m _ w.few (λ x b c. past_rows ◌⊕◌ width words prices i x (omega (arith, w.larger x b c))))
