-- The first pass in a layer's place: its blocks are made from the last to the first, each from words that are not made anew yet (`block_decoded`), and together they are what the sizes offer (`layer_decoded`).
use Prim.Native.Nat.{ℕ, ◌+◌, ◌-◌, ◌<◌, ◌≤◌}
use mathlib.Core.Path.{◌≡◌, sym, ◌∙◌, ap}
use mathlib.Core.Option.{Option}
use mathlib.Core.List.{List}
use native.Mathlib.Omega.{arith}
use lib.ListN.{length, get_or, take, drop}
use lib.Seq.{length-take-le, get_or-take, get_or-drop}
use Rattle.model.specs.Job as model
use Rattle.planning.specs.Passes.{least_below, row_offer}
use Rattle.planning.proofs.Passes.{least_cong}
use Rattle.decoder.specs.Answers.{priced}
use Rattle.block.specs.Blocks.{LeastOf, Made}
use Rattle.decoder.specs.Near.{near, NearWords, SizesWithin, Offered}
use Rattle.decoder.proofs.Blocks.{made_ahead}
use Rattle.decoder.proofs.Near.{near_far, near_near, offer_near}
use Rattle.decoder.proofs.Offers.{sizes_least}

-- the words before those that are made anew are kept
module _ (left size : ℕ) (f : ℕ → ℕ) (old new : List ℕ) (h : left ≤ size) (room : size ≤ length old) (a : Made left size f old new) where
  front_kept : (j : ℕ) → j < left → get_or (take left new) j 0 ≡ get_or (take size old) j 0
  front_kept j k = get_or-take left new j 0 k ∙ a.before j k ∙ sym (get_or-take size old j 0 (omega arith))

  pub near_kept : NearWords (take size old) → NearWords (take left new)
  near_kept b = record { each = λ j k. let q : j < left = omega (arith, length-take-le left new (omega (arith, a.size))) in rw (front_kept j q) (b.each j (omega (arith, length-take-le size old room))) }

-- one block more, with what the code computed
module _ (◌⊕◌ : ℕ → ℕ → ℕ) (width n size : ℕ) (codings : ℕ → Option model.Coding) (old : List ℕ) where
  abbrev made : ℕ → ℕ
  made i = least_below n (λ j. row_offer ◌⊕◌ width (take size old) i (codings j))

  pub block_decoded : (start count left : ℕ) (part new block : List ℕ) → start + count ≡ left → left ≤ size → size ≤ length old → Made left size made old part → LeastOf count n (λ i j. row_offer ◌⊕◌ width (take left part) (start + i) (codings j)) block → Made start (start + count) (λ i. get_or block (i - start) 0) part new → Made start size made old new
  block_decoded start count left part new block e h room a b c =
      made_ahead start (start + count) size made _ old part new (omega arith) (omega arith) (rw e a) c (λ i p q.
      let at : start + (i - start) ≡ i = omega arith in
      b.each (i - start) (omega arith)
      ∙ rw at (least_cong n _ _ (λ j k. offer_near ◌⊕◌ width (take left part) (take size old) i (λ m t. ap near (front_kept left size made old part h room a m (omega arith))) (codings j))))

-- the next layer's words, as numbers in the layer's place
module _ (size : ℕ) (part mid : List ℕ) (room : size + size ≤ length part) (a : Made 0 size (λ i. near (get_or part (size + i) 0)) part mid) where
  copied : (i : ℕ) → i < size → get_or (take size mid) i 0 ≡ near (get_or (take size (drop size part)) i 0)
  copied i h = get_or-take size mid i 0 h ∙ a.here i (omega arith) h ∙ ap near (sym (get_or-take size (drop size part) i 0 h ∙ get_or-drop size part i 0))

  pub near_copied : NearWords (take size mid)
  near_copied = record { each = λ i h. let k : i < size = omega (arith, length-take-le size mid (omega (arith, a.size))) in rw (copied i k) (near_far (get_or (take size (drop size part)) i 0)) }

  -- and all sizes
  pub layer_decoded : (◌⊕◌ : ℕ → ℕ → ℕ) (width m : ℕ) (prices sizes new : List ℕ) → SizesWithin size width m → Offered prices m sizes → Made 0 size (λ i. least_below (length sizes) (λ j. row_offer ◌⊕◌ width (take size mid) i (priced prices (get_or sizes j 0)))) mid new → Made 0 size (λ i. least_below 256 (λ x. row_offer ◌⊕◌ width (take size (drop size part)) i (priced prices x))) part new
  layer_decoded ◌⊕◌ width m prices sizes new w o b = record {
    size = b.size ∙ a.size;
    here = λ i p q.
        b.here i p q
        ∙ sizes_least prices ◌⊕◌ size width m i (take size mid) sizes q w o
        ∙ least_cong 256 _ _ (λ x t. offer_near ◌⊕◌ width (take size mid) (take size (drop size part)) i (λ j k. ap near (copied j (omega arith)) ∙ near_near (get_or (take size (drop size part)) j 0)) (priced prices x));
    before = λ i p. absurd (omega arith);
    after = λ i p. b.after i p ∙ a.after i p;
  }
