-- Blocks of words where the second pass makes them, and writes them into the layer.
use Prim.Native.Nat.{ℕ, ◌+◌, ◌*◌, ◌<◌, ◌≤◌}
use mathlib.Core.Path.{◌≡◌, refl, ◌∙◌, ap}
use mathlib.Core.List.{List}
use native.Mathlib.Decide.{dec_lt}
use native.Mathlib.Nat.{add-mul, one-mul, mul-le-mul_right}
use native.Mathlib.Omega.{arith}
use lib.ListN.{length, get_or, take}
use lib.Seq.{length-take-le, get_or-take}
use Rattle.model.specs.Table.{mark}
use Rattle.planning.specs.Passes.{least_below}
use Rattle.planning.proofs.Passes.{least_cong}
use Rattle.block.specs.Blocks.{Lessened, Lowered, LeastOf, Made}
use Rattle.sender.specs.Rates.{BlocksMade}

-- the same numbers, written in another way
pub lessened_cong : (from n m : ℕ) (f g : ℕ → ℕ) (old new : List ℕ) → n ≡ m → ((i : ℕ) → i < m → f i ≡ g i) → Lessened from n f old new → Lessened from m g old new
lessened_cong from n m f g old new e h a = record {
  size = a.size;
  here = λ i k. a.here i (omega arith) ∙ rw (h i k);
  before = a.before;
  after = λ i k. a.after i (omega arith);
}

pub lowered_cong : (n m : ℕ) (f g : ℕ → ℕ) (old new : List ℕ) → n ≡ m → ((i : ℕ) → i < m → f i ≡ g i) → Lowered n f old new → Lowered m g old new
lowered_cong n m f g old new e h a = record { size = a.size; each = λ i k b. a.each i (omega arith) b ∙ rw (h i k) }

-- more words behind those
pub made_behind : (low mid high : ℕ) (f g : ℕ → ℕ) (old new last : List ℕ) → mid ≤ high → low ≤ mid → Made low mid f old new → Made mid high g new last → ((i : ℕ) → mid ≤ i → i < high → g i ≡ f i) → Made low high f old last
made_behind low mid high f g old new last h k a b e =
    record {
      size = b.size ∙ a.size;
      here = λ i p q. go i p q (dec_lt i mid);
      before = λ i p. b.before i (omega arith) ∙ a.before i p;
      after = λ i p. b.after i p ∙ a.after i (omega arith);
    }
  where
    go : (i : ℕ) → low ≤ i → i < high → Dec (i < mid) → get_or last i 0 ≡ f i
    go i p q (yes t) = b.before i t ∙ a.here i p t
    go i p q (no t) = let r : mid ≤ i = omega arith in b.here i r q ∙ e i r q

-- blocks made anew, from the last to the first
pub blocks_none : (start count width : ℕ) (f : ℕ → ℕ → ℕ) (l : List ℕ) → BlocksMade start count count width f l l
blocks_none start count width f l = record { size = refl; here = λ k j h b t. absurd (omega arith); before = λ i h. refl; after = λ i h. refl }

pub blocks_more : (start low high count width : ℕ) (f : ℕ → ℕ → ℕ) (g : ℕ → ℕ) (old mid new : List ℕ) → high ≡ low + 1 → high ≤ count → BlocksMade start high count width f old mid → Made (start + low * width) (start + low * width + width) g mid new → ((j : ℕ) → j < width → g (start + low * width + j) ≡ f low j) → BlocksMade start low count width f old new
blocks_more start low high count width f g old mid new e h a b same =
    record {
      size = b.size ∙ a.size;
      here = λ k j p q t. go k j p q t (dec_lt low k);
      before = λ i p. b.before i p ∙ a.before i (omega (arith, rise));
      after = λ i p. b.after i (omega (arith, rise, top)) ∙ a.after i p;
    }
  where
    rise : high * width ≡ low * width + width
    rise = rw e (add-mul low 1 width ∙ omega (arith, one-mul width))

    top : high * width ≤ count * width
    top = mul-le-mul_right {m = high} {n = count} width h

    go : (k j : ℕ) → low ≤ k → k < count → j < width → Dec (low < k) → get_or new (start + (k * width + j)) 0 ≡ f k j
    go k j p q t (yes r) = b.after (start + (k * width + j)) (omega (arith, rise, mul-le-mul_right {m = high} {n = k} width (omega arith))) ∙ a.here k j (omega arith) q t
    go k j p q t (no r) =
        let s : k ≡ low = omega arith in
        let at : start + (low * width + j) ≡ start + low * width + j = omega arith in
        rw (s, at) (b.here (start + low * width + j) (omega arith) (omega arith) ∙ same j t)

-- one size or one rate after another
pub least_none : (n : ℕ) (f : ℕ → ℕ → ℕ) (old new : List ℕ) → length old ≡ 256 → Made 0 n (λ i. mark) old new → LeastOf n 0 f new
unfolding least_below
least_none n f old new h a = record { size = a.size ∙ h; each = λ i k. a.here i (omega arith) k }

-- all rates in use, which are the first of an array
pub least_taken : (n m k : ℕ) (f : ℕ → ℕ → ℕ) (rates block : List ℕ) → m ≤ length rates → k ≡ length (take m rates) → LeastOf n k (λ i y. f i (get_or (take m rates) y 0)) block → LeastOf n m (λ i y. f i (get_or rates y 0)) block
least_taken n m k f rates block h e a =
    let b : LeastOf n m (λ i y. f i (get_or (take m rates) y 0)) block = rw (e, length-take-le m rates h) at a in
    record { size = b.size; each = λ i t. b.each i t ∙ least_cong m _ _ (λ y u. ap (f i) (get_or-take m rates y 0 u)) }
