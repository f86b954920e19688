-- Blocks of words: lessened or made anew word after word, then lessened by one size or one rate after another.
use Prim.Native.Nat.{ℕ, ◌+◌, ◌-◌, ◌<◌, ◌≤◌, min}
use mathlib.Core.Path.{◌≡◌, refl, ◌∙◌}
use mathlib.Core.List.{List}
use native.Mathlib.Decide.{dec_lt}
use native.Mathlib.Numerals.{add-one}
use native.Mathlib.Omega.{arith}
use lib.ListN.{length, get_or, take, drop, set, length-set, length-drop}
use lib.Seq.{length-take-le, get_or-take, get_or-drop, get_or-set_same, get_or-set_other}
use Rattle.planning.specs.Passes.{least_below}
use Rattle.planning.proofs.Passes.{least_marked}
use Rattle.block.specs.Blocks.{Lessened, Lowered, LeastOf, Made}

module _ (from : ℕ) where
  pub lessened_none : (f : ℕ → ℕ) (l : List ℕ) → Lessened from 0 f l l
  lessened_none f l = record { size = refl; here = λ i h. absurd (omega arith); before = λ i h. refl; after = λ i h. refl }

  -- one word more
  pub lessened_more : (n : ℕ) (f : ℕ → ℕ) (old new : List ℕ) (x : ℕ) → from + n < length old → Lessened from n f old new → x ≡ min (f n) (get_or new (from + n) 0) → Lessened from (n + 1) f old (set new (from + n) x)
  lessened_more n f old new x h a e =
      record {
        size = length-set new (from + n) x ∙ a.size;
        here = λ i k. go i k (dec_lt i n);
        before = λ i k. get_or-set_other new (from + n) i x 0 (λ q. omega arith) ∙ a.before i k;
        after = λ i k. get_or-set_other new (from + n) i x 0 (λ q. omega arith) ∙ a.after i (omega arith);
      }
    where
      go : (i : ℕ) → i < n + 1 → Dec (i < n) → get_or (set new (from + n) x) (from + i) 0 ≡ min (f i) (get_or old (from + i) 0)
      go i k (yes b) = get_or-set_other new (from + n) (from + i) x 0 (λ q. omega arith) ∙ a.here i b
      go i k (no b) = let q : i ≡ n = omega arith in rw q (get_or-set_same new (from + n) x 0 (omega (arith, a.size)) ∙ e ∙ rw (a.after (from + n) (omega arith)))

-- words made anew, one after the other
pub made_none : (n : ℕ) (f : ℕ → ℕ) (l : List ℕ) → Made n n f l l
made_none n f l = record { size = refl; here = λ i h k. absurd (omega arith); before = λ i h. refl; after = λ i h. refl }

pub made_more : (low high next : ℕ) (f : ℕ → ℕ) (old new : List ℕ) (x : ℕ) → low ≤ high → next ≡ high + 1 → high < length old → Made low high f old new → x ≡ f high → Made low next f old (set new high x)
made_more low high next f old new x h m k a e =
    record {
      size = length-set new high x ∙ a.size;
      here = λ i p q. go i p (omega arith) (dec_lt i high);
      before = λ i p. get_or-set_other new high i x 0 (λ q. omega arith) ∙ a.before i p;
      after = λ i p. get_or-set_other new high i x 0 (λ q. omega arith) ∙ a.after i (omega arith);
    }
  where
    go : (i : ℕ) → low ≤ i → i < high + 1 → Dec (i < high) → get_or (set new high x) i 0 ≡ f i
    go i p q (yes b) = get_or-set_other new high i x 0 (λ t. omega arith) ∙ a.here i p b
    go i p q (no b) = let t : i ≡ high = omega arith in rw t (get_or-set_same new high x 0 (omega (arith, a.size)) ∙ e)

-- one size or one rate after another
pub least_more : (n m : ℕ) (f : ℕ → ℕ → ℕ) (old new : List ℕ) → LeastOf n m f old → Lowered n (λ i. f i m) old new → LeastOf n (m + 1) f new
unfolding least_below
least_more n m f old new a b = record {
  size = b.size ∙ a.size;
  each = λ i k. let e = a.each i k in b.each i k (omega (arith, e, least_marked m (f i))) ∙ rw (add-one m, e);
}

-- a part of words, word by word
pub part_at : (from n : ℕ) (l : List ℕ) (i : ℕ) → i < n → get_or (take (from + n - from) (drop from l)) i 0 ≡ get_or l (from + i) 0
part_at from n l i h = get_or-take (from + n - from) (drop from l) i 0 (omega arith) ∙ get_or-drop from l i 0

pub part_size : (from n : ℕ) (l : List ℕ) → from + n ≤ length l → length (take (from + n - from) (drop from l)) ≡ n
part_size from n l h = length-take-le (from + n - from) (drop from l) (omega (arith, length-drop from l)) ∙ omega arith
