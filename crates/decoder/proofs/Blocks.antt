-- Blocks of words where the first pass makes them: no number becomes larger, and the blocks are made from the last to the first.
use Prim.Native.Nat.{ℕ, zero, suc, ◌+◌, ◌-◌, ◌*◌, ◌<◌, ◌≤◌, min}
use mathlib.Core.Path.{◌≡◌, refl, ◌∙◌}
use mathlib.Core.List.{List}
use native.Mathlib.Decide.{dec_lt}
use native.Mathlib.Nat.{mul-le-mul}
use native.Mathlib.Omega.{arith}
use lib.ListN.{get_or}
use Rattle.model.specs.Table.{mark}
use Rattle.planning.specs.Passes.{least_below}
use Rattle.planning.proofs.Passes.{least_marked}
use Rattle.block.specs.Blocks.{Lessened, Made}

-- no number becomes larger
pub lessened_low : (from n : ℕ) (f : ℕ → ℕ) (old new : List ℕ) → Lessened from n f old new → (i : ℕ) → get_or new i 0 ≤ get_or old i 0
lessened_low from n f old new a i = go (dec_lt i from) (dec_lt i (from + n))
  where
    go : Dec (i < from) → Dec (i < from + n) → get_or new i 0 ≤ get_or old i 0
    go (yes p) q = omega (arith, a.before i p)
    go (no p) (yes q) = let e : from + (i - from) ≡ i = omega arith in omega (arith, rw e at (a.here (i - from) (omega arith)))
    go (no p) (no q) = omega (arith, a.after i (omega arith))

-- more words before those
pub made_ahead : (low mid high : ℕ) (f g : ℕ → ℕ) (old new last : List ℕ) → low ≤ mid → mid ≤ high → Made mid high f old new → Made low mid g new last → ((i : ℕ) → low ≤ i → i < mid → g i ≡ f i) → Made low high f old last
made_ahead low mid high f g old new last h k a b e =
    record {
      size = b.size ∙ a.size;
      here = λ i p q. go i p q (dec_lt i mid);
      before = λ i p. b.before i p ∙ a.before i (omega arith);
      after = λ i p. b.after i (omega arith) ∙ a.after i p;
    }
  where
    go : (i : ℕ) → low ≤ i → i < high → Dec (i < mid) → get_or last i 0 ≡ f i
    go i p q (yes t) = b.here i p t ∙ e i p t
    go i p q (no t) = let r : mid ≤ i = omega arith in b.after i r ∙ a.here i r q

-- those behind offer nothing
pub least_rest : (n m : ℕ) (f : ℕ → ℕ) → m ≤ n → ((x : ℕ) → m ≤ x → x < n → f x ≡ mark) → least_below n f ≡ least_below m f
unfolding least_below
least_rest zero m f h e = let z : m ≡ 0 = omega arith in rw z refl
least_rest (suc n) m f h e = go (λ k. least_rest n m f k (λ x a b. e x a (omega arith))) (dec_lt n m)
  where
    go : (m ≤ n → least_below n f ≡ least_below m f) → Dec (n < m) → min (least_below n f) (f n) ≡ least_below m f
    go ih (yes b) = let z : m ≡ suc n = omega arith in rw z refl
    go ih (no b) = let q = ih (omega arith) in omega (arith, e n (omega arith) (omega arith), least_marked n f)

-- products of numbers of 16 bits fit
pub product_small : (a b : ℕ) → a ≤ 131072 → b ≤ 65536 → a * b ≤ 8589934592
product_small a b h k = mul-le-mul {n₂ = 131072} {m₂ = 65536} h k
