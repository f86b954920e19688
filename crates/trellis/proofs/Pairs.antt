-- The pairs in rows: which they are, and that they are in order.
use Prim.Native.Nat.{ℕ, zero, suc, ◌<◌}
use mathlib.Core.Path.{◌≡◌, ap}
use mathlib.Core.Logic.{◌⊎◌, inl, inr}
use mathlib.Core.List.Memᴰ
use mathlib.Core.List.{[], ◌∷◌, ◌++◌, Memᴰ}
use native.Mathlib.Omega.{arith}
use native.Mathlib.Nat.{not-suc-le-zero}
use native.Mathlib.Decide.{dec_lt}
use Rattle.trellis.specs.Minimum.{Sorted}
use Rattle.trellis.specs.Pairs.{Pair, pair, row, rows}
use Rattle.trellis.proofs.Sorted.{sorted_append, sorted_one}

pub row_member : (i k : ℕ) (a : Pair) → Memᴰ a (row i k) → (a.outer ≡ i) × (a.inner < k)
unfolding row
row_member i zero a m = absurd (Memᴰ.not-nil m)
row_member i (suc k) a m = go (row_member i k a) (Memᴰ.append_cases (row i k) m)
  where
    go : (Memᴰ a (row i k) → (a.outer ≡ i) × (a.inner < k)) → Memᴰ a (row i k) ⊎ Memᴰ a (pair i k ∷ []) → (a.outer ≡ i) × (a.inner < suc k)
    go ih (inl n) = let h = ih n in (h.0, omega arith)
    go ih (inr n) = let e = Memᴰ.eq_of_singleton n in (ap (λ (p : Pair). p.outer) e, let q : a.inner ≡ k = ap (λ (p : Pair). p.inner) e in omega arith)

pub row_sorted : (◌≺◌ : Pair → Pair → Type 0) (i k : ℕ) → ((a b : Pair) → a.outer ≡ b.outer → a.inner < b.inner → ◌≺◌ a b) → Sorted ◌≺◌ (row i k)
unfolding row
row_sorted ◌≺◌ i zero h = tt
row_sorted ◌≺◌ i (suc k) h =
    sorted_append ◌≺◌ (row i k) (pair i k ∷ []) (row_sorted ◌≺◌ i k h) (sorted_one ◌≺◌ (pair i k)) go
  where
    go : (a b : Pair) → Memᴰ a (row i k) → Memᴰ b (pair i k ∷ []) → ◌≺◌ a b
    go a b p q =
        let e = Memᴰ.eq_of_singleton q in
        let r = row_member i k a p in
        rw e (h a (pair i k) r.0 r.1)

pub rows_member : (f : ℕ → ℕ) (n k : ℕ) (a : Pair) → Memᴰ a (rows f n k) → (i : ℕ) × (i < n) × (a.outer ≡ f i) × (a.inner < k)
unfolding rows
rows_member f zero k a m = absurd (Memᴰ.not-nil m)
rows_member f (suc n) k a m = go (rows_member f n k a) (Memᴰ.append_cases (rows f n k) m)
  where
    go : (Memᴰ a (rows f n k) → (i : ℕ) × (i < n) × (a.outer ≡ f i) × (a.inner < k)) → Memᴰ a (rows f n k) ⊎ Memᴰ a (row (f n) k) → (i : ℕ) × (i < suc n) × (a.outer ≡ f i) × (a.inner < k)
    go ih (inl p) = let h = ih p in (h.0, omega arith, h.2, h.3)
    go ih (inr p) = let h = row_member (f n) k a p in (n, omega arith, h.0, h.1)

-- in an order in which each row is before those after it
pub rows_sorted : (◌≺◌ : Pair → Pair → Type 0) (f : ℕ → ℕ) (n k : ℕ) → ((a b : Pair) (x y : ℕ) → x < y → y < n → a.outer ≡ f x → b.outer ≡ f y → ◌≺◌ a b) → ((a b : Pair) → a.outer ≡ b.outer → a.inner < b.inner → ◌≺◌ a b) → Sorted ◌≺◌ (rows f n k)
unfolding rows
rows_sorted ◌≺◌ f zero k apart within = tt
rows_sorted ◌≺◌ f (suc n) k apart within =
    sorted_append ◌≺◌ (rows f n k) (row (f n) k) (rows_sorted ◌≺◌ f n k (λ a b x y l h p q. apart a b x y l (omega arith) p q) within) (row_sorted ◌≺◌ (f n) k within)
    (λ a b p q. let x = rows_member f n k a p in let y = row_member (f n) k b q in apart a b x.0 n x.1 (omega arith) x.2 y.0)

pub member_row : (i k j : ℕ) → j < k → Memᴰ (pair i j) (row i k)
unfolding row
member_row i zero j h = absurd (not-suc-le-zero h)
member_row i (suc k) j h = go (member_row i k j) (dec_lt j k)
  where
    go : (j < k → Memᴰ (pair i j) (row i k)) → Dec (j < k) → Memᴰ (pair i j) (row i k ++ (pair i k ∷ []))
    go ih (yes l) = Memᴰ.append_left (pair i k ∷ []) (ih l)
    go ih (no l) = Memᴰ.append_right (row i k) (Memᴰ.head (ap (pair i) (omega arith)))

pub member_rows : (f : ℕ → ℕ) (n k i j : ℕ) → i < n → j < k → Memᴰ (pair (f i) j) (rows f n k)
unfolding rows
member_rows f zero k i j h q = absurd (not-suc-le-zero h)
member_rows f (suc n) k i j h q = go (member_rows f n k i j) (dec_lt i n)
  where
    go : (i < n → j < k → Memᴰ (pair (f i) j) (rows f n k)) → Dec (i < n) → Memᴰ (pair (f i) j) (rows f n k ++ row (f n) k)
    go ih (yes l) = Memᴰ.append_left (row (f n) k) (ih l q)
    go ih (no l) = Memᴰ.append_right (rows f n k) (let e : i ≡ n = omega arith in rw e (member_row (f n) k j q))
