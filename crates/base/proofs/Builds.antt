-- Lists that are built number after number, as a loop writes them.
use Prim.Native.Nat.{ℕ, zero, suc, ◌+◌, ◌<◌}
use mathlib.Core.Path.{◌≡◌, refl, sym, ◌∙◌, ap}
use mathlib.Core.List.{List, [], ◌∷◌, ◌++◌, append_assoc}
use native.Mathlib.Decide.{dec_lt}
use native.Mathlib.Numerals.{add-one}
use native.Mathlib.Omega.{arith}
use lib.ListN.{length, get_or, drop, set, length-append, get_or-append}
use lib.Seq.{get_or_at, drop-cons, set_at}
use Rattle.base.specs.Lists.{build}

pub build_length : (n : ℕ) (f : ℕ → ℕ) → length (build n f) ≡ n
unfolding build
build_length zero f = refl
build_length (suc n) f = length-append (build n f) (f n ∷ []) ∙ omega (arith, build_length n f)

pub build_at : (n : ℕ) (f : ℕ → ℕ) (i : ℕ) → i < n → get_or (build n f) i 0 ≡ f i
unfolding build
build_at zero f i h = absurd (omega arith)
build_at (suc n) f i h = go (λ k. build_at n f i k) (dec_lt i n)
  where
    go : (i < n → get_or (build n f) i 0 ≡ f i) → Dec (i < n) → get_or (build n f ++ (f n ∷ [])) i 0 ≡ f i
    go ih (yes k) = get_or-append (build n f) (f n ∷ []) 0 i (omega (arith, build_length n f)) ∙ ih k
    go ih (no k) = let e : i ≡ n = omega arith in rw e (get_or_at (build n f) (f n) [] 0 n (build_length n f))

pub build_cong : (n : ℕ) (f g : ℕ → ℕ) → ((i : ℕ) → i < n → f i ≡ g i) → build n f ≡ build n g
unfolding build
build_cong zero f g h = refl
build_cong (suc n) f g h = rw (build_cong n f g (λ i k. h i (omega arith)), h n (omega arith))

-- one number more
pub build_more : (f : ℕ → ℕ) (l : List ℕ) (i x : ℕ) → i < length l → x ≡ f i → set (build i f ++ drop i l) i x ≡ build (i + 1) f ++ drop (i + 1) l
unfolding build
build_more f l i x h e =
    ap (λ (t : List ℕ). set (build i f ++ t) i x) (drop-cons l i 0 h)
    ∙ set_at (build i f) (get_or l i 0) (drop (suc i) l) x i (build_length i f)
    ∙ rw (add-one i, e) (sym (append_assoc (build i f) (f i ∷ []) (drop (suc i) l)))
