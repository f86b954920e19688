-- Arrays that a loop fills from the front.
use Prim.Native.Nat.{ℕ, ◌+◌, ◌<◌, ◌≤◌}
use mathlib.Core.Path.{◌≡◌, sym, ◌∙◌}
use mathlib.Core.List.{List}
use native.Mathlib.Decide.{dec_lt}
use native.Mathlib.Omega.{arith}
use lib.ListN.{length, get_or, take, set, length-set}
use lib.Seq.{length-take-le, get_or-take, get_or-set_same, get_or-set_other, ext_get_or}

-- an array of this size, whose first n places are filled
pub record Filled {A : Type 0} (empty : A) (f : ℕ → A) (size n : ℕ) (l : List A) : Type 0 where
  pub size_is : length l ≡ size
  pub each : (i : ℕ) → i < n → get_or l i empty ≡ f i

module _ {A : Type 0} (empty : A) (f : ℕ → A) (size : ℕ) where
  pub filled_none : (l : List A) → length l ≡ size → Filled empty f size 0 l
  filled_none l e = record { size_is = e; each = λ i h. absurd (omega arith) }

  -- one place more
  pub filled_more : (n : ℕ) (l : List A) (x : A) → n < size → x ≡ f n → Filled empty f size n l → Filled empty f size (n + 1) (set l n x)
  filled_more n l x h e a = record { size_is = length-set l n x ∙ a.size_is; each = λ i k. go i k (dec_lt i n) }
    where
      go : (i : ℕ) → i < n + 1 → Dec (i < n) → get_or (set l n x) i empty ≡ f i
      go i k (yes b) = get_or-set_other l n i x empty (λ q. omega arith) ∙ a.each i b
      go i k (no b) = let q : i ≡ n = omega arith in rw q (get_or-set_same l n x empty (omega (arith, a.size_is)) ∙ e)

  -- the filled places, as a list
  pub filled_list : (n : ℕ) (l m : List A) → n ≤ size → Filled empty f size n l → length m ≡ n → ((i : ℕ) → i < n → f i ≡ get_or m i empty) → take n l ≡ m
  filled_list n l m h a e g =
      let k : length (take n l) ≡ n = length-take-le n l (omega (arith, a.size_is)) in
      ext_get_or empty (take n l) m (k ∙ sym e) (λ i b. let c : i < n = omega arith in get_or-take n l i empty c ∙ a.each i c ∙ g i c)
