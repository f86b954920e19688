-- Loops that copy one list into another, number by number.
use Prim.Native.Nat.{ℕ, ◌+◌, ◌<◌, ◌≤◌}
use mathlib.Core.Path.{◌≡◌, refl, sym, ap, ◌∙◌}
use mathlib.Core.List.{List, ◌++◌, append_assoc}
use native.Mathlib.Numerals.{add-one}
use native.Mathlib.Omega.{arith}
use lib.ListN.{length, get_or, take, drop, set, length-set}
use lib.Seq.{paste, paste-zero, paste-suc, length-paste, take_all, take-suc, take-suc-set, drop-drop}
use Rattle.base.specs.Lent.{over, over_at}

-- l is d with the first n numbers of s from a place on
pub record Copied (d : List ℕ) (at : ℕ) (s : List ℕ) (n : ℕ) (l : List ℕ) : Type 0 where
  pub is : l ≡ paste d at s n

module _ (d : List ℕ) (at : ℕ) (s : List ℕ) where
  pub copied_none : Copied d at s 0 d
  copied_none = record { is = paste-zero d at s }

  -- one number more
  pub copied_more : (n x : ℕ) (l : List ℕ) → at + n < length d → n < length s → x ≡ get_or s n 0 → Copied d at s n l → Copied d at s (n + 1) (set l (at + n) x)
  copied_more n x l h k e c = record { is = rw (c.is, e, add-one n) (paste-suc d at s n 0 h k) }

  pub copied_length : (n : ℕ) (l : List ℕ) → at + n ≤ length d → n ≤ length s → Copied d at s n l → length l ≡ length d
  copied_length n l h k c = ap length c.is ∙ length-paste d at s n h k

  -- all of s
  pub copied_all : (n : ℕ) (l : List ℕ) → length s ≡ n → Copied d at s n l → l ≡ over_at at s d
  unfolding over_at over
  copied_all n l e c =
      c.is
      ∙ ap (λ t. take at d ++ t ++ drop (at + n) d) (take_all n s (omega arith))
      ∙ append_assoc (take at d) s (drop (at + n) d)
      ∙ rw (drop-drop (length s) at d, e)

-- An array of this size, whose first n numbers are those of s.
pub record Begun (s : List ℕ) (size n : ℕ) (l : List ℕ) : Type 0 where
  pub long : length l ≡ size
  pub same : take n l ≡ take n s

module _ (s : List ℕ) (size : ℕ) where
  pub begun_none : (l : List ℕ) → length l ≡ size → Begun s size 0 l
  begun_none l e = record { long = e; same = refl }

  pub begun_more : (n x : ℕ) (l : List ℕ) → n < size → n < length s → x ≡ get_or s n 0 → Begun s size n l → Begun s size (n + 1) (set l n x)
  begun_more n x l h k e b = record {
    long = length-set l n x ∙ b.long;
    same = rw (add-one n, take-suc-set l n x (omega (arith, b.long)), take-suc s n 0 k, b.same, e);
  }

  pub begun_all : (l : List ℕ) → Begun s size size l → l ≡ take size s
  begun_all l b = sym (take_all size l (omega (arith, b.long))) ∙ b.same
