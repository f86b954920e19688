-- Laws of a list that is lent: what stands where, and what a refusal leaves.
use Prim.Native.Nat.{ℕ, ◌+◌, ◌-◌, ◌<◌, ◌≤◌}
use mathlib.Core.Path.{◌≡◌, refl, sym, ap, ◌∙◌}
use mathlib.Core.List.{List, ◌++◌, append_assoc, append-nil}
use native.Mathlib.Omega.{arith}
use lib.ListN.{length, get_or, take, drop, length-append, length-drop, drop_of_length-le, get_or-append}
use lib.Seq.{take_all, take_at, drop_at, drop-drop, length-take-le, sets, sets-eq}
use borrow.Rule.Slice.PartMut.{put_mid, Post-is}
use Rattle.base.specs.Answer.{Answer, refused, gives}
use Rattle.base.specs.Lent.{over, over_at, refuse, put, Keeping}
use Rattle.base.proofs.Answers.{not_refused}

module _ (new old : List ℕ) (fits : length new ≤ length old) where
  pub over_length : length (over new old) ≡ length old
  unfolding over
  over_length = length-append new (drop (length new) old) ∙ omega (arith, length-drop (length new) old)

  pub over_here : (i : ℕ) → i < length new → get_or (over new old) i 0 ≡ get_or new i 0
  unfolding over
  over_here i h = get_or-append new (drop (length new) old) 0 i h

  pub over_rest : (n : ℕ) → length new ≡ n → drop n (over new old) ≡ drop n old
  unfolding over
  over_rest n e = rw (← e) (drop_at new (drop (length new) old) (length new) refl)

-- behind numbers that are written already
pub over_behind : (w new old : List ℕ) (p : ℕ) → length w ≡ p → over_at p new (w ++ drop p old) ≡ (w ++ new) ++ drop (p + length new) old
unfolding over_at over
over_behind w new old p e =
    rw (take_at w (drop p old) p e, drop_at w (drop p old) p e, drop-drop (length new) p old) (sym (append_assoc w new (drop (p + length new) old)))

pub over_at_length : (at : ℕ) (new old : List ℕ) → at + length new ≤ length old → length (over_at at new old) ≡ length old
unfolding over_at over
over_at_length at new old h =
    length-append (take at old) (new ++ drop (length new) (drop at old))
    ∙ omega (arith, length-append new (drop (length new) (drop at old)), length-drop (length new) (drop at old), length-drop at old, length-take-le at old (omega arith))

-- what a call writes, and what a refused one leaves
pub put_given : {A : Type 0} (x : Answer A) (a : A) (f : A → List ℕ) (list : List ℕ) → x ≡ gives a → put x f list ≡ over (f a) list
unfolding put
put_given x a f list e = rw e

pub put_refused : {A : Type 0} (x : Answer A) (n : ℕ) (f : A → List ℕ) (list : List ℕ) → x ≡ refused n → put x f list ≡ list
unfolding put
put_refused x n f list e = rw e

-- numbers stored one after another from a place on
pub stored_at : (vs l : List ℕ) (at : ℕ) → at + length vs ≤ length l → sets l at vs ≡ over_at at vs l
unfolding over_at over
stored_at vs l at h = sets-eq vs l at h ∙ append_assoc (take at l) vs (drop (at + length vs) l) ∙ ap (λ t. take at l ++ (vs ++ t)) (sym (drop-drop (length vs) at l))

pub stored : (vs l : List ℕ) → length vs ≤ length l → sets l 0 vs ≡ over vs l
unfolding over_at
stored vs l h = stored_at vs l 0 (omega arith)

module _ {A : Type 0} (list : List ℕ) where
  pub refuse_keeps : (n : ℕ) → Keeping {A = A} list (refuse list n)
  unfolding refuse
  refuse_keeps n k e = refl

  pub gives_keeps : (a : A) (l : List ℕ) → Keeping list (record { answer = gives a; list = l })
  gives_keeps a l n e = absurd (not_refused e)

-- the part of a list from a place on, lent and given back
pub part_all : (l : List ℕ) (a : ℕ) → take (length l - a) (drop a l) ≡ drop a l
part_all l a = take_all (length l - a) (drop a l) (omega (arith, length-drop a l))

pub put_back : (l ys : List ℕ) (a : ℕ) → a ≤ length l → put_mid a (length l - a) l ys ≡ take a l ++ ys
put_back l ys a h = let z : length l ≤ length l = omega arith in ap (λ (t : List ℕ). take a l ++ (ys ++ t)) (Post-is a (length l) l h ∙ drop_of_length-le l z) ∙ ap (λ (t : List ℕ). take a l ++ t) (append-nil ys)
