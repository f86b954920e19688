-- Five numbers that go over a part of a list, the last of them 0 where there is none.
use Prim.Native.Nat.{ℕ, ◌+◌, ◌-◌, ◌≤◌}
use mathlib.Core.Path.{◌≡◌, refl, sym, ap, ◌∙◌}
use mathlib.Core.List.{List, [], ◌∷◌, ◌++◌}
use native.Mathlib.Omega.{arith}
use lib.ListN.{length, get_or, take}
use lib.Seq.{drop-drop}
use borrow.Rule.Slice.PartMut.{put_mid, Post-is}
use Rattle.std.specs.Prelude.{Option, Some, None}
use Rattle.std.specs.Option.{option_to_list, unwrap_or}
use Rattle.base.specs.Lent.{over, over_at}

-- a part that is lent and given back with these numbers
pub five_over : (l : List ℕ) (at a b c d e : ℕ) → at + 5 ≤ length l → put_mid at (at + 5 - at) l (a ∷ b ∷ c ∷ d ∷ e ∷ []) ≡ over_at at (a ∷ b ∷ c ∷ d ∷ e ∷ []) l
unfolding over_at over
five_over l at a b c d e h = ap (λ (t : List ℕ). take at l ++ ((a ∷ b ∷ c ∷ d ∷ e ∷ []) ++ t)) (Post-is at (at + 5) l (omega arith) ∙ sym (drop-drop 5 at l))

pub or_none : (a : ℕ) (o : Option ℕ) → unwrap_or o 0 ≡ get_or (a ∷ option_to_list o) 1 0
or_none a (Some n) = refl
or_none a None = refl
