-- Calls as numbers: exactly which are refused, `calls_decide`, and what is read: `CallNumbers`.
use Prim.Native.Nat.{ℕ, zero, suc, ◌+◌, ◌*◌, ◌/◌, ◌%◌, ◌<◌}
use mathlib.Core.Path.{◌≡◌, refl, ◌∙◌, ap}
use mathlib.Core.Logic.{◌⊎◌, inl, inr}
use mathlib.Core.Bool.{Bool, true}
use mathlib.Core.List.{List, [], ◌∷◌}
use native.Mathlib.Omega.{arith}
use native.Mathlib.Nat.{add-zero}
use lib.Dec.{eqb}
use lib.ListN.{length, get_or}
use borrow.Author.Tests.{eqb-true, eq-eqb, ne_eqb}
use Rattle.base.specs.All.{all_below}
use Rattle.model.specs.Pins.{Call}
use Rattle.base.proofs.Tests.{branch}
use Rattle.base.specs.Refusals.{condition}
use Rattle.base.proofs.All.{all_each, each_all}
use Rattle.base.proofs.Refusals.{Decides, no_more, one_more}
use Rattle.calling.specs.Commands.{kind_of, call_at, calls_from, calls_of, kind_fits, calls_tests}
use Rattle.calling.specs.Claims.{AllKinds, Whole, CallNumbers}

kind_good : (k : ℕ) → kind_fits k ≡ true → (k ≡ 6) ⊎ (k ≡ 7)
unfolding kind_fits
kind_good k = branch (λ (t : Bool). t ≡ true → (k ≡ 6) ⊎ (k ≡ 7)) (eqb k 6) (λ p e. inl (eqb-true k 6 p)) (λ p e. inr (eqb-true k 7 e))

good_kind : (k : ℕ) → (k ≡ 6) ⊎ (k ≡ 7) → kind_fits k ≡ true
unfolding kind_fits
good_kind k (inl e) = rw (eq-eqb k 6 e)
good_kind k (inr e) = let n : k ≡ 6 → ⊥ = λ q. omega arith in rw (ne_eqb k 6 n, eq-eqb k 7 e)

-- every kind passes exactly where each is 6 or 7
module _ (l : List ℕ) where
  abbrev good : ℕ → Bool
  good i = kind_fits (kind_of l i)

  kinds_good : all_below good (length l / 3) ≡ true → AllKinds l
  unfolding kind_of
  kinds_good e i h = kind_good (get_or l (3 * i) 0) (all_each good (length l / 3) e i (omega arith))

  good_kinds : AllKinds l → all_below good (length l / 3) ≡ true
  unfolding kind_of
  good_kinds f = each_all good (length l / 3) (λ i h. good_kind (get_or l (3 * i) 0) (f i (omega arith)))

  pub calls_decide : Decides (calls_tests l) (condition 2 (AllKinds l) ∷ condition 1 (Whole l) ∷ [])
  unfolding calls_tests
  calls_decide = one_more refl (kinds_good, good_kinds) (one_more refl (eqb-true (length l % 3) 0, eq-eqb (length l % 3) 0) no_more)

-- the calls that are read
from_length : (l : List ℕ) (i n : ℕ) → length (calls_from l i n) ≡ n
unfolding calls_from
from_length l i zero = refl
from_length l i (suc n) = ap suc (from_length l (suc i) n)

from_at : (l : List ℕ) (i n x : ℕ) (k : Call) → x < n → get_or (calls_from l i n) x k ≡ call_at l (i + x)
unfolding calls_from
from_at l i zero x k h = absurd (omega arith)
from_at l i (suc n) zero k h = rw add-zero
from_at l i (suc n) (suc x) k h = let e : suc i + x ≡ i + suc x = omega arith in from_at l (suc i) n x k (omega arith) ∙ rw e

read_at : (l : List ℕ) (i : ℕ) (k : Call) → 3 * i + 2 < length l → get_or (calls_of l) i k ≡ call_at l i
unfolding calls_of
read_at l i k h = let e : 0 + i ≡ i = omega arith in from_at l 0 (length l / 3) i k (omega arith) ∙ rw e

pub call_numbers : CallNumbers
unfolding call_at kind_of
call_numbers l = record {
  count = unfold calls_of in (from_length l 0 (length l / 3));
  pins = λ i h e k. read_at l i k h ∙ rw (eq-eqb (get_or l (3 * i) 0) 6 e);
  lifts = λ i h e k. read_at l i k h ∙ rw (ne_eqb (get_or l (3 * i) 0) 6 (λ q. omega arith));
}
