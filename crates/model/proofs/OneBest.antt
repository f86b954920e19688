-- The order of entries is strict, so that a set of plans has at most one best: `OneBest`.
use Prim.Native.Nat.{ℕ}
use mathlib.Core.Logic.{inl, inr}
use mathlib.Core.Option.{Option}
use mathlib.Core.List.{List}
use native.Mathlib.Omega.{arith}
use Rattle.trellis.specs.Claims.{Strict}
use Rattle.trellis.proofs.TieOrder.{no_later_antisym}
use Rattle.model.specs.Job.{Entry}
use Rattle.model.specs.Best.{Order, late, early, ChoiceBefore, smaller, Before}
use Rattle.model.specs.Claims.{OneBest}

choice_asym : {x y : Option ℕ} → ChoiceBefore x y → ChoiceBefore y x → ⊥
choice_asym (smaller h) (smaller k) = omega arith

before_asym : (o : Order) (a b : Entry) → Before o a b → Before o b a → ⊥
before_asym o a b (inr h) (inr k) = choice_asym h.1 k.1
before_asym late a b (inl h) (inl k) = omega arith
before_asym late a b (inl h) (inr k) = omega arith
before_asym late a b (inr h) (inl k) = omega arith
before_asym early a b (inl h) (inl k) = omega arith
before_asym early a b (inl h) (inr k) = omega arith
before_asym early a b (inr h) (inl k) = omega arith

before_strict : (o : Order) → Strict (Before o)
before_strict o = record {
  asymmetric = before_asym o;
  irreflexive = λ a b h e. let k = rw e at h in before_asym o b b k k;
}

pub one_best : (Among : List Entry → Type 0) → OneBest Among
one_best Among j s a o p q x y =
    no_later_antisym (before_strict o) (x.first_of_these q y.among (y.least_of_all p x.among)) (y.first_of_these p x.among (x.least_of_all q y.among))
