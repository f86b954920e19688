-- Tests that say what conditions say refuse in the conditions' order: `in_order`, and `in_turn` where a test may rely on the conditions before it; and what a call answers is a refusal or its work: `guarded_is`.
use Prim.Native.Nat.{ℕ}
use mathlib.Core.Path.{◌≡◌, refl, ap, ◌∙◌}
use mathlib.Core.Logic.{◌↔◌}
use mathlib.Core.Bool.{Bool, true, false}
use mathlib.Core.Option.{Option, none, some}
use mathlib.Core.List.{List, [], ◌∷◌, ◌++◌}
use native.Mathlib.Omega.{arith}
use Rattle.std.specs.Prelude.{if◌then◌else◌}
use Rattle.base.specs.Refusals.{Test, refusal, unless, first, guarded, Condition, InOrder}

pub not_none : {n : ℕ} → ◌≡◌ {A = Option ℕ} (some n) none → ⊥
not_none e = let z : ◌≡◌ {A = ℕ} 0 1 = cc in omega arith

pub some_same : {m n : ℕ} → ◌≡◌ {A = Option ℕ} (some m) (some n) → m ≡ n
some_same e = cc

-- one test in front
pub refusal_past : (t : Test) (ts : List Test) → t.passes ≡ true → refusal (t ∷ ts) ≡ refusal ts
unfolding refusal
refusal_past t ts e = rw e

pub refusal_here : (t : Test) (ts : List Test) → t.passes ≡ false → refusal (t ∷ ts) ≡ some t.number
unfolding refusal
refusal_here t ts e = rw e

-- a first test that does not refuse passes
pub refusal_none : (t : Test) (ts : List Test) → refusal (t ∷ ts) ≡ none → (t.passes ≡ true) × (refusal ts ≡ none)
unfolding refusal
refusal_none t ts e = go t.passes refl e
  where
    go : (b : Bool) → t.passes ≡ b → (if b then refusal ts else some t.number) ≡ none → (t.passes ≡ true) × (refusal ts ≡ none)
    go true q e = (q, e)
    go false q e = absurd (not_none e)

-- tests behind others
pub refusal_join : (ts us : List Test) → refusal (ts ++ us) ≡ first (refusal ts) (refusal us)
unfolding refusal unless
refusal_join [] us = refl
refusal_join (t ∷ ts) us = go t.passes (refusal_join ts us)
  where
    go : (b : Bool) → refusal (ts ++ us) ≡ first (refusal ts) (refusal us) → (if b then refusal (ts ++ us) else some t.number) ≡ first (if b then refusal ts else some t.number) (refusal us)
    go true e = e
    go false e = refl

-- no first refusal of two is none of either
pub first_none : (o p : Option ℕ) → first o p ≡ none → (o ≡ none) × (p ≡ none)
unfolding unless
first_none none p e = (refl, e)
first_none (some n) p e = absurd (not_none e)

module _ {R : Type 0} (refuse : ℕ → R) (o : Option ℕ) where
  pub unless_some : (n : ℕ) (r : R) → o ≡ some n → unless refuse o r ≡ refuse n
  unfolding unless
  unless_some n r e = rw e

  pub unless_none : (r : R) → o ≡ none → unless refuse o r ≡ r
  unfolding unless
  unless_none r e = rw e

-- a refusal that is found in two steps
pub unless_first : {R : Type 0} (refuse : ℕ → R) (o p : Option ℕ) (r : R) → unless refuse (first o p) r ≡ unless refuse o (unless refuse p r)
unfolding unless
unless_first refuse none p r = refl
unless_first refuse (some n) p r = refl

-- the last test
pub refusal_last : (t : Test) → t.passes ≡ true → refusal (t ∷ []) ≡ none
unfolding refusal
refusal_last t e = rw e

-- each test passes exactly where its condition holds
pub data Decides : List Test → List Condition → Type 1 where
  no_more : Decides [] []
  one_more : {t : Test} {c : Condition} {ts : List Test} {cs : List Condition} → t.number ≡ c.number → (t.passes ≡ true) ↔ c.Holds → Decides ts cs → Decides (t ∷ ts) (c ∷ cs)

pub decides_join : {ts us : List Test} {cs ds : List Condition} → Decides ts cs → Decides us ds → Decides (ts ++ us) (cs ++ ds)
decides_join no_more e = e
decides_join (one_more p q d) e = one_more p q (decides_join d e)

-- the same where each test may rely on the conditions before it
pub data Following : List Test → List Condition → Type 1 where
  none_left : Following [] []
  then_one : {t : Test} {c : Condition} {ts : List Test} {cs : List Condition} → t.number ≡ c.number → (t.passes ≡ true) ↔ c.Holds → (c.Holds → Following ts cs) → Following (t ∷ ts) (c ∷ cs)

pub decided : {ts : List Test} {cs : List Condition} → Decides ts cs → Following ts cs
decided no_more = none_left
decided (one_more p q d) = then_one p q (λ h. decided d)

pub following_join : {ts us : List Test} {cs ds : List Condition} → Following ts cs → Following us ds → Following (ts ++ us) (cs ++ ds)
following_join none_left e = e
following_join (then_one p q d) e = then_one p q (λ h. following_join (d h) e)

abbrev pub AllHold : List Condition → Type 0
AllHold [] = Unit {0}
AllHold (c ∷ cs) = c.Holds × AllHold cs

-- where no test refuses, every condition holds
pub none_refuses : {ts : List Test} {cs : List Condition} → Decides ts cs → refusal ts ≡ none → AllHold cs
none_refuses no_more e = tt
none_refuses (one_more {t} {c} {ts} {cs} p d s) e = let h = refusal_none t ts e in (d.0 h.0, none_refuses s h.1)

module _ {R : Type 0} (refuse : ℕ → R) where
  pub guarded_past : (t : Test) (ts : List Test) (r : R) → t.passes ≡ true → guarded refuse (t ∷ ts) r ≡ guarded refuse ts r
  unfolding guarded
  guarded_past t ts r e = ap (λ o. unless refuse o r) (refusal_past t ts e)

  pub guarded_here : (t : Test) (ts : List Test) (r : R) → t.passes ≡ false → guarded refuse (t ∷ ts) r ≡ refuse t.number
  unfolding guarded unless
  guarded_here t ts r e = rw (refusal_here t ts e)

  pub guarded_none : (r : R) → guarded refuse [] r ≡ r
  unfolding guarded unless refusal
  guarded_none r = refl

  -- the last test
  pub guarded_last : (t : Test) (r : R) → t.passes ≡ true → guarded refuse (t ∷ []) r ≡ r
  guarded_last t r e = guarded_past t [] r e ∙ guarded_none r

  -- what is said of the work is said of the call where every condition holds
  pub in_turn : {ts : List Test} {cs : List Condition} → Following ts cs → (Else : R → Type 0) (r q : R) → q ≡ guarded refuse ts r → (AllHold cs → Else r) → InOrder q refuse cs (Else q)
  in_turn none_left Else r q e h = rw (e ∙ guarded_none r) (h tt)
  in_turn (then_one {t} {c} {ts} {cs} p d s) Else r q e h = (fails t.passes refl, λ k. in_turn (s k) Else r q (e ∙ guarded_past t ts r (d.1 k)) (λ rest. h (k, rest)))
    where
      fails : (b : Bool) → t.passes ≡ b → (c.Holds → ⊥) → q ≡ refuse c.number
      fails true w g = absurd (g (d.0 w))
      fails false w g = e ∙ guarded_here t ts r w ∙ ap refuse p

  pub in_order : {ts : List Test} {cs : List Condition} → Decides ts cs → (Else : R → Type 0) (r q : R) → q ≡ guarded refuse ts r → (AllHold cs → Else r) → InOrder q refuse cs (Else q)
  in_order d = in_turn (decided d)

  -- of every answer: a refusal, or the work where all tests pass
  pub data Guarded (r : R) : R → Type 0 where
    was_refused : (n : ℕ) → Guarded r (refuse n)
    was_done : Guarded r r

  pub guarded_is : (ts : List Test) (r : R) → Guarded r (guarded refuse ts r)
  unfolding guarded unless
  guarded_is ts r = go (refusal ts)
    where
      go : (o : Option ℕ) → Guarded r (unless refuse o r)
      go (some n) = was_refused n
      go none = was_done
