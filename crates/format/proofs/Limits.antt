-- A limit is kept by the test exactly where its inequalities hold, and the first of a list that is not kept gives the refusal; the same of two limits, and of one list after another.
use Prim.Native.Nat.{ℕ, ◌≤◌}
use mathlib.Core.Path.{◌≡◌, refl, sym, ap, ◌∙◌}
use mathlib.Core.Bool.{Bool, true, false}
use mathlib.Core.Option.{Option, none, some}
use mathlib.Core.List.{List, [], ◌∷◌, ◌++◌}
use native.Mathlib.Omega.{arith}
use borrow.Author.Tests.{leb-true, le-leb}
use lib.Dec.{leb}
use Rattle.std.specs.Prelude.{if◌then◌else◌}
use Rattle.base.proofs.Tests.{both_true}
use Rattle.format.specs.Limits.{Limit, kept, both_kept, each_kept, broken, AllKept}

abbrev pub Kept : Limit → Type 0
Kept l = (l.low ≤ l.value) × (l.value ≤ l.high)

pub not_true : {A : Type 0} → false ≡ true → A
not_true e = let z : ◌≡◌ {A = ℕ} 0 1 = cc in absurd (omega arith)

pub is_kept : (l : Limit) → Kept l → kept l ≡ true
unfolding kept
is_kept l h = simp (le-leb l.low l.value h.0, le-leb l.value l.high h.1)

of_kept_by : (a b c : ℕ) (s t : Bool) → leb a b ≡ s → leb b c ≡ t → (if s then t else false) ≡ true → (a ≤ b) × (b ≤ c)
of_kept_by a b c true true p q e = (leb-true a b p, leb-true b c q)
of_kept_by a b c true false p q e = not_true e
of_kept_by a b c false t p q e = not_true e

pub of_kept : (l : Limit) → kept l ≡ true → Kept l
unfolding kept
of_kept l e = of_kept_by l.low l.value l.high (leb l.low l.value) (leb l.value l.high) refl refl e

not_kept_by : (l : Limit) (s : Bool) → kept l ≡ s → (Kept l → ⊥) → kept l ≡ false
not_kept_by l true e g = absurd (g (of_kept l e))
not_kept_by l false e g = e

pub not_kept : (l : Limit) → (Kept l → ⊥) → kept l ≡ false
not_kept l g = not_kept_by l (kept l) refl g

-- one limit in front
pub broken_step : (l : Limit) (ls : List Limit) → kept l ≡ true → broken (l ∷ ls) ≡ broken ls
unfolding broken
broken_step l ls e = rw e

pub broken_here : (l : Limit) (ls : List Limit) → kept l ≡ false → broken (l ∷ ls) ≡ some l.refusal
unfolding broken
broken_here l ls e = rw e

pub none_broken : (ls : List Limit) → AllKept ls → broken ls ≡ none
none_broken [] h = unfold broken in refl
none_broken (l ∷ ls) h = broken_step l ls (is_kept l h.0) ∙ none_broken ls h.1

pub not_some : {A : Type 0} {n : ℕ} → ◌≡◌ {A = Option ℕ} (some n) none → A
not_some e = let z : ◌≡◌ {A = ℕ} 0 1 = cc in absurd (omega arith)

pub all_kept : (ls : List Limit) → broken ls ≡ none → AllKept ls
all_kept [] e = tt
all_kept (l ∷ ls) e = go (kept l) refl (λ f. all_kept ls f)
  where
    go : (t : Bool) → kept l ≡ t → (broken ls ≡ none → AllKept ls) → AllKept (l ∷ ls)
    go true k r = (of_kept l k, r (sym (broken_step l ls k) ∙ e))
    go false k r = not_some (sym (broken_here l ls k) ∙ e)

-- every limit has the same refusal
abbrev pub AllOf : ℕ → List Limit → Type 0
AllOf k [] = Unit {0}
AllOf k (l ∷ ls) = (l.refusal ≡ k) × AllOf k ls

pub broken_one : (k : ℕ) (ls : List Limit) → AllOf k ls → (AllKept ls → ⊥) → broken ls ≡ some k
broken_one k [] a g = absurd (g tt)
broken_one k (l ∷ ls) a g = go (kept l) refl (λ f. broken_one k ls a.1 f)
  where
    go : (t : Bool) → kept l ≡ t → ((AllKept ls → ⊥) → broken ls ≡ some k) → broken (l ∷ ls) ≡ some k
    go true e r = broken_step l ls e ∙ r (λ h. g (of_kept l e, h))
    go false e r = broken_here l ls e ∙ ap some a.0

-- a value that is not too large is kept if it is large enough
if_same : (t : Bool) → (if t then true else false) ≡ t
if_same true = refl
if_same false = refl

pub kept_under : (l : Limit) → l.value ≤ l.high → leb l.low l.value ≡ kept l
unfolding kept
kept_under l h = rw (le-leb l.value l.high h) (sym (if_same (leb l.low l.value)))

-- two limits that are both kept break nothing
pub broken_both : (l m : Limit) (ls : List Limit) → both_kept l m ≡ true → broken (l ∷ m ∷ ls) ≡ broken ls
unfolding both_kept
broken_both l m ls e = let t = both_true (kept l) (kept m) e in broken_step l (m ∷ ls) t.0 ∙ broken_step m ls t.1

-- two limits with one refusal that are not both kept
pub broken_either : (l m : Limit) (ls : List Limit) → l.refusal ≡ m.refusal → both_kept l m ≡ false → broken (l ∷ m ∷ ls) ≡ some l.refusal
unfolding both_kept
broken_either l m ls q e = go (kept l) refl
  where
    go : (s : Bool) → kept l ≡ s → broken (l ∷ m ∷ ls) ≡ some l.refusal
    go true k = broken_step l (m ∷ ls) k ∙ broken_here m ls ((rw k at e)) ∙ ap some (sym q)
    go false k = broken_here l (m ∷ ls) k

-- one list of limits after another
pub all_kept_join : (ks ls : List Limit) → AllKept ks → AllKept ls → AllKept (ks ++ ls)
all_kept_join [] ls h g = g
all_kept_join (k ∷ ks) ls h g = (h.0, all_kept_join ks ls h.1 g)

pub all_kept_part : (ks ls : List Limit) → AllKept (ks ++ ls) → AllKept ks × AllKept ls
all_kept_part [] ls h = (tt, h)
all_kept_part (k ∷ ks) ls h = let r = all_kept_part ks ls h.1 in ((h.0, r.0), r.1)

pub broken_first : (ks ls : List Limit) (n : ℕ) → broken ks ≡ some n → broken (ks ++ ls) ≡ some n
broken_first [] ls n e = unfold broken in (not_some (sym e))
broken_first (k ∷ ks) ls n e = go (kept k) refl (λ f. broken_first ks ls n f)
  where
    go : (t : Bool) → kept k ≡ t → (broken ks ≡ some n → broken (ks ++ ls) ≡ some n) → broken (k ∷ (ks ++ ls)) ≡ some n
    go true q r = broken_step k (ks ++ ls) q ∙ r (sym (broken_step k ks q) ∙ e)
    go false q r = broken_here k (ks ++ ls) q ∙ sym (broken_here k ks q) ∙ e

pub broken_later : (ks ls : List Limit) → AllKept ks → broken (ks ++ ls) ≡ broken ls
broken_later [] ls h = refl
broken_later (k ∷ ks) ls h = broken_step k (ks ++ ls) (is_kept k h.0) ∙ broken_later ks ls h.1

-- the test for all limits of a list says that all are kept
pub all_fit : (ls : List Limit) → each_kept ls ≡ true → AllKept ls
unfolding each_kept
all_fit [] e = tt
all_fit (l ∷ ls) e = let t = both_true (kept l) (each_kept ls) e in (of_kept l t.0, all_fit ls t.1)

pub fit_all : (ls : List Limit) → AllKept ls → true ≡ each_kept ls
unfolding each_kept
fit_all [] h = refl
fit_all (l ∷ ls) h = rw (is_kept l h.0) (fit_all ls h.1)

pub not_all : (ls : List Limit) → (AllKept ls → ⊥) → false ≡ each_kept ls
not_all ls g = go (each_kept ls) refl
  where
    go : (t : Bool) → each_kept ls ≡ t → false ≡ each_kept ls
    go true e = absurd (g (all_fit ls e))
    go false e = sym e
