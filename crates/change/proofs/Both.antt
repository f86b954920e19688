-- Both parts of a plan: their totals added, and levels within buckets.
use Prim.Native.Nat.{ℕ, suc, ◌+◌, ◌≤◌, ◌<◌}
use mathlib.Core.Path.{◌≡◌, refl}
use mathlib.Core.Bool.{Bool, true, false}
use mathlib.Core.Option.{map}
use mathlib.Core.List.{List, [], ◌∷◌}
use native.Mathlib.Omega.{arith}
use borrow.Author.Tests.{lt-ltb, le-ltb, lt-leb, le-leb, ltb-true, ltb-false}
use lib.Dec.{ltb, leb}
use Rattle.std.specs.Prelude.{Some}
use Rattle.model.specs.Job.{Bucket}
use Rattle.model.specs.Step.{overfull}
use Rattle.interval.specs.declared.Totals.{Totals}
use Rattle.interval.specs.Answers.{totals_of}
use Rattle.changing.specs.Calls.{none_over}
use Rattle.change.specs.Answers.{Adds}

pub no : {A : Type 0} → ◌≡◌ {A = Bool} false true → A
no e = let z : ◌≡◌ {A = ℕ} 0 1 = cc in absurd (omega arith)

-- the second bucket's unused drain
pub second_fits : (a b : Totals) → Adds a b → (x y : ℕ) → a.unused2 ≡ Some x → b.unused2 ≡ Some y → x + y < 4294967296
unfolding totals_of
second_fits a b h x y e f = rw (e, f) at (h.unused 1)

-- levels within two buckets
pub first_over : (k : Bucket) (ks : List Bucket) (l : ℕ) (ls : List ℕ) → k.size < l → false ≡ none_over (overfull (k ∷ ks) (l ∷ ls))
unfolding overfull none_over
first_over k ks l ls h = rw (lt-ltb k.size l h)

pub first_within : (k : Bucket) (ks : List Bucket) (l : ℕ) (ls : List ℕ) (r : Bool) → l ≤ k.size → r ≡ none_over (map suc (overfull ks ls)) → r ≡ none_over (overfull (k ∷ ks) (l ∷ ls))
unfolding overfull
first_within k ks l ls r h e = rw (le-ltb k.size l h) e

pub second_within : (k : Bucket) (l : ℕ) → leb l k.size ≡ none_over (map suc (overfull (k ∷ []) (l ∷ [])))
second_within k l = go (ltb k.size l) refl
  where
    go : (x : Bool) → ltb k.size l ≡ x → leb l k.size ≡ none_over (map suc (overfull (k ∷ []) (l ∷ [])))
    go true q = unfold overfull none_over in (rw (q, lt-leb l k.size (ltb-true k.size l q)))
    go false q = unfold overfull none_over in (rw (q, le-leb l k.size (ltb-false k.size l q)))

pub no_level : (ks : List Bucket) → true ≡ none_over (map suc (overfull ks []))
unfolding overfull none_over
no_level [] = refl
no_level (k ∷ ks) = refl

pub no_bucket : (ls : List ℕ) → true ≡ none_over (map suc (overfull [] ls))
unfolding overfull none_over
no_bucket ls = refl
