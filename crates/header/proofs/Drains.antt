-- What a door says of a header's drains, bucket by bucket.
use mathlib.Core.Path.{◌≡◌, refl, sym, ◌∙◌}
use mathlib.Core.Bool.{Bool, true, false}
use mathlib.Core.Option.{Option, none, some}
use mathlib.Core.List.{List, [], ◌∷◌}
use Prim.Native.Nat.{ℕ}
use Rattle.base.specs.Refusals.{unless, first}
use Rattle.format.specs.Limits.{Limit, limit, kept, broken}
use Rattle.format.proofs.Limits.{broken_step, broken_here}

-- one bucket's drain
pub drain_kept : (d : ℕ) → kept (limit 17 1 4095 d) ≡ true → none ≡ broken (limit 17 1 4095 d ∷ [])
drain_kept d k = sym (broken_step (limit 17 1 4095 d) [] k ∙ unfold broken in refl)

pub drain_broken : (d : ℕ) → kept (limit 17 1 4095 d) ≡ false → some 17 ≡ broken (limit 17 1 4095 d ∷ [])
drain_broken d k = sym (broken_here (limit 17 1 4095 d) [] k)

-- one limit, and then others
pub then_more : (l : Limit) (ls : List Limit) {o : Option ℕ} → o ≡ broken (l ∷ []) → first o (broken ls) ≡ broken (l ∷ ls)
unfolding unless
then_more l ls {o} e = go (kept l) refl
  where
    go : (t : Bool) → kept l ≡ t → first o (broken ls) ≡ broken (l ∷ ls)
    go true k = rw (e, broken_step l [] k, broken_step l ls k) (unfold broken in refl)
    go false k = rw (e, broken_here l [] k, broken_here l ls k) refl
