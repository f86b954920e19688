-- The walks under a limit are those whose greatest cost is up to it.
use Prim.Native.Nat.{ℕ, suc, ◌≤◌, max}
use mathlib.Core.Path.{◌≡◌, refl}
use mathlib.Core.Bool.{Bool, true, false}
use mathlib.Core.Option.{Option, none, some, none-ne-some}
use mathlib.Core.List.{List}
use native.Mathlib.Omega.{arith}
use borrow.Author.Tests.{leb-true, le-leb}
use Rattle.trellis.specs.Trellis.{Trellis, Walk, stop, move, total}
use Rattle.trellis.specs.Limit.{UpTo, no_limit, up_to, keeps_to, only, limited}

pub up_to_le : {θ : Option ℕ} {a b : ℕ} → a ≤ b → UpTo θ b → UpTo θ a
up_to_le h no_limit = no_limit
up_to_le {a = a} h (up_to {θ} {c} k) = up_to {θ = θ} {c = a} (omega arith)

up_to_zero : (θ : Option ℕ) → UpTo θ 0
up_to_zero none = no_limit
up_to_zero (some θ) = up_to {θ = θ} {c = 0} (omega arith)

up_to_max : {θ : Option ℕ} {a b : ℕ} → UpTo θ a → UpTo θ b → UpTo θ (max a b)
up_to_max no_limit no_limit = no_limit
up_to_max (up_to {θ} {c = a} h) (up_to {c = b} k) = up_to {θ = θ} {c = max a b} (omega arith)

pub up_to_some : {θ c : ℕ} → UpTo (some θ) c → c ≤ θ
up_to_some (up_to h) = h

pub kept_up_to : (θ : Option ℕ) (c : ℕ) → keeps_to θ c ≡ true → UpTo θ c
unfolding keeps_to
kept_up_to none c e = no_limit
kept_up_to (some θ) c e = up_to (leb-true c θ e)

pub up_to_kept : {θ : Option ℕ} {c : ℕ} → UpTo θ c → keeps_to θ c ≡ true
unfolding keeps_to
up_to_kept no_limit = refl
up_to_kept (up_to {θ} {c} h) = le-leb c θ h

-- what leads somewhere under a test passes it
pub only_some : {S : Type 0} (b : Bool) (o : Option S) (s : S) → only b o ≡ some s → (b ≡ true) × (o ≡ some s)
unfolding only
only_some true o s e = (refl, e)
only_some false o s e = absurd (none-ne-some s e)

module _ {S A : Type 0} (θ : Option ℕ) (τ : Trellis S A) where
  pub limited_walk : {n t : ℕ} {s : S} {p : List A} → Walk (limited θ τ) n t s p → Walk τ n t s p × UpTo θ (total τ max t p)
  unfolding limited total
  limited_walk stop = (stop, up_to_zero θ)
  limited_walk (move {n} {t} {s} {s'} {a} {p} m e w) =
      let r = only_some (keeps_to θ (τ.cost (suc t) a)) (τ.step (suc t) s a) s' e in
      let ih = limited_walk w in
      (move m r.1 ih.0, up_to_max (kept_up_to θ (τ.cost (suc t) a) r.0) ih.1)

  pub walk_limited : {n t : ℕ} {s : S} {p : List A} → Walk τ n t s p → UpTo θ (total τ max t p) → Walk (limited θ τ) n t s p
  unfolding limited total only
  walk_limited stop h = stop
  walk_limited (move {n} {t} {s} {s'} {a} {p} m e w) h =
      let c = τ.cost (suc t) a in
      let r = total τ max (suc t) p in
      let k : keeps_to θ c ≡ true = up_to_kept (up_to_le {a = c} {b = max c r} (omega arith) h) in
      move {s = s} {s' = s'} m (rw k e) (walk_limited w (up_to_le {a = r} {b = max c r} (omega arith) h))
