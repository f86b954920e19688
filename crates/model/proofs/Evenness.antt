-- The greatest distortion of a plan, the least greatest that an admissible plan has, and the best plan by either aim: `Greatest`, `Evenness`, `Aims`.
use Prim.Native.Nat.{ℕ, zero, suc, ◌-◌, ◌<◌, ◌≤◌, max}
use mathlib.Core.Path.{◌≡◌, refl, sym, ◌∙◌, ap}
use mathlib.Core.Logic.{◌↔◌, ◌⊎◌, inl, inr}
use mathlib.Core.Option.{Option, none, some, none-ne-some}
use mathlib.Core.List.{List}
use native.Mathlib.Decide.{dec_lt}
use native.Mathlib.Omega.{arith}
use lib.ListN.{length}
use Rattle.trellis.specs.Trellis.{NoLater, best, Optimal}
use Rattle.trellis.specs.Limit.{no_limit, up_to}
use Rattle.trellis.proofs.Optimality.{greatest_combines, none_iff, best_optimal}
use Rattle.trellis.proofs.Limit.{up_to_some}
use Rattle.base.specs.Lists.{gathered, greatest}
use Rattle.model.specs.Job.{Levels, Job, Entry, intervals}
use Rattle.model.specs.Levels.{distorted}
use Rattle.model.specs.Pins.{PinMap}
use Rattle.model.specs.Admissible.{Admissible}
use Rattle.model.specs.Replay.{total_distortion, greatest_distortion}
use Rattle.model.specs.Best.{Order, Before, late, Open, unlimited, trellis_of, least_by, least_total, least_greatest, total, even, open_for}
use Rattle.model.specs.Claims.{BestOf, kept_open, EvennessClaim, AimClaim, Permits, PlanningClaim, Greatest, Evenness, Aims}
use Rattle.model.proofs.Walks.{max_distortion}
use Rattle.model.proofs.Planning.{walk_permitted, permitted_walk, planning}

-- the greatest of some numbers is one of them, and none is more
greatest_least : (f : ℕ → ℕ) (n i : ℕ) → i < n → f (suc i) ≤ greatest f n
unfolding gathered
greatest_least f zero i h = absurd (omega arith)
greatest_least f (suc n) i h = go (dec_lt i n) (greatest_least f n i)
  where
    go : Dec (i < n) → (i < n → f (suc i) ≤ greatest f n) → f (suc i) ≤ max (greatest f n) (f (suc n))
    go (yes k) ih = omega (arith, ih k)
    go (no k) ih = let e : i ≡ n = omega arith in rw e (omega arith)

greatest_one : (f : ℕ → ℕ) (n : ℕ) → (i : ℕ) × (i < suc n) × (f (suc i) ≡ greatest f (suc n))
unfolding gathered
greatest_one f zero = (0, omega arith, omega arith)
greatest_one f (suc n) = go (greatest_one f n) (dec_lt (f (suc (suc n))) (greatest f (suc n)))
  where
    go : ((i : ℕ) × (i < suc n) × (f (suc i) ≡ greatest f (suc n))) → Dec (f (suc (suc n)) < greatest f (suc n)) → (i : ℕ) × (i < suc (suc n)) × (f (suc i) ≡ max (greatest f (suc n)) (f (suc (suc n))))
    go (i, h, e) (yes k) = (i, omega arith, e ∙ omega arith)
    go (i, h, e) (no k) = (suc n, omega arith, omega arith)

pub greatest_claim : Greatest
unfolding greatest_distortion
greatest_claim j s p = record {
  no_more = λ n h. greatest_least (distorted j s p) (length p) n h;
  attained = some_one (length p);
  empty = λ e. ap (greatest (distorted j s p)) e ∙ unfold gathered in refl;
}
  where
    some_one : (n : ℕ) → 0 < n → (i : ℕ) × (i < n) × (distorted j s p (suc i) ≡ greatest (distorted j s p) n)
    some_one zero h = absurd (omega arith)
    some_one (suc n) h = greatest_one (distorted j s p) n

module _ (j : Job) (m : PinMap) (s : ℕ) (start : Levels) (counted : s ≤ intervals j) where
  free : {p : List Entry} → Admissible j m s start p → Permits j (unlimited m) s start p
  free a = record { admissible = a; up_to = no_limit }

  -- a plan with the least greatest distortion
  evenest : List Entry
  evenest = best (trellis_of j (unlimited m) late) max (intervals j - s) s start

  optimal : (g : ℕ) → least_greatest j m s start ≡ some g → Optimal (trellis_of j (unlimited m) late) max (intervals j - s) s start g evenest
  unfolding least_by evenest
  optimal = best_optimal (trellis_of j (unlimited m) late) max greatest_combines.monotone (intervals j - s) s start

  no_less : (g : ℕ) → least_greatest j m s start ≡ some g → (p : List Entry) → Admissible j m s start p → g ≤ greatest_distortion j s p
  no_less g e p a = rw (max_distortion j (unlimited m) late s p) at ((optimal g e).least_of_all p (permitted_walk j (unlimited m) s start late counted (free a)))

  none_admissible : (least_greatest j m s start ≡ none) ↔ ((p : List Entry) → Admissible j m s start p → ⊥)
  unfolding least_by
  none_admissible =
      let empty = none_iff (trellis_of j (unlimited m) late) max greatest_combines.monotone (intervals j - s) s start in
      (λ e p a. empty.0 e p (permitted_walk j (unlimited m) s start late counted (free a)), λ h. empty.1 (λ p w. h p (walk_permitted j (unlimited m) s start late counted w).admissible))

  even_claim : EvennessClaim j m s start
  even_claim = record {
    none_iff = none_admissible;
    attained = λ g e. (evenest, (walk_permitted j (unlimited m) s start late counted (optimal g e).walk).admissible, sym (max_distortion j (unlimited m) late s evenest) ∙ (optimal g e).reaches);
    no_less = no_less;
  }

  -- with the least greatest distortion as the limit, the plans permitted are the admissible ones whose greatest distortion is no more than any other's
  module _ (o : Order) (g : ℕ) (e : least_greatest j m s start ≡ some g) where
    abbrev within : Open
    within = record { pins = m; limit = some g }

    its_greatest : {p : List Entry} → Permits j within s start p → greatest_distortion j s p ≡ g
    its_greatest {p} a = omega (arith, up_to_some a.up_to, no_less g e p a.admissible)

    as_even : {p : List Entry} → Admissible j m s start p → greatest_distortion j s p ≤ g → Permits j within s start p
    as_even {p} a h = record { admissible = a; up_to = up_to h }

    claim : PlanningClaim j within s start o
    claim = planning j within s start o counted

    within_none : (least_total j within s start ≡ none) ↔ ((p : List Entry) → Admissible j m s start p → ⊥)
    within_none = (
      λ q. absurd (let r = even_claim.attained g e in claim.none_iff.0 q r.0 (as_even r.1 (omega (arith, r.2)))),
      λ h. claim.none_iff.1 (λ p a. h p a.admissible),
    )

    module _ (p : List Entry) (b : BestOf j s total o (Permits j within s start) p) where
      no_worse : (q : List Entry) → Admissible j m s start q → (greatest_distortion j s p < greatest_distortion j s q) ⊎ ((greatest_distortion j s p ≡ greatest_distortion j s q) × (total_distortion j s p ≤ total_distortion j s q))
      no_worse q a = go (dec_lt (greatest_distortion j s p) (greatest_distortion j s q))
        where
          go : Dec (greatest_distortion j s p < greatest_distortion j s q) → (greatest_distortion j s p < greatest_distortion j s q) ⊎ ((greatest_distortion j s p ≡ greatest_distortion j s q) × (total_distortion j s p ≤ total_distortion j s q))
          go (yes h) = inl h
          go (no h) =
              let n = no_less g e q a in
              let z = its_greatest b.among in
              inr (omega arith, b.least_of_all q (as_even a (omega arith)))

      no_later : (q : List Entry) → Admissible j m s start q → (greatest_distortion j s q < greatest_distortion j s p) ⊎ ((greatest_distortion j s q ≡ greatest_distortion j s p) × (total_distortion j s q ≤ total_distortion j s p)) → NoLater (Before o) p q
      no_later q a (inl h) = absurd (let n = no_less g e q a in let z = its_greatest b.among in omega arith)
      no_later q a (inr h) = let z = its_greatest b.among in b.first_of_these q (as_even a (omega (arith, h.0))) h.1

      even_best : BestOf j s even o (Admissible j m s start) p
      even_best = record { among = b.among.admissible; least_of_all = no_worse; first_of_these = no_later }

    within_claim : AimClaim j m s start even o within
    unfolding kept_open
    within_claim = record {
      none_iff = within_none;
      none_open = λ q. absurd (let r = even_claim.attained g e in within_none.0 q r.0 r.1);
      best_is = λ v q. even_best _ (claim.best_is v q);
      best_open = λ v q. ap (λ (x : ℕ). record { pins = m; limit = some x }) (sym (its_greatest (claim.best_is v q).among));
      its_distortion = claim.its_distortion;
    }

  -- without a limit the plans permitted are the admissible ones
  module _ (o : Order) where
    all : PlanningClaim j (unlimited m) s start o
    all = planning j (unlimited m) s start o counted

    all_none : (least_total j (unlimited m) s start ≡ none) ↔ ((p : List Entry) → Admissible j m s start p → ⊥)
    all_none = (λ q p a. all.none_iff.0 q p (free a), λ h. all.none_iff.1 (λ p a. h p a.admissible))

    total_best : (p : List Entry) → BestOf j s total o (Permits j (unlimited m) s start) p → BestOf j s total o (Admissible j m s start) p
    total_best p b = record {
      among = b.among.admissible;
      least_of_all = λ q a. b.least_of_all q (free a);
      first_of_these = λ q a h. b.first_of_these q (free a) h;
    }

    total_claim : AimClaim j m s start total o (unlimited m)
    unfolding kept_open
    total_claim = record {
      none_iff = all_none;
      none_open = λ q. refl;
      best_is = λ v q. total_best _ (all.best_is v q);
      best_open = λ v q. refl;
      its_distortion = all.its_distortion;
    }

    -- where there is no plan there is no limit
    nothing_claim : least_greatest j m s start ≡ none → AimClaim j m s start even o (unlimited m)
    nothing_claim e = record {
      none_iff = all_none;
      none_open = λ q. refl;
      best_is = λ v q. absurd (some_plan v q);
      best_open = λ v q. absurd (some_plan v q);
      its_distortion = all.its_distortion;
    }
      where
        some_plan : (v : ℕ) → least_total j (unlimited m) s start ≡ some v → ⊥
        some_plan v q = none-ne-some v (sym (all_none.1 (none_admissible.0 e)) ∙ q)

pub evenness : Evenness
evenness = even_claim

pub aims : Aims
unfolding open_for
aims j m s start total o counted = total_claim j m s start counted o
aims j m s start even o counted = go (least_greatest j m s start) refl
  where
    go : (x : Option ℕ) → least_greatest j m s start ≡ x → AimClaim j m s start even o (record { pins = m; limit = x })
    go none e = nothing_claim j m s start counted o e
    go (some g) e = within_claim j m s start counted o g e
