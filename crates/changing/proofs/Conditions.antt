-- What each test asks, in the words of the claims: the new contract, the interval, the old plan up to it, and the levels that are carried.
use Prim.Native.Nat.{ℕ, zero, suc, ◌-◌, ◌≤◌, ◌<◌}
use mathlib.Core.Path.{◌≡◌, refl, sym}
use mathlib.Core.Logic.{◌↔◌}
use mathlib.Core.Bool.{true}
use mathlib.Core.Option.{Option}
use mathlib.Core.List.{List, [], ◌∷◌, zip_with}
use native.Mathlib.Omega.{arith}
use native.Mathlib.Numerals.{add-one}
use lib.ListN.{length, get_or}
use Rattle.model.specs.Job.{Bucket}
use Rattle.model.specs.Admissible.{AllWithin}
use Rattle.model.specs.Step.{overfull}
use Rattle.model.specs.Replay.{Result, clean, stopped}
use Rattle.model.proofs.Tests.{FirstOver, no_one, this, overfull_finds}
use Rattle.format.specs.Limits.{Limit, limit, kept, each_kept, AllKept}
use Rattle.format.specs.JobBytes.{Policed, largest_sizes, bucket_limits, opening, drain_limits, rate_limits}
use Rattle.format.proofs.Limits.{not_true, is_kept, of_kept, all_fit, fit_all}
use Rattle.format.proofs.Bounds.{rates_within, rate_most_from, rising_from}
use Rattle.changing.specs.NewContract.{Contract, policed_under, contract_limits}
use Rattle.changing.specs.Calls.{is_clean, none_over}
use Rattle.changing.specs.Claims.{Offers, Draining, Rising}

-- limits that are kept, as a test
kept_iff : (ls : List Limit) → (each_kept ls ≡ true) ↔ AllKept ls
kept_iff ls = (all_fit ls, λ k. sym (fit_all ls k))

-- sizes and drains, one of each for one bucket or two
abbrev empties : List ℕ → List ℕ → List Policed
empties ss ds = zip_with (λ s d. record { size = s; drain = d; fill = 0 }) ss ds

pub record InRange (n : ℕ) (ss ds : List ℕ) : Type 0 where
  pub first_size : get_or ss 0 0 ≤ 255
  pub second_size : get_or ss 1 0 ≤ 63
  pub drain : (i : ℕ) → i < n → get_or ds i 0 ≤ 4095

ranged : (n : ℕ) (ss ds : List ℕ) → 1 ≤ n → n ≤ 2 → length ss ≡ n → length ds ≡ n → AllKept (bucket_limits largest_sizes (empties ss ds)) ↔ InRange n ss ds
unfolding zip_with
ranged n [] ds a b e f = absurd (omega arith)
ranged n (s ∷ []) [] a b e f = absurd (omega arith)
ranged n (s ∷ []) (d ∷ []) a b e f = (
  λ k. record { first_size = omega arith; second_size = omega arith; drain = λ i l. at i (omega arith) (omega arith) },
  λ r. ((omega arith, omega (arith, r.first_size)), ((omega arith, omega (arith, r.drain 0 (omega arith))), ((omega arith, omega arith), tt))),
)
  where
    at : (i : ℕ) → i < 1 → d ≤ 4095 → get_or (d ∷ []) i 0 ≤ 4095
    at zero l h = h
    at (suc i) l h = absurd (omega arith)
ranged n (s ∷ []) (d ∷ x ∷ ds) a b e f = absurd (omega arith)
ranged n (s ∷ t ∷ []) [] a b e f = absurd (omega arith)
ranged n (s ∷ t ∷ []) (d ∷ []) a b e f = absurd (omega arith)
ranged n (s ∷ t ∷ []) (d ∷ x ∷ []) a b e f = (
  λ k. record { first_size = omega arith; second_size = omega arith; drain = λ i l. at i (omega arith) (omega arith) (omega arith) },
  λ r. ((omega arith, omega (arith, r.first_size)), ((omega arith, omega (arith, r.drain 0 (omega arith))), ((omega arith, omega arith), ((omega arith, omega (arith, r.second_size)), ((omega arith, omega (arith, r.drain 1 (omega arith))), ((omega arith, omega arith), tt)))))),
)
  where
    at : (i : ℕ) → i < 2 → d ≤ 4095 → x ≤ 4095 → get_or (d ∷ x ∷ []) i 0 ≤ 4095
    at zero l h k = h
    at (suc zero) l h k = k
    at (suc (suc i)) l h k = absurd (omega arith)
ranged n (s ∷ t ∷ []) (d ∷ x ∷ y ∷ ds) a b e f = absurd (omega arith)
ranged n (s ∷ t ∷ u ∷ ss) ds a b e f = absurd (omega arith)

drained : (n : ℕ) (ss ds : List ℕ) → length ss ≡ n → length ds ≡ n → ((i : ℕ) → i < n → get_or ds i 0 ≤ 4095) → AllKept (drain_limits opening (empties ss ds)) ↔ ((i : ℕ) → i < n → 1 ≤ get_or ds i 0)
unfolding zip_with
drained n [] ds e f most = (λ k i l. absurd (omega arith), λ g. tt)
drained n (s ∷ ss) [] e f most = absurd (omega arith)
drained n (s ∷ ss) (d ∷ ds) e f most =
    let ih = drained (length ss) ss ds refl (omega arith) (λ i l. most (suc i) (omega arith)) in
    (λ k i l. at (omega arith) (ih.0 k.1) i (omega arith), λ g. ((g 0 (omega arith), most 0 (omega arith)), ih.1 (λ i l. g (suc i) (omega arith))))
  where
    at : 1 ≤ d → ((i : ℕ) → i < length ss → 1 ≤ get_or ds i 0) → (i : ℕ) → i < suc (length ss) → 1 ≤ get_or (d ∷ ds) i 0
    at h g zero l = h
    at h g (suc i) l = g i (omega arith)

module _ (n : ℕ) (some_bucket : 1 ≤ n) (few : n ≤ 2) (c : Contract) where
  pub offers_iff : (each_kept (contract_limits n c) ≡ true) ↔ Offers n c
  unfolding contract_limits policed_under
  offers_iff = (
    λ e. let k = (kept_iff (contract_limits n c)).0 e in let r = (ranged n c.sizes c.drains some_bucket few (omega arith) (omega arith)).0 k.1.1.1 in
        record { sizes = omega arith; drains = omega arith; some_rate = omega arith; few_rates = omega arith; first_size = r.first_size; second_size = r.second_size; drain = r.drain },
    λ o. (kept_iff (contract_limits n c)).1 (omega (arith, o.sizes), (omega (arith, o.drains), ((o.some_rate, o.few_rates), (ranged n c.sizes c.drains some_bucket few o.sizes o.drains).1 (record { first_size = o.first_size; second_size = o.second_size; drain = o.drain })))),
  )

  pub draining_iff : Offers n c → (each_kept (drain_limits opening (policed_under c)) ≡ true) ↔ Draining n c
  unfolding policed_under
  draining_iff o =
      let d = drained n c.sizes c.drains o.sizes o.drains o.drain in
      (λ e. d.0 ((kept_iff (drain_limits opening (empties c.sizes c.drains))).0 e), λ g. (kept_iff (drain_limits opening (empties c.sizes c.drains))).1 (d.1 g))

pub rising_iff : (c : Contract) → (each_kept (rate_limits 0 c.rates) ≡ true) ↔ Rising c
rising_iff c = (
  λ e. let k = (kept_iff (rate_limits 0 c.rates)).0 e in record { most = rate_most_from 0 c.rates k; rise = λ y l. rw (add-one y) (rising_from 0 c.rates k y l) },
  λ r. (kept_iff (rate_limits 0 c.rates)).1 (rates_within 0 c.rates (λ l. omega arith) r.most (λ y l. rw (← add-one y) (r.rise y l))),
)

-- the interval of the change, of T, which is at least 1
pub within_iff : (t s : ℕ) → 1 ≤ t → (kept (limit 18 1 (t - 1) s) ≡ true) ↔ ((1 ≤ s) × (s < t))
within_iff t s h = (
  λ e. let k = of_kept (limit 18 1 (t - 1) s) e in (k.0, omega (arith, k.1)),
  λ r. is_kept (limit 18 1 (t - 1) s) (r.0, omega (arith, r.1)),
)

pub clean_is : (r : Result) → (is_clean r ≡ true) ↔ (r ≡ clean)
unfolding is_clean
clean_is clean = (λ e. refl, λ e. refl)
clean_is (stopped t v) = (λ e. not_true e, λ e. let z : ◌≡◌ {A = ℕ} 0 1 = cc in absurd (omega arith))

-- no bucket is over its size
pub within_is : (ks : List Bucket) (ls : List ℕ) → (none_over (overfull ks ls) ≡ true) ↔ AllWithin ks ls
within_is ks ls = go (overfull_finds ks ls)
  where
    go : {o : Option ℕ} → FirstOver ks ls o → (none_over o ≡ true) ↔ AllWithin ks ls
    go (no_one w) = (λ e. w, λ f. unfold none_over in refl)
    go (this {i} b f g) = (λ e. not_true (unfold none_over in e), λ w. absurd (g (w i b)))
