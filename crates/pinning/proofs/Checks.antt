-- The test of refusal 6 holds exactly where the set matches the job: `Checks`.
use Prim.Native.Nat.{ℕ, ◌<◌, ◌≤◌}
use mathlib.Core.Path.{◌≡◌, refl}
use mathlib.Core.Logic.{◌⊎◌, inl, inr}
use mathlib.Core.Bool.{Bool, true}
use native.Mathlib.Omega.{arith}
use native.Mathlib.Decide.{dec_lt}
use lib.Dec.{eqb}
use lib.ListN.{length, get_or}
use borrow.Author.Tests.{eqb-true, eq-eqb, ltb-true, lt-ltb}
use Rattle.model.specs.Job.{Job, job_coding}
use Rattle.model.specs.Pins.{PinTotals, pin_totals}
use Rattle.base.proofs.Tests.{branch, both_true, true_both}
use Rattle.base.proofs.All.{all_each, each_all}
use Rattle.model.proofs.PinTotals.{totals_same}
use Rattle.format.specs.JobBytes.{Header, header_in, same_header}
use Rattle.format.specs.Choices.{no_choice}
use Rattle.pinning.specs.PinSet.{PinSet}
use Rattle.pinning.specs.Check.{Matches, pin_fits, pins_fit, same_totals, fits}
use Rattle.pinning.specs.Claims.{Checks}
use Rattle.format.proofs.Header.{same_is, is_same}

module _ (h : Header) where
  pub byte_kept : (i x : ℕ) → pin_fits h i x ≡ true → (x ≡ no_choice) ⊎ ((i < h.units) × (x < h.choices))
  unfolding pin_fits
  byte_kept i x =
      branch (λ (t : Bool). t ≡ true → (x ≡ no_choice) ⊎ ((i < h.units) × (x < h.choices))) (eqb x no_choice)
      (λ q e. inl (eqb-true x no_choice q))
      (λ q e. let p = both_true _ _ e in inr (ltb-true i h.units p.0, ltb-true x h.choices p.1))

  kept_byte : (i x : ℕ) → (x ≡ no_choice) ⊎ ((i < h.units) × (x < h.choices)) → pin_fits h i x ≡ true
  unfolding pin_fits
  kept_byte i x (inl e) = rw (eq-eqb x no_choice e)
  kept_byte i x (inr p) =
      branch (λ (t : Bool). t ≡ true) (eqb x no_choice) (λ q. refl)
      (λ q. true_both _ _ (lt-ltb i h.units p.0) (lt-ltb x h.choices p.1))

same_true : (a b : PinTotals) → same_totals a b ≡ true → a ≡ b
unfolding same_totals
same_true a b e =
    let p = both_true (eqb a.count b.count) _ e in
    let q = both_true (eqb a.size b.size) _ p.1 in
    let x = eqb-true a.count b.count p.0 in
    let y = eqb-true a.size b.size q.0 in
    let z = eqb-true a.distortion b.distortion q.1 in
    totals_same x y z

same_self : (a b : PinTotals) → a ≡ b → same_totals a b ≡ true
unfolding same_totals
same_self a b e = rw e (true_both _ _ (eq-eqb b.count b.count refl) (true_both _ _ (eq-eqb b.size b.size refl) (eq-eqb b.distortion b.distortion refl)))

module _ (j : Job) (s : PinSet) (few : length j.units ≤ 512) where
  fits_matches : fits (job_coding j) (header_in j) s ≡ true → Matches j s
  unfolding fits pins_fit header_in pin_totals
  fits_matches e =
      let p = both_true (same_header s.header (header_in j)) _ e in
      let q = both_true (pins_fit (header_in j) s.pins 512) _ p.1 in
      record {
        header = same_is s.header (header_in j) p.0;
        pins = λ i l. go i (byte_kept (header_in j) i (get_or s.pins i 0) (all_each _ 512 q.0 i (omega arith)));
        past = λ i l k. past i l (byte_kept (header_in j) i (get_or s.pins i 0) (all_each _ 512 q.0 i k));
        totals = same_true s.totals _ q.1;
      }
    where
      go : (i : ℕ) {x : ℕ} → (x ≡ no_choice) ⊎ ((i < length j.units) × (x < j.choices)) → (x ≡ no_choice) ⊎ (x < j.choices)
      go i (inl h) = inl h
      go i (inr h) = inr h.1

      past : (i : ℕ) {x : ℕ} → length j.units ≤ i → (x ≡ no_choice) ⊎ ((i < length j.units) × (x < j.choices)) → x ≡ no_choice
      past i l (inl h) = h
      past i l (inr h) = absurd (omega arith)

  matches_fits : Matches j s → fits (job_coding j) (header_in j) s ≡ true
  unfolding fits pins_fit header_in pin_totals
  matches_fits m =
      true_both _ _ (is_same s.header (header_in j) m.header)
      (true_both _ _ (each_all _ 512 (λ i l. kept_byte (header_in j) i (get_or s.pins i 0) (kept i l (dec_lt i (length j.units)))))
      (same_self s.totals _ m.totals))
    where
      there : (i : ℕ) {x : ℕ} → i < length j.units → (x ≡ no_choice) ⊎ (x < j.choices) → (x ≡ no_choice) ⊎ ((i < length j.units) × (x < j.choices))
      there i l (inl e) = inl e
      there i l (inr k) = inr (l, k)

      kept : (i : ℕ) → i < 512 → Dec (i < length j.units) → (get_or s.pins i 0 ≡ no_choice) ⊎ ((i < length j.units) × (get_or s.pins i 0 < j.choices))
      kept i l (yes k) = there i k (m.pins i k)
      kept i l (no k) = inl (m.past i (omega arith) l)

pub checks : Checks
checks j s few = (fits_matches j s few, matches_fits j s few)
