-- The totals of a map of pins: what a line that is filled or emptied changes, which codings they read, and how large they are.
use Prim.Native.Nat.{ℕ, zero, suc, ◌*◌, ◌<◌, ◌≤◌}
use mathlib.Core.Path.{◌≡◌, refl, sym, ◌∙◌, ap}
use mathlib.Core.Option.{Option, none, some}
use native.Mathlib.Omega.{arith}
use native.Mathlib.Decide.{dec_lt}
use lib.ListN.{length, get_or, set, length-set, get_or-replicate}
use lib.Seq.{get_or-set_same, get_or-set_other, set-set, set-get_or}
use Rattle.model.specs.Job.{Coding}
use Rattle.model.specs.Pins.{PinMap, PinTotals, no_totals, no_pins, with_line, totals_to}

pub totals_same : {a b c a' b' c' : ℕ} → a ≡ a' → b ≡ b' → c ≡ c' → ◌≡◌ {A = PinTotals} (record { count = a; size = b; distortion = c }) (record { count = a'; size = b'; distortion = c' })
totals_same p q r = cc

-- two lines are counted in either order
lines_swap : (f g : ℕ → Coding) (o : Option ℕ) (x : ℕ) (s : PinTotals) → with_line f o (with_line g (some x) s) ≡ with_line g (some x) (with_line f o s)
unfolding with_line
lines_swap f g none x s = refl
lines_swap f g (some y) x s = totals_same (omega arith) (omega arith) (omega arith)

module _ (f : ℕ → ℕ → Coding) where
  -- a line is not counted before it is come to
  pub totals_before : (m : PinMap) (i : ℕ) (o : Option ℕ) (n : ℕ) → n ≤ i → totals_to f (set m i o) n ≡ totals_to f m n
  unfolding totals_to
  totals_before m i o zero h = refl
  totals_before m i o (suc n) h = rw (get_or-set_other m i n o none (λ e. omega arith), totals_before m i o n (omega arith))

  -- filling an empty line counts its coding once
  pub totals_filled : (m : PinMap) (i x n : ℕ) → i < n → i < length m → get_or m i none ≡ none → totals_to f (set m i (some x)) n ≡ with_line (f i) (some x) (totals_to f m n)
  unfolding totals_to
  totals_filled m i x zero h l e = absurd (omega arith)
  totals_filled m i x (suc n) h l e = go (λ k. totals_filled m i x n k l e) (dec_lt i n)
    where
      go : (i < n → totals_to f (set m i (some x)) n ≡ with_line (f i) (some x) (totals_to f m n)) → Dec (i < n) → with_line (f n) (get_or (set m i (some x)) n none) (totals_to f (set m i (some x)) n) ≡ with_line (f i) (some x) (with_line (f n) (get_or m n none) (totals_to f m n))
      go ih (yes k) = rw (get_or-set_other m i n (some x) none (λ q. omega arith), ih k) (lines_swap (f n) (f i) (get_or m n none) x (totals_to f m n))
      go ih (no k) =
          let q : n ≡ i = omega arith in
          rw (q, get_or-set_same m i (some x) none l, totals_before m i (some x) i (omega arith), e) (unfold with_line in refl)

  -- emptying a line takes its coding off again
  pub totals_emptied : (m : PinMap) (i x n : ℕ) → i < n → i < length m → get_or m i none ≡ some x → totals_to f m n ≡ with_line (f i) (some x) (totals_to f (set m i none) n)
  totals_emptied m i x n h l e =
      let back : set (set m i none) i (some x) ≡ m = set-set m i none (some x) ∙ ap (set m i) (sym e) ∙ set-get_or m i none in
      let r = totals_filled (set m i none) i x n h (rw length-set l) (get_or-set_same m i none none l) in
      rw back at r

  pub totals_none : (k n : ℕ) → n ≤ k → totals_to f (no_pins k) n ≡ no_totals
  unfolding totals_to no_pins with_line
  totals_none k zero h = refl
  totals_none k (suc n) h = rw (get_or-replicate {A = Option ℕ} k n none none (omega arith), totals_none k n (omega arith))

-- only the codings of the lines with a choice are read
pub totals_agree : (f g : ℕ → ℕ → Coding) (m : PinMap) (n : ℕ) → ((i x : ℕ) → i < n → get_or m i none ≡ some x → f i x ≡ g i x) → totals_to f m n ≡ totals_to g m n
unfolding totals_to
totals_agree f g m zero h = refl
totals_agree f g m (suc n) h = rw (totals_agree f g m n (λ i x k e. h i x (omega arith) e)) (go (get_or m n none) refl)
  where
    go : (o : Option ℕ) → get_or m n none ≡ o → with_line (f n) o (totals_to g m n) ≡ with_line (g n) o (totals_to g m n)
    go none e = unfold with_line in refl
    go (some x) e = unfold with_line in (rw (h n x (omega arith) e))

-- a coding within limits of its size and its distortion
pub record CodingWithin (size distortion : ℕ) (c : Coding) : Type 0 where
  pub size_most : c.size ≤ size
  pub distortion_most : c.distortion ≤ distortion

-- and so many of them
pub record TotalsWithin (size distortion n : ℕ) (s : PinTotals) : Type 0 where
  pub count_most : s.count ≤ n
  pub size_most : s.size ≤ n * size
  pub distortion_most : s.distortion ≤ n * distortion

module _ (a b : ℕ) (f : ℕ → ℕ → Coding) where
  line_within : (n : ℕ) (o : Option ℕ) (s : PinTotals) → ((x : ℕ) → o ≡ some x → CodingWithin a b (f n x)) → TotalsWithin a b n s → TotalsWithin a b (suc n) (with_line (f n) o s)
  unfolding with_line
  line_within n none s h t = let k = t in record {
    count_most = omega arith;
    size_most = omega arith;
    distortion_most = omega arith;
  }
  line_within n (some x) s h t = let c = h x refl in record {
    count_most = omega arith;
    size_most = omega arith;
    distortion_most = omega arith;
  }

  pub totals_within : (m : PinMap) (n : ℕ) → ((i x : ℕ) → i < n → get_or m i none ≡ some x → CodingWithin a b (f i x)) → TotalsWithin a b n (totals_to f m n)
  unfolding totals_to
  totals_within m zero h = record { count_most = omega arith; size_most = omega arith; distortion_most = omega arith }
  totals_within m (suc n) h = line_within n (get_or m n none) (totals_to f m n) (λ x e. h n x (omega arith) e) (totals_within m n (λ i x k e. h i x (omega arith) e))
