-- The entries of an interval: those that fit it, each of them, and in tie order.
use Prim.Native.Nat.{ℕ, ◌<◌}
use mathlib.Core.Path.{◌≡◌, refl}
use mathlib.Core.Logic.{◌⊎◌, inl, inr}
use mathlib.Core.Bool.{Bool, true, false}
use mathlib.Core.Option.{Option, none, some}
use mathlib.Core.List.Memᴰ
use mathlib.Core.List.{Memᴰ}
use native.Mathlib.Omega.{arith}
use lib.Dec.{leb}
use lib.ListN.{length}
use borrow.Author.Tests.{leb-true, leb-false, le-leb, lt-leb}
use Rattle.trellis.specs.Minimum.{Sorted}
use Rattle.trellis.specs.Pairs.{Pair, pair}
use Rattle.trellis.proofs.Sorted.{sorted_map}
use Rattle.trellis.proofs.Pairs.{rows_member, member_rows, rows_sorted}
use Rattle.std.specs.Prelude.{if◌then◌else◌}
use Rattle.model.specs.Job.{Job, Entry, ChoiceFits, waits, decodes, EntryFits}
use Rattle.model.specs.Best.{Order, late, early, RateBefore, ChoiceBefore, smaller, Before, turn, pairs, entry, width, entries}

-- the places of an order: each index has one, and they go as the order does
pub turn_below : (o : Order) (n i : ℕ) → i < n → turn o n i < n
unfolding turn
turn_below late n i h = h
turn_below early n i h = omega arith

turn_back : (o : Order) (n x : ℕ) → x < n → turn o n (turn o n x) ≡ x
unfolding turn
turn_back late n x h = refl
turn_back early n x h = omega arith

turn_before : (o : Order) (n x y : ℕ) → x < y → y < n → RateBefore o (turn o n x) (turn o n y)
unfolding turn
turn_before late n x y h k = h
turn_before early n x y h k = omega arith

pub pairs_member : (o : Order) (m k : ℕ) (a : Pair) → Memᴰ a (pairs o m k) → (a.outer < m) × (a.inner < k)
unfolding pairs
pairs_member o m k a n = let r = rows_member (turn o m) m k a n in (rw r.2 (turn_below o m r.0 r.1), r.3)

member_pairs : (o : Order) (m k x y : ℕ) → x < m → y < k → Memᴰ (pair x y) (pairs o m k)
unfolding pairs
member_pairs o m k x y h q = rw (turn_back o m x h) at (member_rows (turn o m) m k (turn o m x) y (turn_below o m x h) q)

-- a pair is before another as its entry is
abbrev PairBefore : Order → Pair → Pair → Type 0
PairBefore o a b = RateBefore o a.outer b.outer ⊎ ((a.outer ≡ b.outer) × (a.inner < b.inner))

pairs_sorted : (o : Order) (m k : ℕ) → Sorted (PairBefore o) (pairs o m k)
unfolding pairs
pairs_sorted o m k = rows_sorted (PairBefore o) (turn o m) m k (λ a b x y l h p q. inl (rw (p, q) (turn_before o m x y l h))) (λ a b p q. inr (p, q))

choice_before : (k x y : ℕ) (b : Bool) → y < (if b then 1 else k) → x < y → ChoiceBefore (if b then none else some x) (if b then none else some y)
choice_before k x y true h q = absurd (omega arith)
choice_before k x y false h q = smaller q

module _ (j : Job) (t : ℕ) where
  pair_before : (o : Order) (a b : Pair) → b.inner < width j t → PairBefore o a b → Before o (entry j t a) (entry j t b)
  unfolding entry width
  pair_before o a b h (inl k) = inl k
  pair_before o a b h (inr k) = inr (k.0, choice_before _ a.inner b.inner (leb t j.delay) h k.1)

  pub entries_sorted : (o : Order) → Sorted (Before o) (entries o j t)
  unfolding entries
  entries_sorted o =
      let P = length j.line.rates in
      let W = width j t in
      sorted_map (PairBefore o) (Before o) (entry j t) (pairs o P W) (λ a b m n r. pair_before o a b (pairs_member o P W b n).1 r) (pairs_sorted o P W)

  pub listed_fits : (o : Order) {e : Entry} → Memᴰ e (entries o j t) → EntryFits j t e
  unfolding entries entry width
  listed_fits o m =
      let r = Memᴰ.of_map (entry j t) (pairs o (length j.line.rates) (width j t)) m in
      let k = pairs_member o (length j.line.rates) (width j t) r.0 r.1 in
      rw (← r.2) (record { rate = k.0; choice = go r.0.inner (leb t j.delay) refl k.1 })
    where
      go : (x : ℕ) (b : Bool) → leb t j.delay ≡ b → x < (if b then 1 else j.choices) → ChoiceFits j t (if b then none else some x)
      go x true q h = waits (leb-true t j.delay q)
      go x false q h = decodes (leb-false t j.delay q) h

  pub fits_listed : (o : Order) {e : Entry} → EntryFits j t e → Memᴰ e (entries o j t)
  unfolding entries entry width
  fits_listed o {e} f = go f.choice
    where
      at : (x : ℕ) → x < width j t → Memᴰ (entry j t (pair e.rate x)) (entries o j t)
      at x h = Memᴰ.map (entry j t) (member_pairs o (length j.line.rates) (width j t) e.rate x f.rate h)

      go : {c : Option ℕ} → ChoiceFits j t c → Memᴰ (record { rate = e.rate; choice = c }) (entries o j t)
      go (waits h) = let b = le-leb t j.delay h in Memᴰ.cast (rw b) (at 0 (rw b (omega arith)))
      go (decodes {x} h k) = let b = lt-leb t j.delay h in Memᴰ.cast (rw b) (at x (rw b k))
