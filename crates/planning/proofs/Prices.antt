-- The least distortion of each size stands for all the choices of an interval: `FewPrices`, and the same for any number of sizes above the decoder's.
use Prim.Native.Nat.{ℕ, zero, suc, ◌+◌, ◌-◌, ◌*◌, ◌<◌, ◌≤◌, min}
use mathlib.Core.Path.{◌≡◌, refl, sym, ◌∙◌, ap}
use mathlib.Core.Bool.{Bool, true, false}
use mathlib.Core.Option.{Option, none, some}
use mathlib.Core.List.{List}
use native.Mathlib.Decide.{dec_lt}
use native.Mathlib.Nat.{mul-le-mul_right}
use native.Mathlib.Omega.{arith}
use borrow.Author.Tests.{lt-ltb, le-ltb, ltb-false, eq-eqb, eqb-true}
use lib.Dec.{ltb, leb, eqb}
use lib.ListN.{get_or}
use Rattle.trellis.specs.Table.{charge}
use Rattle.std.specs.Prelude.{if◌then◌else◌}
use Rattle.base.proofs.Builds.{build_cong}
use Rattle.model.specs.Job as model
use Rattle.model.specs.Table.{mark, bound, sizes, span, tops, layer_words}
use Rattle.planning.specs.Rule.{Allowed, layer_from}
use Rattle.planning.specs.Passes.{least_below, sent_from, decoded_from, charged, row_offer}
use Rattle.planning.specs.Prices.{price_at, price_open, least_price, priced_by}
use Rattle.planning.specs.Claims.{FewPrices}
use Rattle.planning.proofs.Passes.{least_marked, two_passes, decoded_rows}

-- the least of some numbers is at most each, at least what all are, and one of them if it is less than the mark
least_le : (n : ℕ) (f : ℕ → ℕ) (x : ℕ) → x < n → least_below n f ≤ f x
unfolding least_below
least_le zero f x h = absurd (omega arith)
least_le (suc n) f x h = go (λ k. least_le n f x k) (dec_lt x n)
  where
    go : (x < n → least_below n f ≤ f x) → Dec (x < n) → min (least_below n f) (f n) ≤ f x
    go ih (yes k) = let q = ih k in omega arith
    go ih (no k) = let e : x ≡ n = omega arith in rw e (omega arith)

least_ge : (n : ℕ) (f : ℕ → ℕ) (v : ℕ) → v ≤ mark → ((x : ℕ) → x < n → v ≤ f x) → v ≤ least_below n f
unfolding least_below
least_ge zero f v h k = h
least_ge (suc n) f v h k = let ih = least_ge n f v h (λ x b. k x (omega arith)) in let q = k n (omega arith) in omega arith

least_attained : (n : ℕ) (f : ℕ → ℕ) → least_below n f < mark → (x : ℕ) × (x < n) × (f x ≡ least_below n f)
unfolding least_below
least_attained zero f h = absurd (omega arith)
least_attained (suc n) f h = go (λ k. least_attained n f k) (dec_lt (least_below n f) (f n))
  where
    go : (least_below n f < mark → (x : ℕ) × (x < n) × (f x ≡ least_below n f)) → Dec (least_below n f < f n) → (x : ℕ) × (x < suc n) × (f x ≡ min (least_below n f) (f n))
    go ih (yes k) = let r = ih (omega arith) in (r.0, omega (arith, r.1), r.2 ∙ omega arith)
    go ih (no k) = (n, omega arith, omega arith)

-- a choice whose price is its size's distortion
module _ (r : ℕ) where
  priced_some : (k : Option model.Coding) → price_at r k < mark → k ≡ some (record { size = r; distortion = price_at r k })
  unfolding price_at
  priced_some none h = absurd (omega arith)
  priced_some (some k) h = go (eqb k.size r) refl h
    where
      go : (t : Bool) → eqb k.size r ≡ t → (if t then k.distortion else mark) < mark → ◌≡◌ {A = Option model.Coding} (some k) (some (record { size = r; distortion = if t then k.distortion else mark }))
      go true e b = ap (λ (s : ℕ). some (record { size = s; distortion = k.distortion })) (eqb-true k.size r e)
      go false e b = absurd (omega arith)

price_opens : (r price : ℕ) → price ≤ bound → price_open r price ≡ some (record { size = r; distortion = price })
unfolding price_open
price_opens r price h = rw (le-ltb bound price h)

layer_rows : (line : model.Line) → layer_words line ≡ (line.decoder + 1) * span (sizes line)
unfolding tops span
layer_rows line = refl

-- a lesser distortion offers no more
module _ (◌⊕◌ : ℕ → ℕ → ℕ) (mono : (a b x : ℕ) → a ≤ b → ◌⊕◌ a x ≤ ◌⊕◌ b x) where
  offer_mono : (width : ℕ) (next : List ℕ) (i r a b : ℕ) → a ≤ b → row_offer ◌⊕◌ width next i (some (record { size = r; distortion = a })) ≤ row_offer ◌⊕◌ width next i (some (record { size = r; distortion = b }))
  unfolding row_offer charged charge
  offer_mono width next i r a b h = go (ltb i (r * width)) (leb (get_or next (i - r * width) 0) bound)
    where
      go : (s t : Bool) → (if s then mark else charge mark bound ◌⊕◌ t a (get_or next (i - r * width) 0)) ≤ (if s then mark else charge mark bound ◌⊕◌ t b (get_or next (i - r * width) 0))
      go true t = omega arith
      go false true = mono a b (get_or next (i - r * width) 0) h
      go false false = omega arith

  module _ (line : model.Line) (n : ℕ) (allowed : Allowed) (m : ℕ) (prices : ℕ → ℕ) (next : List ℕ) (top : line.decoder < m) (stands : (r : ℕ) → r < m → prices r ≡ least_price n allowed r) (small : (x : ℕ) (k : model.Coding) → x < n → allowed x ≡ some k → k.distortion ≤ bound) (i : ℕ) (in_layer : i < layer_words line) where
    abbrev w : ℕ
    w = span (sizes line)

    abbrev by_choice : ℕ
    by_choice = least_below n (λ x. row_offer ◌⊕◌ w next i (allowed x))

    abbrev by_size : ℕ
    by_size = least_below m (λ r. row_offer ◌⊕◌ w next i (price_open r (prices r)))

    -- each choice offers what its size does, or more
    size_offers : (x : ℕ) (k : Option model.Coding) → x < n → allowed x ≡ k → by_size ≤ row_offer ◌⊕◌ w next i k
    unfolding least_price
    size_offers x none h e = unfold row_offer in least_marked m (λ r. row_offer ◌⊕◌ w next i (price_open r (prices r)))
    size_offers x (some k) h e = go (dec_lt k.size m)
      where
        go : Dec (k.size < m) → by_size ≤ row_offer ◌⊕◌ w next i (some k)
        go (yes b) =
            let one : price_at k.size (allowed x) ≡ k.distortion = unfold price_at in rw (e, eq-eqb k.size k.size refl) refl in
            let low = least_le n (λ y. price_at k.size (allowed y)) x h in
            let p : ℕ = prices k.size in
            let le : p ≤ k.distortion = omega (arith, stands k.size b, low, one) in
            let open_is = price_opens k.size (prices k.size) (omega (arith, small x k h e)) in
            let q = least_le m (λ r. row_offer ◌⊕◌ w next i (price_open r (prices r))) k.size b in
            let m = offer_mono w next i k.size p k.distortion le in
            omega (arith, rw open_is at q, m)
        go (no b) =
            let far = mul-le-mul_right {m = line.decoder + 1} {n = k.size} w (omega arith) in
            let size = layer_rows line in
            let q = least_marked m (λ r. row_offer ◌⊕◌ w next i (price_open r (prices r))) in
            unfold row_offer in rw (lt-ltb i (k.size * w) (omega (arith, size, far))) q

    -- and each size what one of its choices does
    choice_offers : (r : ℕ) → r < m → by_choice ≤ row_offer ◌⊕◌ w next i (price_open r (prices r))
    unfolding least_price
    choice_offers r h = go (ltb bound (prices r)) refl
      where
        marked : by_choice ≤ mark
        marked = least_marked n (λ x. row_offer ◌⊕◌ w next i (allowed x))

        go : (t : Bool) → ltb bound (prices r) ≡ t → by_choice ≤ row_offer ◌⊕◌ w next i (price_open r (prices r))
        go true e = unfold price_open row_offer in rw e marked
        go false e =
            let p : ℕ = prices r in
            let b = ltb-false bound p e in
            let s = stands r h in
            let a = least_attained n (λ x. price_at r (allowed x)) (omega (arith, s, b)) in
            let is : price_at r (allowed a.0) ≡ p = a.2 ∙ sym s in
            let some_is = priced_some r (allowed a.0) (omega (arith, is, b)) in
            let one : allowed a.0 ≡ some (record { size = r; distortion = p }) = rw is at some_is in
            let q = least_le n (λ x. row_offer ◌⊕◌ w next i (allowed x)) a.0 a.1 in
            let open_is = price_opens r (prices r) b in
            rw open_is (rw one at q)

    same_word : by_size ≡ by_choice
    same_word =
        let a = least_ge n (λ x. row_offer ◌⊕◌ w next i (allowed x)) by_size (least_marked m (λ r. row_offer ◌⊕◌ w next i (price_open r (prices r)))) (λ x h. size_offers x (allowed x) h refl) in
        let b = least_ge m (λ r. row_offer ◌⊕◌ w next i (price_open r (prices r))) by_choice (least_marked n (λ x. row_offer ◌⊕◌ w next i (allowed x))) choice_offers in
        omega arith

  pub prices_stand : (line : model.Line) (n : ℕ) (allowed : Allowed) (m : ℕ) (prices : ℕ → ℕ) (next : List ℕ) → line.decoder < m → ((r : ℕ) → r < m → prices r ≡ least_price n allowed r) → ((x : ℕ) (k : model.Coding) → x < n → allowed x ≡ some k → k.distortion ≤ bound) → layer_from ◌⊕◌ line m (λ r. price_open r (prices r)) next ≡ layer_from ◌⊕◌ line n allowed next
  prices_stand line n allowed m prices next top stands small =
      let by_size : Allowed = λ r. price_open r (prices r) in
      let between : decoded_from ◌⊕◌ line m by_size next ≡ decoded_from ◌⊕◌ line n allowed next =
      decoded_rows ◌⊕◌ line m by_size next ∙ build_cong (layer_words line) _ _ (λ i h. same_word line n allowed m prices next top stands small i h) ∙ sym (decoded_rows ◌⊕◌ line n allowed next) in
      sym (two_passes ◌⊕◌ line m by_size next) ∙ ap (sent_from line) between ∙ two_passes ◌⊕◌ line n allowed next

pub few_prices : FewPrices
unfolding priced_by
few_prices ◌⊕◌ mono line n allowed next small = prices_stand ◌⊕◌ mono line n allowed (line.decoder + 1) (least_price n allowed) next (omega arith) (λ r h. refl) small
