-- Layers made anew: what is kept, that each follows from the next, and that they are the job's where the layer behind them is.
use Prim.Native.Nat.{ℕ, zero, suc, ◌+◌, ◌-◌, ◌*◌, ◌<◌, ◌≤◌}
use mathlib.Core.Path.{◌≡◌, refl, sym, ◌∙◌, ap}
use mathlib.Core.List.{List, ◌++◌, append_assoc}
use native.Mathlib.Decide.{dec_lt}
use native.Mathlib.Nat.{suc-mul, add-mul, one-mul, mul-le-mul_right}
use native.Mathlib.Omega.{arith}
use lib.ListN.{length, take, drop, replicate, length-append, length-drop, length-replicate, get_or-replicate, take-append-drop}
use lib.Seq.{take_at, drop_at, drop-drop, take-take, length-take-le, take-append-le, ext_get_or}
use Rattle.trellis.specs.Trellis.{Combines}
use Rattle.model.specs.Job.{Job, intervals}
use Rattle.base.specs.Lists.{build}
use Rattle.model.specs.Best.{width, Open}
use Rattle.model.specs.Table.{layer_words, words, layer_of, Bounded}
use Rattle.base.proofs.Builds.{build_length, build_at}
use Rattle.planning.specs.Rule.{layer_from, allowed_in, refill, refilled}
use Rattle.planning.specs.Words.{layer, layers, table_from}
use Rattle.planning.proofs.Layers.{from_before, from_rest, from_length, from_layer, layer_last, layer_step}

-- a layer of zeros
zeros_are : (n : ℕ) → build n (λ i. 0) ≡ replicate n 0
zeros_are n = ext_get_or 0 (build n (λ i. 0)) (replicate n 0) (build_length n (λ i. 0) ∙ sym (length-replicate {A = ℕ} n 0)) (λ i h. let k = rw (build_length n (λ i. 0)) at h in build_at n (λ i. 0) i k ∙ sym (get_or-replicate n i 0 0 k))

module _ (◌⊕◌ : ℕ → ℕ → ℕ) (j : Job) (m : Open) where
  abbrev W : ℕ
  W = layer_words j.line

  -- a layer by the rule, from words of the next
  by_rule : ℕ → List ℕ → List ℕ
  by_rule t next = layer_from ◌⊕◌ j.line (width j (suc t)) (allowed_in j m (suc t)) next

  rule_length : (t : ℕ) (next : List ℕ) → length (by_rule t next) ≡ W
  unfolding by_rule layer_from
  rule_length t next = build_length W _

  -- one layer
  module _ (t : ℕ) (table : List ℕ) (room : suc t * W ≤ length table) where
    front : length (take (t * W) table) ≡ t * W
    front = length-take-le (t * W) table (omega (arith, suc-mul t W, room))

    refill_as : refill ◌⊕◌ j m t table ≡ take (t * W) table ++ (by_rule t (layer_of j.line table (suc t)) ++ drop (suc t * W) table)
    unfolding refill by_rule
    refill_as = refl

    two : length (take (t * W) table ++ by_rule t (layer_of j.line table (suc t))) ≡ suc t * W
    two = length-append (take (t * W) table) (by_rule t (layer_of j.line table (suc t))) ∙ omega (arith, front, rule_length t (layer_of j.line table (suc t)), suc-mul t W)

    refill_drop : drop (suc t * W) (refill ◌⊕◌ j m t table) ≡ drop (suc t * W) table
    refill_drop =
        ap (drop (suc t * W)) (refill_as ∙ sym (append_assoc (take (t * W) table) (by_rule t (layer_of j.line table (suc t))) (drop (suc t * W) table)))
        ∙ drop_at (take (t * W) table ++ by_rule t (layer_of j.line table (suc t))) (drop (suc t * W) table) (suc t * W) two

    refill_later : (u : ℕ) → t < u → drop (u * W) (refill ◌⊕◌ j m t table) ≡ drop (u * W) table
    refill_later u h =
        let e : u ≡ suc t + (u - suc t) = omega arith in
        let q : u * W ≡ suc t * W + (u - suc t) * W = ap (λ (n : ℕ). n * W) e ∙ add-mul (suc t) (u - suc t) W in
        ap (λ (n : ℕ). drop n (refill ◌⊕◌ j m t table)) q
        ∙ sym (drop-drop ((u - suc t) * W) (suc t * W) (refill ◌⊕◌ j m t table))
        ∙ ap (drop ((u - suc t) * W)) refill_drop
        ∙ drop-drop ((u - suc t) * W) (suc t * W) table
        ∙ ap (λ (n : ℕ). drop n table) (sym q)

    refill_length : length (refill ◌⊕◌ j m t table) ≡ length table
    refill_length =
        ap length (refill_as ∙ sym (append_assoc (take (t * W) table) (by_rule t (layer_of j.line table (suc t))) (drop (suc t * W) table)))
        ∙ length-append (take (t * W) table ++ by_rule t (layer_of j.line table (suc t))) (drop (suc t * W) table)
        ∙ omega (arith, two, length-drop (suc t * W) table, room)

    refill_before : take (t * W) (refill ◌⊕◌ j m t table) ≡ take (t * W) table
    refill_before = ap (take (t * W)) refill_as ∙ take_at (take (t * W) table) (by_rule t (layer_of j.line table (suc t)) ++ drop (suc t * W) table) (t * W) front

    layer_later : (u : ℕ) → t < u → layer_of j.line (refill ◌⊕◌ j m t table) u ≡ layer_of j.line table u
    unfolding layer_of
    layer_later u h = ap (take W) (refill_later u h)

    layer_made : layer_of j.line (refill ◌⊕◌ j m t table) t ≡ by_rule t (layer_of j.line table (suc t))
    unfolding layer_of
    layer_made =
        ap (take W) (ap (drop (t * W)) refill_as ∙ drop_at (take (t * W) table) (by_rule t (layer_of j.line table (suc t)) ++ drop (suc t * W) table) (t * W) front)
        ∙ take_at (by_rule t (layer_of j.line table (suc t))) (drop (suc t * W) table) W (rule_length t (layer_of j.line table (suc t)))

  -- n layers
  pub refilled_length : (n t : ℕ) (table : List ℕ) → (t + n) * W ≤ length table → length (refilled ◌⊕◌ j m t n table) ≡ length table
  unfolding refilled
  refilled_length zero t table room = refl
  refilled_length (suc n) t table room =
      let e : suc t + n ≡ t + suc n = omega arith in
      let ih = refilled_length n (suc t) table (rw e room) in
      refill_length t (refilled ◌⊕◌ j m (suc t) n table) (omega (arith, ih, room, mul-le-mul_right {m = suc t} {n = t + suc n} W (omega arith))) ∙ ih

  -- where there is room for them, and so for the first
  first_room : (n t : ℕ) (table : List ℕ) → (t + suc n) * W ≤ length table → (suc t * W ≤ length (refilled ◌⊕◌ j m (suc t) n table)) × ((suc t + n) * W ≤ length table)
  first_room n t table room =
      let e : suc t + n ≡ t + suc n = omega arith in
      (omega (arith, refilled_length n (suc t) table (rw e room), room, mul-le-mul_right {m = suc t} {n = t + suc n} W (omega arith)), rw e room)

  pub refilled_later : (n t : ℕ) (table : List ℕ) → (t + n) * W ≤ length table → (u : ℕ) → t + n ≤ u → drop (u * W) (refilled ◌⊕◌ j m t n table) ≡ drop (u * W) table
  unfolding refilled
  refilled_later zero t table room u h = refl
  refilled_later (suc n) t table room u h =
      let r = first_room n t table room in
      refill_later t (refilled ◌⊕◌ j m (suc t) n table) r.0 u (omega arith) ∙ refilled_later n (suc t) table r.1 u (omega arith)

  pub refilled_before : (n t : ℕ) (table : List ℕ) → (t + n) * W ≤ length table → take (t * W) (refilled ◌⊕◌ j m t n table) ≡ take (t * W) table
  unfolding refilled
  refilled_before zero t table room = refl
  refilled_before (suc n) t table room =
      let r = first_room n t table room in
      let k : t * W ≤ suc t * W = omega (arith, suc-mul t W) in
      refill_before t (refilled ◌⊕◌ j m (suc t) n table) r.0
      ∙ sym (take-take (t * W) (suc t * W) (refilled ◌⊕◌ j m (suc t) n table) k)
      ∙ ap (take (t * W)) (refilled_before n (suc t) table r.1)
      ∙ take-take (t * W) (suc t * W) table k

  -- each follows from the next
  pub refilled_rule : (n t : ℕ) (table : List ℕ) → (t + n) * W ≤ length table → (u : ℕ) → t ≤ u → u < t + n → layer_of j.line (refilled ◌⊕◌ j m t n table) u ≡ layer_from ◌⊕◌ j.line (width j (suc u)) (allowed_in j m (suc u)) (layer_of j.line (refilled ◌⊕◌ j m t n table) (suc u))
  unfolding refilled by_rule
  refilled_rule zero t table room u h l = absurd (omega arith)
  refilled_rule (suc n) t table room u h l = go (first_room n t table room) (λ r. refilled_rule n (suc t) table r u) (dec_lt t u)
    where
      go : (suc t * W ≤ length (refilled ◌⊕◌ j m (suc t) n table)) × ((suc t + n) * W ≤ length table) → ((suc t + n) * W ≤ length table → suc t ≤ u → u < suc t + n → layer_of j.line (refilled ◌⊕◌ j m (suc t) n table) u ≡ by_rule u (layer_of j.line (refilled ◌⊕◌ j m (suc t) n table) (suc u))) → Dec (t < u) → layer_of j.line (refill ◌⊕◌ j m t (refilled ◌⊕◌ j m (suc t) n table)) u ≡ by_rule u (layer_of j.line (refill ◌⊕◌ j m t (refilled ◌⊕◌ j m (suc t) n table)) (suc u))
      go r ih (yes k) =
          layer_later t (refilled ◌⊕◌ j m (suc t) n table) r.0 u k
          ∙ ih r.1 k (omega arith)
          ∙ ap (by_rule u) (sym (layer_later t (refilled ◌⊕◌ j m (suc t) n table) r.0 (suc u) (omega arith)))
      go r ih (no k) =
          let e : u ≡ t = omega arith in
          rw e (layer_made t (refilled ◌⊕◌ j m (suc t) n table) r.0 ∙ ap (by_rule t) (sym (layer_later t (refilled ◌⊕◌ j m (suc t) n table) r.0 (suc t) (omega arith))))

  -- a list whose layers are the job's, in pieces
  pieces : (n t : ℕ) (w : List ℕ) → ((u : ℕ) → t ≤ u → u < t + n → layer_of j.line w u ≡ layer ◌⊕◌ j m u) → drop (t * W) w ≡ layers ◌⊕◌ j m t n ++ drop ((t + n) * W) w
  unfolding layers
  pieces zero t w same = let e : t + 0 ≡ t = omega arith in rw e refl
  pieces (suc n) t w same =
      let e : suc t + n ≡ t + suc n = omega arith in
      let q : t * W + W ≡ suc t * W = omega (arith, suc-mul t W) in
      sym (take-append-drop W (drop (t * W) w))
      ∙ ap (λ (l : List ℕ). take W (drop (t * W) w) ++ l) (drop-drop W (t * W) w ∙ ap (λ (k : ℕ). drop k w) q ∙ pieces n (suc t) w (λ u h l. same u (omega arith) (omega arith)) ∙ ap (λ (k : ℕ). layers ◌⊕◌ j m (suc t) n ++ drop (k * W) w) e)
      ∙ ap (λ (l : List ℕ). l ++ (layers ◌⊕◌ j m (suc t) n ++ drop ((t + suc n) * W) w)) (here (same t (omega arith) (omega arith)))
      ∙ sym (append_assoc (layer ◌⊕◌ j m t) (layers ◌⊕◌ j m (suc t) n) (drop ((t + suc n) * W) w))
    where
      here : layer_of j.line w t ≡ layer ◌⊕◌ j m t → take W (drop (t * W) w) ≡ layer ◌⊕◌ j m t
      here h = unfold layer_of in h

  pub from_pieces : (s : ℕ) (w new : List ℕ) → s ≤ intervals j → take (s * W) new ≡ take (s * W) w → ((u : ℕ) → s ≤ u → u ≤ intervals j → layer_of j.line new u ≡ layer ◌⊕◌ j m u) → drop (words j) new ≡ drop (words j) w → new ≡ table_from ◌⊕◌ j m s w
  unfolding table_from words
  from_pieces s w new h start same rest =
      let k : s + (suc (intervals j) - s) ≡ intervals j + 1 = omega arith in
      let mid : drop (s * W) new ≡ layers ◌⊕◌ j m s (suc (intervals j) - s) ++ drop (words j) new = pieces (suc (intervals j) - s) s new (λ u l q. same u l (omega arith)) ∙ rw k in
      sym (take-append-drop (s * W) new) ∙ rw (start, mid, rest)

  -- behind a layer of the job's they are the job's
  module _ (combines : Combines ◌⊕◌) (bounded : Bounded j) where
    pub refilled_is : (n t : ℕ) (table : List ℕ) → (t + n) * W ≤ length table → t + n ≤ intervals j → layer_of j.line table (t + n) ≡ layer ◌⊕◌ j m (t + n) → (u : ℕ) → t ≤ u → u ≤ t + n → layer_of j.line (refilled ◌⊕◌ j m t n table) u ≡ layer ◌⊕◌ j m u
    unfolding refilled
    refilled_is zero t table room h last u l k = let e : t + 0 ≡ u = omega arith in rw e at last
    refilled_is (suc n) t table room h last u l k =
        let e : t + suc n ≡ suc t + n = omega arith in
        go (first_room n t table room) (λ r v p q. refilled_is n (suc t) table r (omega arith) (rw e at last) v p q) (dec_lt t u)
      where
        go : (suc t * W ≤ length (refilled ◌⊕◌ j m (suc t) n table)) × ((suc t + n) * W ≤ length table) → ((suc t + n) * W ≤ length table → (v : ℕ) → suc t ≤ v → v ≤ suc t + n → layer_of j.line (refilled ◌⊕◌ j m (suc t) n table) v ≡ layer ◌⊕◌ j m v) → Dec (t < u) → layer_of j.line (refill ◌⊕◌ j m t (refilled ◌⊕◌ j m (suc t) n table)) u ≡ layer ◌⊕◌ j m u
        go r ih (yes q) = layer_later t (refilled ◌⊕◌ j m (suc t) n table) r.0 u q ∙ ih r.1 u q (omega arith)
        go r ih (no q) =
            let z : u ≡ t = omega arith in
            rw z (layer_made t (refilled ◌⊕◌ j m (suc t) n table) r.0 ∙ ap (by_rule t) (ih r.1 (suc t) (omega arith) (omega arith)) ∙ unfold by_rule in sym (layer_step ◌⊕◌ j m combines bounded t (omega arith)))

    -- the last layer filled with 0, and the layers from s on made anew: the table from s on
    module _ (w last : List ℕ) (room : words j ≤ length w) (is : last ≡ take (intervals j * W) w ++ (replicate W 0 ++ drop W (drop (intervals j * W) w))) where
      whole : words j ≡ intervals j * W + W
      unfolding words
      whole = add-mul (intervals j) 1 W ∙ omega (arith, one-mul W)

      front_last : length (take (intervals j * W) w) ≡ intervals j * W
      front_last = length-take-le (intervals j * W) w (omega (arith, whole, room))

      last_drop : drop (intervals j * W) last ≡ replicate W 0 ++ drop W (drop (intervals j * W) w)
      last_drop = rw is (drop_at (take (intervals j * W) w) _ (intervals j * W) front_last)

      pub last_long : length last ≡ length w
      last_long =
          let b = length-append (take (intervals j * W) w) (replicate W 0 ++ drop W (drop (intervals j * W) w)) in
          let c = length-append (replicate W 0) (drop W (drop (intervals j * W) w)) in
          let d = length-drop W (drop (intervals j * W) w) in
          rw is (omega (arith, front_last, b, c, d, length-drop (intervals j * W) w, length-replicate {A = ℕ} W 0, whole, room))

      last_layer : layer_of j.line last (intervals j) ≡ layer ◌⊕◌ j m (intervals j)
      unfolding layer_of
      last_layer = rw last_drop (take_at (replicate W 0) _ W (length-replicate {A = ℕ} W 0)) ∙ sym (layer_last ◌⊕◌ j m ∙ zeros_are W)

      last_rest : drop (words j) last ≡ drop (words j) w
      last_rest =
          ap (λ (n : ℕ). drop n last) whole
          ∙ sym (drop-drop W (intervals j * W) last)
          ∙ ap (drop W) last_drop
          ∙ drop_at (replicate W 0) _ W (length-replicate {A = ℕ} W 0)
          ∙ drop-drop W (intervals j * W) w
          ∙ ap (λ (n : ℕ). drop n w) (sym whole)

      pub table_made : (s : ℕ) → s ≤ intervals j → refilled ◌⊕◌ j m s (intervals j - s) last ≡ table_from ◌⊕◌ j m s w
      unfolding words
      table_made s h =
          let e : s + (intervals j - s) ≡ intervals j = omega arith in
          let space : (s + (intervals j - s)) * W ≤ length last = rw e (omega (arith, last_long, whole, room)) in
          from_pieces s w (refilled ◌⊕◌ j m s (intervals j - s) last) h (refilled_before (intervals j - s) s last space ∙ ap (take (s * W)) is ∙ cut s (mul-le-mul_right {m = s} {n = intervals j} W h))
          (λ u l q. refilled_is (intervals j - s) s last space (omega arith) (rw e last_layer) u l (omega arith))
          (refilled_later (intervals j - s) s last space (intervals j + 1) (omega arith) ∙ last_rest)
        where
          cut : (s : ℕ) → s * W ≤ intervals j * W → take (s * W) (take (intervals j * W) w ++ (replicate W 0 ++ drop W (drop (intervals j * W) w))) ≡ take (s * W) w
          cut s l = take-append-le (s * W) (take (intervals j * W) w) _ (omega (arith, front_last)) ∙ take-take (s * W) (intervals j * W) w l

-- where other pins make a difference only before layer s + n, the table for them is made anew from there on back
module _ (◌⊕◌ : ℕ → ℕ → ℕ) (combines : Combines ◌⊕◌) (j : Job) (m m' : Open) (bounded : Bounded j) (s n : ℕ) (w : List ℕ) (h : s + n ≤ intervals j) (room : words j ≤ length w) (same : (t : ℕ) → s + n ≤ t → t ≤ intervals j → layer ◌⊕◌ j m t ≡ layer ◌⊕◌ j m' t) where
  counted : s ≤ intervals j
  counted = omega arith

  old : List ℕ
  old = table_from ◌⊕◌ j m s w

  space : (s + n) * layer_words j.line ≤ length old
  unfolding old words
  space = omega (arith, from_length ◌⊕◌ j m s w counted room, room, mul-le-mul_right {m = s + n} {n = intervals j + 1} (layer_words j.line) (omega arith))

  its_layer : (u : ℕ) → s ≤ u → u ≤ intervals j → layer_of j.line (refilled ◌⊕◌ j m' s n old) u ≡ layer ◌⊕◌ j m' u
  unfolding old layer_of
  its_layer u l k = go (dec_lt u (s + n))
    where
      go : Dec (u < s + n) → layer_of j.line (refilled ◌⊕◌ j m' s n old) u ≡ layer ◌⊕◌ j m' u
      go (yes q) = refilled_is ◌⊕◌ j m' combines bounded n s old space h (from_layer ◌⊕◌ j m s w counted room (s + n) (omega arith) h ∙ same (s + n) (omega arith) h) u l (omega arith)
      go (no q) = ap (take (layer_words j.line)) (refilled_later ◌⊕◌ j m' n s old space u (omega arith)) ∙ from_layer ◌⊕◌ j m s w counted room u l k ∙ same u (omega arith) k

  pub refilled_pins : refilled ◌⊕◌ j m' s n (table_from ◌⊕◌ j m s w) ≡ table_from ◌⊕◌ j m' s w
  unfolding old words
  refilled_pins =
      from_pieces ◌⊕◌ j m' s w (refilled ◌⊕◌ j m' s n old) counted
      (refilled_before ◌⊕◌ j m' n s old space ∙ from_before ◌⊕◌ j m s w counted room) its_layer
      (refilled_later ◌⊕◌ j m' n s old space (intervals j + 1) (omega arith) ∙ from_rest ◌⊕◌ j m s w counted room)
