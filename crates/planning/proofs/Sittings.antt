-- Sittings of calls that see (document 02, E9): `Sittings`, `FreshSittings`; what planning leaves is the set's own table: `PlansOwn`; what is lent of it: `Lends`.
use Prim.Native.Nat.{ℕ, suc, ◌+◌, ◌-◌, ◌*◌, ◌≤◌}
use mathlib.Core.Path.{◌≡◌, refl, sym, ◌∙◌, ap}
use mathlib.Core.Option.{Option, none, some}
use mathlib.Core.List.{List, [], ◌∷◌, ◌++◌, append_assoc}
use native.Mathlib.Omega.{arith}
use lib.ListN.{length, take, drop, replicate, length-replicate, take-append-drop}
use lib.Seq.{take_at, drop_at, drop-append-le, length-take-le}
use Rattle.base.specs.Refusals.{refusal, unless, guarded, condition}
use Rattle.base.proofs.Refusals.{none_refuses}
use Rattle.trellis.proofs.Optimality.{sum_combines}
use Rattle.model.specs.Job.{Job, intervals}
use Rattle.model.specs.Pins.{PinMap, Call, sees}
use Rattle.model.specs.Best.{Order, late, Open, unlimited, least_total, total, open_for}
use Rattle.model.specs.Table.{layer_words, words, Bounded}
use Rattle.model.proofs.TableWords.{table_words}
use Rattle.format.specs.Parser.{took, on_read}
use Rattle.format.specs.JobBytes.{parse, opening}
use Rattle.format.specs.Claims.{InLimits}
use Rattle.format.proofs.Bounds.{bounded, limited, start_inside}
use Rattle.format.proofs.Places.{well_read}
use Rattle.pinning.specs.PinSet.{PinSet}
use Rattle.pinning.specs.Check.{checked}
use Rattle.pinning.specs.Calls.{take_in, called, call_of, click_tests, click_in, click, after, run_clicks}
use Rattle.pinning.proofs.Agree.{checked_parsed, passes_matches}
use Rattle.pinning.proofs.History.{Holds, holds_matches, matches_holds, click_follows, holds_checked, one_set_of}
use Rattle.pinning.proofs.Refusals.{sees_decides}
use Rattle.planning.specs.Words.{layer, layers, table_from}
use Rattle.planning.specs.Calls.{searched, search_in, plan_call}
use Rattle.planning.specs.See.{keep, unit_of, renewed, seen, see_in, see_call, Sight, lent, Sat, sat, sight, sit, clicks_of}
use Rattle.planning.specs.Seeing.{pins_of, Own, SittingClaim, PlansOwn, Lends, Sittings, FreshSittings}
use Rattle.planning.proofs.DemandThree.{plan_searches, plan_checked}
use Rattle.planning.proofs.Layers.{from_rest, from_length, from_table}
use Rattle.planning.proofs.Refilling.{refilled_pins}
use Rattle.planning.proofs.Seeing.{asks_unit, same_layer, other_lines, see_clicks}

-- a table from its first layer on: its layers, and what stands behind them
module _ (j : Job) (k : Open) where
  whole : (w : List ℕ) → table_from ◌+◌ j k 0 w ≡ layers ◌+◌ j k 0 (suc (intervals j)) ++ drop (words j) w
  unfolding table_from
  whole w =
      let z : 0 * layer_words j.line ≡ 0 = omega arith in
      let y : suc (intervals j) - 0 ≡ suc (intervals j) = omega arith in
      rw (z, y)

  -- over two pieces, of which the first is long enough
  from_append : (a c : List ℕ) → words j ≤ length a → table_from ◌+◌ j k 0 (a ++ c) ≡ table_from ◌+◌ j k 0 a ++ c
  from_append a c h =
      whole (a ++ c)
      ∙ ap (λ (l : List ℕ). layers ◌+◌ j k 0 (suc (intervals j)) ++ l) (drop-append-le (words j) a c h)
      ∙ sym (append_assoc (layers ◌+◌ j k 0 (suc (intervals j))) (drop (words j) a) c)
      ∙ ap (λ (l : List ℕ). l ++ c) (sym (whole a))

  -- over a table of other pins
  from_again : (other : Open) (w : List ℕ) → words j ≤ length w → table_from ◌+◌ j k 0 (table_from ◌+◌ j other 0 w) ≡ table_from ◌+◌ j k 0 w
  from_again other w h =
      whole (table_from ◌+◌ j other 0 w)
      ∙ ap (λ (l : List ℕ). layers ◌+◌ j k 0 (suc (intervals j)) ++ l) (from_rest ◌+◌ j other 0 w (omega arith) h)
      ∙ sym (whole w)

-- the table that planning leaves, the total named: found or not
searched_table : (j : Job) (m : PinMap) (o : Order) (v : Option ℕ) (table entries : List ℕ) → (searched j (unlimited m) o 0 j.start v table entries).table ≡ table_from ◌+◌ j (unlimited m) 0 table
unfolding searched
searched_table j m o none table entries = refl
searched_table j m o (some v) table entries = refl

module _ (b : List ℕ) (j : Job) (n : ℕ) where
  plan_table : (s : PinSet) → checked opening b s ≡ took j n → (o : Order) (table entries : List ℕ) → words j ≤ length table → 3 * intervals j ≤ length entries → (plan_call b s total o table entries).table ≡ table_from ◌+◌ j (unlimited (pins_of j s)) 0 table
  unfolding search_in open_for
  plan_table s c o table entries room space =
      rw (plan_checked b j n s c total o table entries, plan_searches j (pins_of j s) total o 0 j.start table entries room (omega arith)) (searched_table j (pins_of j s) o (least_total j (unlimited (pins_of j s)) 0 j.start) table entries)

  module _ (parsed : parse opening b ≡ took j n) (table₀ : List ℕ) (room : words j ≤ length table₀) where
    limits : InLimits j
    limits = limited j (well_read opening b j n parsed).well_formed

    small : Bounded j
    small = bounded j (well_read opening b j n parsed).well_formed

    -- between two calls: the set holds its own lines, and the table is the one that planning makes for it over the first list
    record At (r : Sat) : Type 0 where
      holds : Holds j (pins_of j r.set) r.set
      is : r.table ≡ table_from ◌+◌ j (unlimited (pins_of j r.set)) 0 table₀

    module _ (r : Sat) (at : At r) (k : Call) (size : ℕ) (few : size ≤ length table₀) where
      abbrev s : PinSet
      s = r.set

      -- the part that is lent, and the rest
      a : List ℕ
      a = take size table₀

      c : List ℕ
      c = drop size table₀

      long : length a ≡ size
      unfolding a
      long = length-take-le size table₀ few

      lent_part : words j ≤ size → (take size r.table ≡ table_from ◌+◌ j (unlimited (pins_of j s)) 0 a) × (drop size r.table ≡ c)
      unfolding a c
      lent_part h =
          let X = table_from ◌+◌ j (unlimited (pins_of j s)) 0 a in
          let e : r.table ≡ X ++ c = at.is ∙ ap (table_from ◌+◌ j (unlimited (pins_of j s)) 0) (sym (take-append-drop size table₀)) ∙ from_append j (unlimited (pins_of j s)) a c (omega (arith, long)) in
          let l : length X ≡ size = from_length ◌+◌ j (unlimited (pins_of j s)) 0 a (omega arith) (omega (arith, long)) ∙ long in
          rw e (take_at X c size l, drop_at X c size l)

      -- a call that is taken
      module _ (passes : refusal (click_tests j s (sees k size)) ≡ none) where
        asked : (1 ≤ unit_of k) × (unit_of k ≤ length j.units) × (words j ≤ size)
        asked = let h = asks_unit j s k (condition 11 (words j ≤ size) ∷ []) (none_refuses (sees_decides j s k size) passes) in (h.0, h.1, h.2.0)

        new_holds : Holds j (pins_of j (called j s k)) (called j s k)
        unfolding click_in guarded unless call_of take_in
        new_holds =
            let f = click_follows j limits (pins_of j s) s at.holds (sees k size) in
            its_own (rw passes at f.holds)
          where
            its_own : {m : PinMap} → Holds j m (called j s k) → Holds j (pins_of j (called j s k)) (called j s k)
            its_own h = rw (← h.pins) at h

        new_table : renewed j (pins_of j (called j s k)) (unit_of k) (take size r.table) ++ drop size r.table ≡ table_from ◌+◌ j (unlimited (pins_of j (called j s k))) 0 table₀
        unfolding renewed
        new_table =
            let m = unlimited (pins_of j s) in
            let m' = unlimited (pins_of j (called j s k)) in
            let p = lent_part asked.2 in
            let same : (t : ℕ) → 0 + (unit_of k + j.delay) ≤ t → t ≤ intervals j → layer ◌+◌ j m t ≡ layer ◌+◌ j m' t = λ t l h. same_layer ◌+◌ sum_combines j (pins_of j s) (pins_of j (called j s k)) small (unit_of k) (other_lines j s k asked.0 asked.1) (intervals j - t) t (omega arith) (omega arith) in
            rw (p.0, p.1) (ap (λ (l : List ℕ). l ++ c) (refilled_pins ◌+◌ sum_combines j m m' small 0 (unit_of k + j.delay) a (counted asked.1) (omega (arith, long, asked.2)) same))
            ∙ sym (from_append j m' a c (omega (arith, long, asked.2)))
            ∙ ap (table_from ◌+◌ j m' 0) (unfold a c in take-append-drop size table₀)
          where
            counted : unit_of k ≤ length j.units → 0 + (unit_of k + j.delay) ≤ intervals j
            counted h = unfold intervals in omega arith

      -- one call more, taken or refused
      step : At (sat (see_call b s k (take size r.table)) (drop size r.table))
      unfolding see_call on_read see_in guarded
      step = rw (holds_checked b j n parsed limits _ s at.holds, lent_length) (go (refusal (click_tests j s (sees k size))) refl)
        where
          lent_length : length (take size r.table) ≡ size
          lent_length = length-take-le size r.table (omega (arith, ap length at.is, from_length ◌+◌ j (unlimited (pins_of j s)) 0 table₀ (omega arith) room))

          go : (o : Option ℕ) → refusal (click_tests j s (sees k size)) ≡ o → At (sat (unless (keep s (take size r.table)) o (seen j (called j s k) (unit_of k) (take size r.table))) (drop size r.table))
          go (some x) e = unfold unless keep sat in (record { holds = at.holds; is = take-append-drop size r.table ∙ at.is })
          go none e = unfold unless seen sat in (record { holds = new_holds e; is = new_table e })

    -- all calls: the set is the clicks'
    record Sits (r : Sat) (sights : List Sight) (q : Sat) : Type 0 where
      at : At q
      set_is : q.set ≡ (run_clicks b r.set (clicks_of (length table₀) sights)).set

    table_long : (r : Sat) → At r → length r.table ≡ length table₀
    table_long r at = ap length at.is ∙ from_length ◌+◌ j (unlimited (pins_of j r.set)) 0 table₀ (omega arith) room

    sight_set : (r : Sat) (v : Sight) → length r.table ≡ length table₀ → (sight b r v).set ≡ (click b r.set (sees v.call (length table₀ - v.held_back))).set
    unfolding sight sat lent
    sight_set r v l = (see_clicks b r.set v.call (take (length r.table - v.held_back) r.table)).0 ∙ ap (λ (i : ℕ). (click b r.set (sees v.call i)).set) (length-take-le (length r.table - v.held_back) r.table (omega arith) ∙ omega arith)

    sitting : (r : Sat) → At r → (sights : List Sight) → Sits r sights (sit b r sights)
    unfolding sit clicks_of run_clicks after
    sitting r at [] = record { at = at; set_is = refl }
    sitting r at (v ∷ vs) =
        let l = table_long r at in
        let q : At (sight b r v) = unfold sight lent in step r at v.call (length r.table - v.held_back) (omega arith) in
        let rest = sitting (sight b r v) q vs in
        record { at = rest.at; set_is = rest.set_is ∙ ap (λ (s : PinSet). (run_clicks b s (clicks_of (length table₀) vs)).set) (sight_set r v l) }

-- the table that planning leaves is the set's own
pub plans_own : PlansOwn
plans_own b j n s c o table entries room space r others enough =
    let m = unlimited (pins_of j s) in
    let e = plan_table b j n s c o table entries room space in
    let l = from_length ◌+◌ j m 0 table (omega arith) room in
    rw e (plan_table b j n s c r (table_from ◌+◌ j m 0 table) others (omega (arith, l)) enough ∙ from_again j m m table room)

pub lends : Lends
unfolding lent
lends v table h = omega arith

own_table : (b : List ℕ) (j : Job) (n : ℕ) (parsed : parse opening b ≡ took j n) (table : List ℕ) (room : words j ≤ length table) (s : PinSet) → checked opening b s ≡ took j n → Holds j (pins_of j s) s → Own b j s table → At b j n parsed table room (record { set = s; table = table })
own_table b j n parsed table room s c h own =
    let entries = replicate {A = ℕ} (3 * intervals j) 0 in
    let space : 3 * intervals j ≤ length entries = omega (arith, length-replicate {A = ℕ} (3 * intervals j) 0) in
    record { holds = h; is = sym (own late entries space) ∙ plan_table b j n s c late table entries room space }

pub sittings : Sittings
sittings b j n s c size table room own sights =
    let parsed = checked_parsed opening b s j n c in
    let k = limited j (well_read opening b j n parsed).well_formed in
    let begins = own_table b j n parsed table room s c (matches_holds j s k (passes_matches opening b j n parsed s c) size) own in
    claimed b j n parsed table room s sights (sitting b j n parsed table room (record { set = s; table = table }) begins sights)
  where
    claimed : (b : List ℕ) (j : Job) (n : ℕ) (parsed : parse opening b ≡ took j n) (table : List ℕ) (room : words j ≤ length table) (s : PinSet) (sights : List Sight) {q : Sat} → Sits b j n parsed table room (record { set = s; table = table }) sights q → SittingClaim b j s table sights q
    claimed b j n parsed table room s sights {q} h =
        let c = holds_checked b j n parsed (limits b j n parsed table room) _ q.set h.at.holds in
        let m = unlimited (pins_of j q.set) in
        let e = h.at.is in
        let l : length q.table ≡ length table = table_long b j n parsed table room q h.at in
        record {
          set_is = h.set_is;
          table_is = λ o entries space. e ∙ sym (plan_table b j n q.set c o table entries room space);
          own = λ o entries space. plan_table b j n q.set c o q.table entries (omega (arith, l)) space ∙ ap (table_from ◌+◌ j m 0) e ∙ from_again j m m table room ∙ sym e;
          word = table_words j m 0 q.table (small b j n parsed table room) (rw e (from_table j m 0 table (omega arith) room)) 0 j.start (omega arith) (omega arith) (start_inside j (limits b j n parsed table room));
        }

pub fresh_sittings : FreshSittings
fresh_sittings b j n s c size table room own sights r d full same o entries space =
    let parsed = checked_parsed opening b s j n c in
    let k = limited j (well_read opening b j n parsed).well_formed in
    let begins = own_table b j n parsed table room s c (matches_holds j s k (passes_matches opening b j n parsed s c) size) own in
    let q = sitting b j n parsed table room (record { set = s; table = table }) begins sights in
    let end = sit b (record { set = s; table = table }) sights in
    let one : r ≡ end.set = one_set_of opening b j n parsed r end.set (passes_matches opening b j n parsed r d) (holds_matches j k _ end.set q.at.holds) full q.at.holds.size same in
    let claim = sittings b j n s c size table room own sights in
    ap (λ (t : List ℕ). record { set = end.set; table = t }) (claim.table_is o entries space) ∙ ap (λ (u : PinSet). record { set = u; table = (plan_call b u total o table entries).table }) (sym one)
