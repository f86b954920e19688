-- The best plan is read off the table, entry after entry: `ReadOff`.
use Prim.Native.Nat.{ℕ, suc, ◌+◌, ◌-◌, ◌<◌}
use mathlib.Core.Path.{◌≡◌, sym, ◌∙◌, ap}
use mathlib.Core.Bool.{true}
use mathlib.Core.Option.{some}
use mathlib.Core.List.{List, ◌∷◌}
use native.Mathlib.Omega.{arith}
use Rattle.trellis.specs.Trellis.{least, offer}
use Rattle.trellis.specs.Limit.{keeps_to, limited}
use Rattle.trellis.proofs.Limit.{kept_up_to, only_some}
use Rattle.trellis.specs.Table.{encode, first_at, Small, marked_offer}
use Rattle.trellis.proofs.Optimality.{sum_combines, Opens, best_opens}
use Rattle.trellis.proofs.Tables.{Follows, first_at_encode, marked_offer_encode}
use Rattle.model.specs.Job.{Levels, Job, distorts, intervals}
use Rattle.model.specs.Step.{reaches, outcome}
use Rattle.model.specs.Best.{Order, Before, entries, reached, all_walks, Open, trellis_of, least_by, least_total, best_plan}
use Rattle.model.specs.Table.{mark, bound, InLayer, word_at, IsTable, Bounded}
use Rattle.model.specs.Claims.{ReadOffClaim, ReadOff}
use Rattle.model.proofs.Entries.{entries_sorted}
use Rattle.model.proofs.Walks.{reached_some, least_order}
use Rattle.model.proofs.Steps.{layer_closed}
use Rattle.model.proofs.Tables.{distortions_small}

module _ (j : Job) (k : Open) (o : Order) (table : List ℕ) (t : ℕ) (s : Levels) (v : ℕ) (bounded : Bounded j) (tab : IsTable j k t table) (counted : t < intervals j) (inside : InLayer j.line s) (value : least_total j k t s ≡ some v) where
  n : ℕ
  n = intervals j - suc t

  later : (u : Levels) → least (trellis_of j k o) ◌+◌ n (suc t) u ≡ least_total j k (suc t) u
  unfolding n least_by
  later = least_order j k o ◌+◌ sum_combines (intervals j - suc t) (suc t)

  here : least (trellis_of j k o) ◌+◌ (suc n) t s ≡ some v
  unfolding n least_by
  here =
      let e : suc (intervals j - suc t) ≡ intervals j - t = omega arith in
      rw e (least_order j k o ◌+◌ sum_combines (intervals j - t) t s ∙ value)

  small : Small (trellis_of j k o) ◌+◌ mark bound (intervals j) (λ t s. InLayer j.line s)
  small = distortions_small j k o bounded ◌+◌ sum_combines (λ t s. InLayer j.line s)

  follows : Follows (trellis_of j k o) ◌+◌ mark bound t s (word_at j table (suc t)) (λ u. least (trellis_of j k o) ◌+◌ n (suc t) u)
  unfolding n
  follows = record {
    apart = small.apart;
    fits = λ e w. small.fits (suc t) e w;
    row = λ e u l x.
        let q = layer_closed j k o t s u e counted inside l x in
        (tab.holds (suc t) u (omega arith) counted q ∙ ap (encode mark) (sym (later u)), λ y r. small.values n (suc t) u y (omega arith) q r);
  }

  opens : Opens (trellis_of j k o) ◌+◌ (Before o) n t s v
  unfolding trellis_of all_walks limited
  opens = best_opens (trellis_of j k o) ◌+◌ {◌≺◌ = Before o} n t s v (entries_sorted j (suc t) o) here

  clear : v < mark
  unfolding n
  clear = let h = small.values (suc n) t s v (omega arith) inside here in omega arith

  found : first_at (marked_offer (trellis_of j k o) ◌+◌ mark bound t (word_at j table (suc t)) s) v (entries o j (suc t)) ≡ some opens.pick
  unfolding trellis_of all_walks limited
  found =
      first_at_encode mark (offer (trellis_of j k o) ◌+◌ t (λ u. least (trellis_of j k o) ◌+◌ n (suc t) u) s)
      (marked_offer (trellis_of j k o) ◌+◌ mark bound t (word_at j table (suc t)) s) v (entries o j (suc t)) clear
      (marked_offer_encode (trellis_of j k o) ◌+◌ mark bound follows)
      ∙ opens.first.found

  -- the step is an interval without a violation, up to the limit
  steps : (keeps_to k.limit (distorts j (suc t) opens.pick) ≡ true) × (reached (outcome j k.pins (suc t) s opens.pick) ≡ some opens.by.to)
  unfolding trellis_of all_walks limited
  steps = only_some (keeps_to k.limit (distorts j (suc t) opens.pick)) (reached (outcome j k.pins (suc t) s opens.pick)) opens.by.to opens.by.lands

  lands : outcome j k.pins (suc t) s opens.pick ≡ reaches opens.by.to
  lands = reached_some (outcome j k.pins (suc t) s opens.pick) opens.by.to steps.1

  adds : (w : ℕ) × (least_total j k (suc t) opens.by.to ≡ some w) × (distorts j (suc t) opens.pick + w ≡ v)
  unfolding trellis_of all_walks limited
  adds = (opens.by.rest, sym (later opens.by.to) ∙ opens.by.holds, opens.by.adds)

  rest : best_plan j k t s o ≡ opens.pick ∷ best_plan j k (suc t) opens.by.to o
  unfolding n best_plan
  rest =
      let e : intervals j - t ≡ suc (intervals j - suc t) = omega arith in
      rw e opens.path

  read_off_claim : ReadOffClaim j k o table t s v
  read_off_claim = record { entry = opens.pick; end = opens.by.to; first = found; up_to = kept_up_to k.limit (distorts j (suc t) opens.pick) steps.0; reached = lands; adds = adds; rest = rest }

pub read_off : ReadOff
read_off = read_off_claim
