-- The best plan is read off a table by pairs: the first pair that offers a state's word by way of the next layer.
use Prim.Native.Nat.{ℕ, suc, ◌+◌, ◌<◌}
use mathlib.Core.Path.{◌≡◌, refl, sym, ◌∙◌}
use mathlib.Core.Bool.{true}
use mathlib.Core.Option.{Option, none, some, map, some-injective, none-ne-some}
use mathlib.Core.List.{List, ◌∷◌}
use native.Mathlib.Omega.{arith}
use lib.ListN.{length}
use Rattle.trellis.specs.Limit.{only}
use Rattle.trellis.proofs.Limit.{up_to_kept}
use Rattle.trellis.specs.Pairs.{Pair}
use Rattle.trellis.specs.Table.{encode, first_at}
use Rattle.trellis.proofs.Congruence.{first_at_member}
use Rattle.model.specs.Job.{Levels, Job, EntryFits, coding, sends, takes, distorts, intervals}
use Rattle.model.specs.Pins.{pin_at}
use Rattle.model.specs.Step.{reaches, pin_held, outcome_of, outcome}
use Rattle.model.specs.Best.{Order, pairs, entry, width, entries, Open, least_total, best_plan}
use Rattle.model.specs.Table.{InLayer, layer_of, word_at, word_in, IsTable, Bounded}
use Rattle.model.specs.Claims.{ReadOffClaim}
use Rattle.model.proofs.Entries.{pairs_member, listed_fits}
use Rattle.model.proofs.Steps.{reaches_in_layer}
use Rattle.model.proofs.Layers.{word_in_layer}
use Rattle.model.proofs.ReadOff.{read_off}
use Rattle.planning.specs.Rule.{pair_offer, choice_in, allowed_in}
use Rattle.planning.proofs.Offers.{first_is, first_offer_cong, held_step}

-- the first pair that offers v from the levels s after interval t, by way of the layer after the next, and what it leads to
pub record FirstPair (j : Job) (m : Open) (o : Order) (table : List ℕ) (t : ℕ) (s : Levels) (v : ℕ) : Type 0 where
  pub pick : Pair
  pub end : Levels
  pub first : first_at (pair_offer ◌+◌ j.line (allowed_in j m (suc t)) (word_in j.line (layer_of j.line table (suc t))) s) v (pairs o (length j.line.rates) (width j (suc t))) ≡ some pick
  pub inner : pick.inner < width j (suc t)
  pub fits : EntryFits j (suc t) (entry j (suc t) pick)
  pub allowed : allowed_in j m (suc t) pick.inner ≡ some (coding j (suc t) (entry j (suc t) pick).choice)
  pub step : outcome_of j.line none none s.decoder s.buckets (sends j (entry j (suc t) pick)) (takes j (suc t) (entry j (suc t) pick)) ≡ reaches end
  pub inside : InLayer j.line end
  pub value : ℕ
  pub least_is : least_total j m (suc t) end ≡ some value
  pub rest : best_plan j m t s o ≡ entry j (suc t) pick ∷ best_plan j m (suc t) end o

-- a member that is mapped to something
mapped : {A B : Type 0} (f : A → B) (o : Option A) (b : B) → map f o ≡ some b → (a : A) × (o ≡ some a) × (f a ≡ b)
mapped f none b e = absurd (none-ne-some b e)
mapped f (some a) b e = (a, refl, some-injective (f a) b e)

module _ (j : Job) (m : Open) (o : Order) (table : List ℕ) (t : ℕ) (s : Levels) (v : ℕ) (bounded : Bounded j) (tab : IsTable j m t table) (h : t < intervals j) (inside : InLayer j.line s) (value : least_total j m t s ≡ some v) where
  -- a state's own word
  pub here_is : word_in j.line (layer_of j.line table t) s ≡ v
  unfolding encode
  here_is = sym (word_in_layer j table t s inside) ∙ tab.holds t s (omega arith) (omega arith) inside ∙ rw value

  claim : ReadOffClaim j m o table t s v
  claim = read_off j m o table t s v bounded tab h inside value

  -- the pair of its entry
  picked : (a : Pair) × (first_at (pair_offer ◌+◌ j.line (allowed_in j m (suc t)) (word_at j table (suc t)) s) v (pairs o (length j.line.rates) (width j (suc t))) ≡ some a) × (entry j (suc t) a ≡ claim.entry)
  picked = mapped (entry j (suc t)) (first_at (pair_offer ◌+◌ j.line (allowed_in j m (suc t)) (word_at j table (suc t)) s) v (pairs o (length j.line.rates) (width j (suc t)))) claim.entry (sym (first_is ◌+◌ j m t (word_at j table (suc t)) s o v) ∙ claim.first)

  found : first_at (pair_offer ◌+◌ j.line (allowed_in j m (suc t)) (word_in j.line (layer_of j.line table (suc t))) s) v (pairs o (length j.line.rates) (width j (suc t))) ≡ some picked.0
  found = sym (first_offer_cong ◌+◌ j.line (width j (suc t)) (allowed_in j m (suc t)) (allowed_in j m (suc t)) (word_at j table (suc t)) (word_in j.line (layer_of j.line table (suc t))) s inside (λ x k. refl) (λ u k. word_in_layer j table (suc t) u k) o v) ∙ picked.1

  lands : outcome j m.pins (suc t) s (entry j (suc t) picked.0) ≡ reaches claim.end
  lands = rw picked.2 claim.reached

  its_fit : EntryFits j (suc t) (entry j (suc t) picked.0)
  its_fit = rw picked.2 (listed_fits j (suc t) o (first_at_member _ v (entries o j (suc t)) claim.entry claim.first))

  held : (pin_held (pin_at j m.pins (suc t)) (entry j (suc t) picked.0).choice ≡ true) × (outcome_of j.line none none s.decoder s.buckets (sends j (entry j (suc t) picked.0)) (takes j (suc t) (entry j (suc t) picked.0)) ≡ reaches claim.end)
  unfolding outcome
  held = held_step j.line _ _ _ _ _ _ claim.end lands

  allowed : allowed_in j m (suc t) picked.0.inner ≡ some (coding j (suc t) (entry j (suc t) picked.0).choice)
  unfolding allowed_in choice_in entry only distorts
  allowed = rw (held.0, up_to_kept (rw (← picked.2) at claim.up_to))

  pub first_pair : FirstPair j m o table t s v
  unfolding outcome
  first_pair = record {
    pick = picked.0;
    end = claim.end;
    first = found;
    inner = (pairs_member o (length j.line.rates) (width j (suc t)) picked.0 (first_at_member _ v _ picked.0 found)).1;
    fits = its_fit;
    allowed = allowed;
    step = held.1;
    inside = reaches_in_layer j.line _ _ _ _ s claim.end inside.count lands;
    value = claim.adds.0;
    least_is = claim.adds.1;
    rest = rw picked.2 claim.rest;
  }
