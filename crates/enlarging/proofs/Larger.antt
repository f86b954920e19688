-- A line with more room keeps every admissible plan and raises neither the least total nor the least greatest distortion: `LargerLaw`. Its trellis allows what the other's allows, from levels of which the decoder's is the same and no bucket's is more.
use Prim.Native.Nat.{ℕ, suc, ◌+◌, ◌-◌, ◌≤◌, max}
use mathlib.Core.Path.{◌≡◌, refl, sym, ap}
use mathlib.Core.Bool.{Bool, true, false}
use mathlib.Core.Option
use mathlib.Core.Option.{Option, none, some, none-ne-some}
use mathlib.Core.List.{List, [], ◌∷◌, zip_with, map}
use native.Mathlib.Omega.{arith}
use native.Mathlib.Nat.{le_refl}
use lib.ListN.{length, get_or}
use lib.Dec.{ltb}
use borrow.Author.Tests.{ltb-false, le-ltb}
use Rattle.trellis.specs.Minimum.{AtMost}
use Rattle.trellis.specs.Trellis.{Monotone, Simulates}
use Rattle.trellis.specs.Limit.{no_limit, keeps_to, only, limited}
use Rattle.trellis.proofs.Optimality.{sum_combines, greatest_combines}
use Rattle.trellis.proofs.Simulation.{walk_follows, least_follows}
use Rattle.std.specs.Prelude.{if◌then◌else◌}
use Rattle.model.specs.Job.{Bucket, Line, Coding, Levels, Job, Entry, on_line, sends, takes, distorts, intervals}
use Rattle.model.specs.Pins.{PinMap, pin_at}
use Rattle.model.specs.Admissible.{Violation, pin_not_held, Decoded, breaks, holds, Admissible}
use Rattle.model.specs.Step.{Outcome, violates, reaches, decoder_step, bucket_step, after_sending, overfull, or_overflow, after_decoder, pin_held, outcome_of, outcome}
use Rattle.model.specs.Best.{late, entry, width, entries, pairs, reached, all_walks, Open, unlimited, trellis_of, least_by}
use Rattle.model.proofs.Decoder.{decoder_steps}
use Rattle.model.proofs.Lines.{intervals_on, coding_on}
use Rattle.model.proofs.Walks.{reached_some, fits_length}
use Rattle.model.proofs.Planning.{walk_permitted, permitted_walk}
use Rattle.enlarging.specs.Larger.{Larger}
use Rattle.enlarging.specs.Claims.{LargerLaw}
use Rattle.enlarging.proofs.NoLess.{NoLess, no_bucket, next_bucket, no_less}

-- level by level, the second list has no more
pub data NoMore : List ℕ → List ℕ → Type 0 where
  no_level : NoMore [] []
  next_level : {l k : ℕ} {ls ks : List ℕ} → k ≤ l → NoMore ls ks → NoMore (l ∷ ls) (k ∷ ks)

no_more_refl : (ls : List ℕ) → NoMore ls ls
no_more_refl [] = no_level
no_more_refl (l ∷ ls) = next_level (le_refl l) (no_more_refl ls)

-- what is sent and drained leaves no more
sending : (c : ℕ) {ks ks' : List Bucket} {ls ls' : List ℕ} → NoLess ks ks' → NoMore ls ls' → NoMore (after_sending c ks ls) (after_sending c ks' ls')
unfolding after_sending zip_with bucket_step
sending c no_bucket no_level = no_level
sending c no_bucket (next_level h r) = no_level
sending c (next_bucket a b q) no_level = no_level
sending c (next_bucket {k = k} {k' = k'} a b q) (next_level {l = l} {k = l'} h r) =
    let less : (l' + c) - k'.drain ≤ (l + c) - k.drain = omega arith in
    next_level less (sending c q r)

-- and no bucket is over that was not
fits : {ks ks' : List Bucket} {ls ls' : List ℕ} → NoLess ks ks' → NoMore ls ls' → overfull ks ls ≡ none → overfull ks' ls' ≡ none
unfolding overfull
fits no_bucket r e = refl
fits (next_bucket a b q) no_level e = refl
fits (next_bucket {k = k} {k' = k'} {ks = ks} {ks' = ks'} a b q) (next_level {l = l} {k = l'} {ls = ls} {ks = ls'} h r) e = go (ltb k.size l) refl (overfull ks ls) (λ u. fits q r u) e
  where
    go : (over : Bool) → ltb k.size l ≡ over → (o : Option ℕ) → (o ≡ none → overfull ks' ls' ≡ none) → (if over then some 0 else Option.map suc o) ≡ none → (if ltb k'.size l' then some 0 else Option.map suc (overfull ks' ls')) ≡ none
    go true t o u e = absurd (none-ne-some _ (sym e))
    go false t (some i) u e = absurd (none-ne-some _ (sym e))
    go false t none u e = rw (le-ltb k'.size l' (omega (arith, ltb-false k.size l t)), u refl) refl

-- the second levels: the decoder's the same, no bucket's more
pub record Below (s s' : Levels) : Type 0 where
  pub same : s'.decoder ≡ s.decoder
  pub no_more : NoMore s.buckets s'.buckets

-- an outcome that violates nothing says what was tested
not_reached : {v : Violation} {u : Levels} → violates v ≡ reaches u → ⊥
not_reached e = let z : ◌≡◌ {A = ℕ} 0 1 = cc in omega arith

reaches_same : {s u : Levels} → reaches s ≡ reaches u → s ≡ u
reaches_same e = cc

-- an interval that violates nothing over a line violates nothing over one with more room, from levels below
module _ {a b : Line} (larger : Larger a b) (pinned choice : Option ℕ) (c r : ℕ) (s s' : Levels) (below : Below s s') where
  abbrev to : Line → Levels → ℕ → Levels
  to line l d = record { decoder = d; buckets = after_sending c line.buckets l.buckets }

  abbrev tested : Line → Levels → ℕ → Option ℕ → Bool → Outcome
  tested line l d over held = or_overflow over (if held then reaches (to line l d) else violates pin_not_held)

  lower : NoMore (after_sending c a.buckets s.buckets) (after_sending c b.buckets s'.buckets)
  lower = sending c (no_less larger) below.no_more

  buckets_fit : (d : ℕ) (u : Levels) (held : Bool) (over : Option ℕ) → overfull a.buckets (after_sending c a.buckets s.buckets) ≡ over → tested a s d over held ≡ reaches u → (tested b s' d (overfull b.buckets (after_sending c b.buckets s'.buckets)) held ≡ reaches (to b s' d)) × Below u (to b s' d)
  unfolding or_overflow
  buckets_fit d u held (some i) o e = absurd (not_reached e)
  buckets_fit d u false none o e = absurd (not_reached e)
  buckets_fit d u true none o e = (rw (fits (no_less larger) lower o) refl, record { same = ap (λ (l : Levels). l.decoder) (reaches_same e); no_more = rw (sym (reaches_same e)) lower })

  decoded : (o : Decoded) (u : Levels) → decoder_step a.decoder s.decoder c r ≡ o → after_decoder o (λ d. tested a s d (overfull a.buckets (after_sending c a.buckets s.buckets)) (pin_held pinned choice)) ≡ reaches u → (u' : Levels) × (outcome_of b pinned choice s.decoder s'.buckets c r ≡ reaches u') × Below u u'
  unfolding outcome_of after_decoder
  decoded (breaks v) u o e = absurd (not_reached e)
  decoded (holds d) u o e =
      let h = ((decoder_steps a.decoder s.decoder c r).holds_iff d).0 o in
      let k : decoder_step b.decoder s.decoder c r ≡ holds d = ((decoder_steps b.decoder s.decoder c r).holds_iff d).1 (omega (arith, h.0, larger.decoder), h.1) in
      let t = buckets_fit d u (pin_held pinned choice) (overfull a.buckets (after_sending c a.buckets s.buckets)) refl e in
      (to b s' d, rw k t.0, t.1)

  step : (u : Levels) → outcome_of a pinned choice s.decoder s.buckets c r ≡ reaches u → (u' : Levels) × (outcome_of b pinned choice s'.decoder s'.buckets c r ≡ reaches u') × Below u u'
  unfolding outcome_of
  step u e = rw below.same (decoded (decoder_step a.decoder s.decoder c r) u refl e)

module _ (j : Job) (line : Line) (larger : Larger j.line line) where
  abbrev J : Job
  J = on_line j line

  moves_same : (t : ℕ) → entries late J t ≡ entries late j t
  unfolding entries entry width on_line
  moves_same t = ap (λ (rates : List ℕ). map (entry j t) (pairs late (length rates) (width j t))) larger.rates

  sends_same : (e : Entry) → sends J e ≡ sends j e
  unfolding sends on_line
  sends_same e = ap (λ (rates : List ℕ). get_or rates e.rate 0) larger.rates

  takes_same : (t : ℕ) (e : Entry) → takes J t e ≡ takes j t e
  unfolding takes
  takes_same t e = ap (λ (k : Coding). k.size) (coding_on j line t e.choice)

  distorts_same : (t : ℕ) (e : Entry) → distorts J t e ≡ distorts j t e
  unfolding distorts
  distorts_same t e = ap (λ (k : Coding). k.distortion) (coding_on j line t e.choice)

  -- from levels below, an interval goes on as it did
  goes : (m : PinMap) (t : ℕ) (s s' u : Levels) (e : Entry) → Below s s' → outcome j m t s e ≡ reaches u → (u' : Levels) × (outcome J m t s' e ≡ reaches u') × Below u u'
  unfolding outcome pin_at on_line
  goes m t s s' u e below o = rw (sends_same e, takes_same t e) (step larger (pin_at j m t) e.choice (sends j e) (takes j t e) s s' below u o)

  passes : (m : PinMap) (t : ℕ) (s s' u : Levels) (e : Entry) (kept : Bool) → Below s s' → only kept (reached (outcome j m t s e)) ≡ some u → (u' : Levels) × (only kept (reached (outcome J m t s' e)) ≡ some u') × Below u u'
  unfolding only reached
  passes m t s s' u e false below o = absurd (none-ne-some u o)
  passes m t s s' u e true below o =
      let g = goes m t s s' u e below (reached_some (outcome j m t s e) u o) in
      (g.0, rw g.1 refl, g.2)

  pub simulates : (k : Open) → Simulates (trellis_of j k late) (trellis_of J k late) (λ t s s'. Below s s')
  unfolding trellis_of limited all_walks
  simulates k = record {
    listed = λ t e h. rw (moves_same t) h;
    charged = λ t e. sym (distorts_same t e);
    follows = λ t s s' e u below m o. rw (distorts_same (suc t) e) (passes k.pins (suc t) s s' u e (keeps_to k.limit (distorts j (suc t) e)) below o);
  }

  own : (s : Levels) → Below s s
  own s = record { same = refl; no_more = no_more_refl s.buckets }

  pub keeps : (m : PinMap) (s : ℕ) (start : Levels) (p : List Entry) → Admissible j m s start p → Admissible J m s start p
  keeps m s start p a =
      let n = fits_length a.shaped in
      let w = walk_follows (simulates (unlimited m)) (own start) (permitted_walk j (unlimited m) s start late (omega arith) {p = p} (record { admissible = a; up_to = no_limit })) in
      (walk_permitted J (unlimited m) s start late (omega (arith, intervals_on j line)) {p = p} (rw (intervals_on j line) w)).admissible

  pub lessens : (◌⊕◌ : ℕ → ℕ → ℕ) → Monotone ◌⊕◌ → (k : Open) (s : ℕ) (start : Levels) (v : ℕ) → least_by ◌⊕◌ j k s start ≡ some v → AtMost (least_by ◌⊕◌ J k s start) v
  unfolding least_by
  lessens ◌⊕◌ mono k s start v e = rw (intervals_on j line) (least_follows (simulates k) ◌⊕◌ mono (intervals j - s) s start start v (own start) e)

pub larger_law : LargerLaw
larger_law j line larger = record {
  keeps = keeps j line larger;
  total = λ m s start v h. lessens j line larger ◌+◌ sum_combines.monotone (unlimited m) s start v;
  greatest = λ m s start v h. lessens j line larger max greatest_combines.monotone (unlimited m) s start v;
}
