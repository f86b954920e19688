-- A step without a violation leads from a state of a layer to a state of the next: `layer_closed`.
use Prim.Native.Nat.{ℕ, suc, ◌≤◌}
use mathlib.Core.Path.{◌≡◌, refl, ap}
use mathlib.Core.Option.{Option, some}
use mathlib.Core.List.{List, [], ◌∷◌, zip_with}
use native.Mathlib.Omega.{arith}
use lib.ListN.{length}
use lib.IntN.{ℤ, pos, ◌+ℤ◌, ◌-ℤ◌}
use Rattle.trellis.specs.Table.{Closed}
use Rattle.trellis.specs.Limit.{keeps_to, limited}
use Rattle.trellis.proofs.Limit.{only_some}
use Rattle.model.specs.Job.{Bucket, Line, Levels, Job, sends, takes, distorts, intervals}
use Rattle.model.specs.Pins.{pin_at}
use Rattle.model.specs.Admissible.{holds, verify, Ending, Sound, Shows}
use Rattle.model.specs.Step.{decoder_step, reaches, after_sending, outcome_of, outcome}
use Rattle.model.specs.Best.{Order, reached, all_walks, Open, trellis_of}
use Rattle.model.specs.Table.{InLayer}
use Rattle.model.proofs.Decoder.{verified_level, decoder_steps}
use Rattle.model.proofs.Outcome.{Judged, good, outcome_judged}
use Rattle.model.proofs.Walks.{reached_some}

judged_good : {line : Line} {x : Ending} {u : Levels} → Judged line x (reaches u) → Sound line x × Shows x u
judged_good (good s h) = (s, h)

shown_one : {a b : ℕ} {z : ℤ} → pos a ≡ z → pos b ≡ z → a ≡ b
shown_one p q = cc

-- the level after a step is at most the decoder's size, since the peak before it is
held_within : (size b c r u : ℕ) → ((d : ℕ) × (verify size (pos b +ℤ pos c) ((pos b +ℤ pos c) -ℤ pos r) ≡ holds d)) → pos u ≡ (pos b +ℤ pos c) -ℤ pos r → u ≤ size
unfolding decoder_step
held_within size b c r u (d, e) shown =
    let h = ((decoder_steps size b c r).holds_iff d).0 e in
    let q = shown_one shown (verified_level size (pos b +ℤ pos c) ((pos b +ℤ pos c) -ℤ pos r) d e) in
    omega (arith, h, q)

after_sending_count : (c : ℕ) (ks : List Bucket) (ls : List ℕ) → length ls ≡ length ks → length (after_sending c ks ls) ≡ length ks
unfolding after_sending zip_with
after_sending_count c [] ls h = refl
after_sending_count c (k ∷ ks) [] h = absurd (omega arith)
after_sending_count c (k ∷ ks) (l ∷ ls) h = ap suc (after_sending_count c ks ls (omega arith))

-- of any line, pin and choice
module _ (line : Line) (pinned choice : Option ℕ) (c r : ℕ) (s u : Levels) where
  pub reaches_in_layer : length s.buckets ≡ length line.buckets → outcome_of line pinned choice s.decoder s.buckets c r ≡ reaches u → InLayer line u
  reaches_in_layer n e =
      let f = outcome_judged line pinned choice s.decoder s.buckets c r in
      let g = judged_good (rw e at f) in
      record {
        decoder = held_within line.decoder s.decoder c r u.decoder g.0.decoder g.1.decoder;
        count = rw g.1.buckets (after_sending_count c line.buckets s.buckets n);
        buckets = rw g.1.buckets g.0.buckets;
      }

  -- and the buckets hold what was after-sending into them
  pub reaches_after_sending : outcome_of line pinned choice s.decoder s.buckets c r ≡ reaches u → u.buckets ≡ after_sending c line.buckets s.buckets
  reaches_after_sending e = let f = outcome_judged line pinned choice s.decoder s.buckets c r in (judged_good (rw e at f)).1.buckets

  pub outcome_closed : InLayer line s → reached (outcome_of line pinned choice s.decoder s.buckets c r) ≡ some u → InLayer line u
  outcome_closed a k = reaches_in_layer a.count (reached_some (outcome_of line pinned choice s.decoder s.buckets c r) u k)

pub layer_closed : (j : Job) (k : Open) (o : Order) → Closed (trellis_of j k o) (intervals j) (λ t s. InLayer j.line s)
unfolding trellis_of all_walks limited outcome
layer_closed j k o t s u e h a l x = outcome_closed j.line (pin_at j k.pins (suc t)) e.choice (sends j e) (takes j (suc t) e) s u a (only_some (keeps_to k.limit (distorts j (suc t) e)) _ u x).1
