-- Replay, interval after interval, with any number of buckets: what is done and what is left.
use Prim.Native.Nat.{ℕ, zero, suc, ◌+◌, ◌-◌, ◌*◌, ◌<◌, ◌≤◌}
use mathlib.Core.Path.{◌≡◌, refl, sym, ◌∙◌, ap, ap₂}
use mathlib.Core.List.{List, [], ◌∷◌, ◌++◌, append_assoc, append-nil}
use native.Mathlib.Nat.{mul-suc, mul-zero}
use native.Mathlib.Numerals.{add-one}
use native.Mathlib.Omega.{arith}
use lib.ListN.{length, drop, length-append}
use Rattle.std.specs.Prelude.{Result}
use Rattle.base.specs.Answer.{gives}
use Rattle.model.specs.Job as model
use Rattle.model.specs.Job.{Bucket, bucket_at, Job, Entry, intervals, sends}
use Rattle.model.specs.Pins.{PinMap}
use Rattle.model.specs.Admissible as v
use Rattle.model.specs.Step.{violates, reaches, bucket_step, after_sending, outcome_of, outcome}
use Rattle.model.specs.Replay.{totals, Replay, stopped, written, go_on, replay}
use Rattle.model.proofs.Drains.{zip_length}
use Rattle.model.proofs.Steps.{reaches_after_sending}
use Rattle.format.specs.Choices.{choice_of}
use Rattle.format.specs.JobBytes.{Header, job_in, Opens}
use Rattle.format.proofs.Opened.{decoder_is, buckets_are}
use Rattle.replaying.specs.Entries.{entry_at, entries_from, plan_from, plan_of}
use Rattle.base.specs.Lent.{over, over_at}
use Rattle.replaying.specs.Calls.{totals_are, violated, replayed, flat, played}
use Rattle.replaying.proofs.Flat.{Each, flat_length}
use Rattle.base.proofs.Lent.{over_behind, over_at_length}
use Rattle.interval.specs.declared.Buffers.{Buffers}
use Rattle.interval.specs.declared.Interval.{Interval}
use Rattle.interval.specs.declared.Levels.{Levels}
use Rattle.parts.specs.declared.Violation.{Violation}
use Rattle.interval.specs.declared.Totals.{Totals}
use Rattle.course.specs.Answers.{IsInterval}
use Rattle.interval.specs.Answers.{levels_of, outcome_is, totals_of, line_of, OfHeader, added, no_totals}
use Rattle.interval.proofs.Adding.{Added, added_start, added_on, added_end}

module _ (b : List ℕ) (h : Header) (o : Opens b h) where
  -- buffers that the header tells are the job's
  pub buckets_of_job : (k : Buffers) → OfHeader k h → (line_of k []).buckets ≡ (job_in b).line.buckets
  buckets_of_job k e = e.buckets ∙ sym (buckets_are b h o)

  decoder_of_job : (k : Buffers) → OfHeader k h → (line_of k []).decoder ≡ (job_in b).line.decoder
  unfolding line_of
  decoder_of_job k e = e.decoder ∙ sym (decoder_is b h o)

  -- a step over the job's line answers the interval's outcome
  pub outcome_told : (k : Buffers) → OfHeader k h → (m : PinMap) (entries : List ℕ) (i : ℕ) (x : Interval) (at : Levels) → IsInterval (job_in b) m entries i x → (answer told : Result Levels Violation) → outcome_is answer ≡ outcome_of (line_of k []) (choice_of x.pin) (choice_of x.choice) at.decoder (levels_of at).buckets x.sent x.size → answer ≡ told → outcome (job_in b) m (suc i) (levels_of at) (entry_at entries i) ≡ outcome_is told
  unfolding outcome_of levels_of outcome
  outcome_told k e m entries i x at d answer told q same =
      sym (rw (same, d.pin, d.choice, d.does.sent, d.does.size, buckets_of_job k e, decoder_of_job k e) at q)

-- a replay behind levels that are written
unfoldable pub before : List model.Levels → Replay → Replay
before ls r = record { levels = ls ++ r.levels; result = r.result }

flat_more : (ls : List model.Levels) (l : model.Levels) → flat (ls ++ (l ∷ [])) ≡ flat ls ++ (l.decoder ∷ l.buckets)
unfolding flat
flat_more [] l = ap (λ (t : List ℕ). l.decoder ∷ t) (append-nil l.buckets)
flat_more (k ∷ ls) l = ap (λ (t : List ℕ). k.decoder ∷ t) (ap (λ (t : List ℕ). k.buckets ++ t) (flat_more ls l) ∙ sym (append_assoc k.buckets (flat ls) (l.decoder ∷ l.buckets)))

each_more : (n : ℕ) (ls : List model.Levels) (l : model.Levels) → length l.buckets ≡ n → Each n ls → Each n (ls ++ (l ∷ []))
each_more n [] l e f zero h = e
each_more n [] l e f (suc i) h = absurd (omega arith)
each_more n (k ∷ ls) l e f zero h = f 0 (omega arith)
each_more n (k ∷ ls) l e f (suc i) h = each_more n ls l e (λ i g. f (suc i) (omega arith)) i (omega arith)

module _ (j : Job) (m : PinMap) (entries levels₀ : List ℕ) where
  abbrev left : ℕ → List Entry
  left i = plan_from entries i (intervals j - i)

  -- how many buckets there are
  abbrev buckets : ℕ
  buckets = length j.line.buckets

  -- i intervals are done, without a violation, `each` levels written of every one
  pub record Going (each i : ℕ) (at : Levels) (sum : Totals) (levels : List ℕ) : Type 0 where
    pub done : List model.Levels
    pub count : length done ≡ i
    pub each_is : each ≡ suc buckets
    pub each_done : Each buckets done
    pub rest : replay j m 0 j.start (plan_of j entries) ≡ before done (replay j m i (levels_of at) (left i))
    pub sums : Added j (totals j 0 j.start (plan_of j entries)) i at sum (left i)
    pub list : levels ≡ flat done ++ drop (each * i) levels₀
    pub size : length levels ≡ length levels₀

  pub going_start : length j.start.buckets ≡ buckets → (each : ℕ) → each ≡ suc buckets → (at : Levels) → levels_of at ≡ j.start → (sum : Totals) (ks : List Bucket) → ks ≡ j.line.buckets → totals_of sum ≡ no_totals ks → Going each 0 at sum levels₀
  unfolding before plan_of flat
  going_start fills each n at e sum ks same q =
      let z : intervals j - 0 ≡ intervals j = omega arith in
      record {
        done = [];
        count = refl;
        each_is = n;
        each_done = λ i h. absurd (omega arith);
        rest = rw (e, z);
        sums = rw z (added_start j _ 0 at sum (plan_of j entries) (q ∙ ap no_totals same) (ap (λ (l : model.Levels). length l.buckets) e ∙ fills) (rw e));
        list = rw (mul-zero each);
        size = refl;
      }

  left_more : (i : ℕ) → i < intervals j → left i ≡ entry_at entries i ∷ left (suc i)
  unfolding entries_from
  left_more i more = let e : intervals j - i ≡ suc (intervals j - suc i) = omega arith in rw e

  module _ (each i : ℕ) (at : Levels) (sum : Totals) (levels : List ℕ) (g : Going each i at sum levels) where
    -- so many numbers are written
    done_length : length (flat g.done) ≡ each * i
    done_length = flat_length buckets g.done g.each_done ∙ ap₂ ◌*◌ (omega (arith, g.each_is)) g.count

    module _ (more : i < intervals j) where
      module _ (next : Levels) (o : outcome j m (suc i) (levels_of at) (entry_at entries i) ≡ reaches (levels_of next)) where
        abbrev new : List ℕ
        new = next.decoder ∷ (levels_of next).buckets

        sent_on : (levels_of next).buckets ≡ after_sending (sends j (entry_at entries i)) j.line.buckets (levels_of at).buckets
        unfolding outcome_of outcome
        sent_on = reaches_after_sending j.line _ _ _ _ (levels_of at) (levels_of next) o

        -- the levels that an interval reaches are as many as those before it
        pub next_count : each ≡ suc (length (levels_of next).buckets)
        unfolding after_sending
        next_count = omega (arith, g.each_is, ap length sent_on, zip_length (λ k l. (bucket_step k.drain l (sends j (entry_at entries i))).level) j.line.buckets (levels_of at).buckets g.sums.levels)

        -- an interval that reaches levels
        pub going_on : (x : Interval) (sum' : Totals) (ks : List Bucket) → ks ≡ j.line.buckets → IsInterval j m entries i x → totals_of sum' ≡ added (totals_of sum) ks (levels_of at).buckets x → ((k : ℕ) → k < buckets → (bucket_at j.line.buckets k).drain ≤ 4095) → each * i + each ≤ length levels₀ → Going each (i + 1) next sum' (over_at (each * i) new levels)
        unfolding replay go_on written before
        going_on x sum' ks same d e most room =
            let c = g.count in
            let k : each * suc i ≡ each * i + length new = omega (arith, mul-suc each i, next_count) in
            let f : flat (g.done ++ (levels_of next ∷ [])) ≡ flat g.done ++ new = unfold levels_of in flat_more g.done (levels_of next) in
            rw (add-one i) (record {
              done = g.done ++ (levels_of next ∷ []);
              count = length-append g.done (levels_of next ∷ []) ∙ omega arith;
              each_is = g.each_is;
              each_done = each_more buckets g.done (levels_of next) (omega (arith, next_count, g.each_is)) g.each_done;
              rest = g.rest ∙ rw (left_more i more, o) (ap (λ (ls : List model.Levels). record { levels = ls; result = (replay j m (suc i) (levels_of next) (left (suc i))).result }) (sym (append_assoc g.done (levels_of next ∷ []) (replay j m (suc i) (levels_of next) (left (suc i))).levels)));
              sums = added_on j _ i at sum (entry_at entries i) (left (suc i)) next x sum' (rw (left_more i more) at g.sums) d.does sent_on (e ∙ ap (λ (bs : List Bucket). added (totals_of sum) bs (levels_of at).buckets x) same) most;
              list = rw (g.list, k, f) (over_behind (flat g.done) new levels₀ (each * i) done_length);
              size = over_at_length (each * i) new levels (omega (arith, g.size, room, next_count)) ∙ g.size;
            })

      -- an interval with a violation ends it
      pub going_stop : (t : ℕ) → t ≡ suc i → (w : v.Violation) → outcome j m (suc i) (levels_of at) (entry_at entries i) ≡ violates w → record { answer = gives (violated t w); list = levels } ≡ played j m entries levels₀
      unfolding played replayed replay go_on before over
      going_stop t n w o =
          let e : replay j m 0 j.start (plan_of j entries) ≡ record { levels = g.done ++ []; result = stopped (suc i) w } = g.rest ∙ rw (left_more i more, o) in
          rw (n, e, append-nil, done_length) (ap (λ (l : List ℕ). record { answer = gives (violated (suc i) w); list = l }) g.list)

    -- all intervals are done
    pub going_end : i ≡ intervals j → record { answer = gives (totals_are (totals_of sum)); list = levels } ≡ played j m entries levels₀
    unfolding played replayed replay before over entries_from
    going_end q =
        let n : intervals j - i ≡ 0 = omega arith in
        let e = rw n at g.rest in
        let z = added_end j _ i at sum (rw n at g.sums) in
        rw (e, append-nil, done_length, ← z) (ap (λ (l : List ℕ). record { answer = gives (totals_are (totals_of sum)); list = l }) g.list)
