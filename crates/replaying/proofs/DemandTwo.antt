-- A replay of a plan in shape is as demand 2 asks: `played_claim`; and how many numbers that is: `LevelNumbers`.
use Prim.Native.Nat.{ℕ, suc, ◌+◌, ◌*◌, ◌-◌, ◌<◌, ◌≤◌}
use mathlib.Core.Path.{◌≡◌, refl, sym, ◌∙◌, ap}
use mathlib.Core.Logic.{◌↔◌}
use mathlib.Core.List.{List}
use native.Mathlib.Omega.{arith}
use native.Mathlib.Nat.{mul-suc, mul-le-mul_left}
use lib.ListN.{length, get_or}
use lib.IntN.{pos}
use Rattle.base.specs.Answer.{Answer, gives}
use Rattle.model.specs.Job.{bucket_at, Levels, Job, Entry, intervals, PlanFits}
use Rattle.model.specs.Levels.{bucket_levels}
use Rattle.model.specs.Pins.{PinMap}
use Rattle.model.specs.Admissible.{Violation, ending, FirstViolation, LevelsOf}
use Rattle.model.specs.Replay.{Totals, totals, Result, clean, stopped, Replay, replay}
use Rattle.model.specs.Claims.{ReplayClaim}
use Rattle.model.proofs.DemandTwo.{demand_two}
use Rattle.model.proofs.Drains.{zip_length, drain_balance, unused_at, level_at}
use Rattle.model.proofs.Walks.{fits_length}
use Rattle.format.specs.Parser.{took}
use Rattle.format.specs.JobBytes.{parse, archive}
use Rattle.format.proofs.Places.{well_read}
use Rattle.format.proofs.Bounds.{limited}
use Rattle.replaying.specs.Entries.{plan_of}
use Rattle.base.specs.Lent.{over}
use Rattle.replaying.specs.Calls.{Replayed, totals_are, violated, replayed, flat, level_count, played}
use Rattle.replaying.specs.Claims.{InShape, Written, DemandTwo, LevelNumbers}
use Rattle.base.proofs.Lent.{over_length, over_here, over_rest}
use Rattle.replaying.proofs.Flat.{Each, flat_length, flat_decoder, flat_bucket}

-- the answer's case is the result's
clean_case : (s : Totals) (x : Result) → (◌≡◌ {A = Answer Replayed} (gives (replayed s x)) (gives (totals_are s))) ↔ (x ≡ clean)
unfolding replayed
clean_case s clean = (λ e. refl, λ e. refl)
clean_case s (stopped t v) = (λ e. let z : ◌≡◌ {A = ℕ} 0 1 = cc in absurd (omega arith), λ e. let z : ◌≡◌ {A = ℕ} 0 1 = cc in absurd (omega arith))

stopped_case : (s : Totals) (x : Result) (t : ℕ) (v : Violation) → (◌≡◌ {A = Answer Replayed} (gives (replayed s x)) (gives (violated t v))) ↔ (x ≡ stopped t v)
unfolding replayed
stopped_case s clean t v = (λ e. let z : ◌≡◌ {A = ℕ} 0 1 = cc in absurd (omega arith), λ e. let z : ◌≡◌ {A = ℕ} 0 1 = cc in absurd (omega arith))
stopped_case s (stopped u w) t v =
    (λ e. let p : u ≡ t = cc in let q : w ≡ v = cc in rw (p, q), λ e. let p : u ≡ t = cc in let q : w ≡ v = cc in rw (p, q))

given_case : (s t : Totals) (x : Result) → ◌≡◌ {A = Answer Replayed} (gives (replayed s x)) (gives (totals_are t)) → (x ≡ clean) × (s ≡ t)
unfolding replayed
given_case s t clean e = (refl, cc)
given_case s t (stopped n v) e = let z : ◌≡◌ {A = ℕ} 0 1 = cc in absurd (omega arith)

-- the two directions of two equivalences
both : {A B C : Type 0} → (A ↔ B) → (B ↔ C) → (A ↔ C)
both p q = (λ a. q.0 (p.0 a), λ c. p.1 (q.1 c))

module _ (j : Job) (m : PinMap) (p : List Entry) (whole : length j.start.buckets ≡ length j.line.buckets) where
  abbrev n_buckets : ℕ
  n_buckets = length j.line.buckets

  module _ (ls : List Levels) (shows : LevelsOf j m 0 j.start p ls) where
    -- the levels that the equations give have a number for each bucket
    each_whole : Each n_buckets ls
    unfolding ending bucket_levels
    each_whole i h = ap length (shows i h).buckets ∙ zip_length _ j.line.buckets j.start.buckets whole

    written : (levels : List ℕ) (n : ℕ) → length ls ≡ n → (1 + n_buckets) * n ≤ length levels → Written j m p levels n (over (flat ls) levels)
    unfolding ending
    written levels n e fits =
        let s : length (flat ls) ≡ (1 + n_buckets) * n = flat_length n_buckets ls each_whole ∙ ap (λ (i : ℕ). (1 + n_buckets) * i) e in
        let room : length (flat ls) ≤ length levels = omega arith in
        let row : (i : ℕ) → i < n → (1 + n_buckets) * i + (1 + n_buckets) ≤ length (flat ls) = λ i h. omega (arith, mul-le-mul_left {m = suc i} {n = n} (1 + n_buckets) h, mul-suc (1 + n_buckets) i) in
        record {
          decoder = λ i h. ap pos (over_here (flat ls) levels room ((1 + n_buckets) * i) (omega (arith, row i h)) ∙ flat_decoder n_buckets ls each_whole i (omega arith)) ∙ (shows i (omega arith)).decoder;
          bucket = λ i k h b.
              over_here (flat ls) levels room ((1 + n_buckets) * i + suc k) (omega (arith, row i h))
              ∙ flat_bucket n_buckets ls each_whole i k (omega arith) b
              ∙ ap (λ (bs : List ℕ). get_or bs k 0) (shows i (omega arith)).buckets
              ∙ level_at j m 0 j.start p whole k b (suc i);
          rest = over_rest (flat ls) levels room ((1 + n_buckets) * n) s;
          size = over_length (flat ls) levels room;
        }

  -- the balance of all intervals, with the last level as it stands in the list
  balanced : (levels list : List ℕ) (k : ℕ) → k < n_buckets → 1 ≤ intervals j → length p ≡ intervals j → Written j m p levels (intervals j) list → get_or j.start.buckets k 0 + (totals j 0 j.start p).channel + get_or (totals j 0 j.start p).unused k 0 ≡ intervals j * (bucket_at j.line.buckets k).drain + get_or list ((1 + n_buckets) * (intervals j - 1) + suc k) 0
  unfolding totals
  balanced levels list k b some n w =
      let i = intervals j - 1 in
      let z : suc i ≡ intervals j = omega arith in
      rw (unused_at j m 0 j.start p whole k b, n, w.bucket i k (omega arith) b, z) (drain_balance j 0 p (bucket_at j.line.buckets k) (get_or j.start.buckets k 0) (intervals j))

  -- of any replay of which the model's claim holds
  demand_two_of : (levels : List ℕ) (r : Replay) → 1 ≤ intervals j → PlanFits j 0 p → (1 + n_buckets) * intervals j ≤ length levels → ReplayClaim j m 0 j.start p r → DemandTwo j m p levels (record { answer = gives (replayed (totals j 0 j.start p) r.result); list = over (flat r.levels) levels })
  demand_two_of levels r some fits room c =
      let n = fits_length fits in
      record {
        clean_iff = both (clean_case (totals j 0 j.start p) r.result) (c.admissible_iff fits);
        clean_written = λ e. let w = c.clean_whole ((clean_case (totals j 0 j.start p) r.result).0 e) in written r.levels c.levels levels (intervals j) (omega arith) room;
        violated_iff = λ i v. both (stopped_case (totals j 0 j.start p) r.result (suc i) v) (named i v);
        violated_written = λ i v e.
            let q = (stopped_case (totals j 0 j.start p) r.result (suc i) v).0 e in
            let a = c.stopped_after (suc i) v q in
            let f = ((named i v).0 q).counted in
            written r.levels c.levels levels i (omega arith) (omega (arith, mul-le-mul_left {m = i} {n = intervals j} (1 + n_buckets) (omega arith)));
        balance = λ t k e b.
            let g = given_case (totals j 0 j.start p) t r.result e in
            let w = c.clean_whole g.0 in
            rw (← g.1) (balanced levels _ k b some (omega arith) (written r.levels c.levels levels (intervals j) (omega arith) room));
      }
    where
      named : (i : ℕ) (v : Violation) → (r.result ≡ stopped (suc i) v) ↔ FirstViolation j m 0 j.start p i v
      named i v = let e : 0 + suc i ≡ suc i = omega arith in rw e at (c.stopped_iff i v)

-- how many numbers the levels are
counted : (j : Job) → level_count j ≡ (1 + length j.line.buckets) * (length j.units + j.delay)
unfolding level_count intervals
counted j = omega arith

pub level_numbers : LevelNumbers
unfolding intervals
level_numbers j = record {
  count = counted j;
  all_of_them = λ m p fits whole e.
      let c = demand_two j m 0 j.start p in
      let n : length p ≡ length j.units + j.delay = omega (arith, fits_length fits) in
      flat_length (length j.line.buckets) (replay j m 0 j.start p).levels (each_whole j m p whole (replay j m 0 j.start p).levels c.levels)
      ∙ ap (λ (i : ℕ). (1 + length j.line.buckets) * i) (c.clean_whole e ∙ n)
      ∙ sym (counted j);
}

-- of a job that opens
pub some_intervals : (b : List ℕ) (j : Job) (n : ℕ) → parse archive b ≡ took j n → 1 ≤ intervals j
unfolding intervals
some_intervals b j n e = omega (arith, (limited j (well_read archive b j n e).well_formed).units)

pub played_claim : (b : List ℕ) (j : Job) (n : ℕ) → parse archive b ≡ took j n → (m : PinMap) (entries levels : List ℕ) → InShape j entries → (1 + length j.line.buckets) * intervals j ≤ length levels → DemandTwo j m (plan_of j entries) levels (played j m entries levels)
unfolding played
played_claim b j n parsed m entries levels fit room =
    let w = (well_read archive b j n parsed).well_formed in
    demand_two_of j m (plan_of j entries) w.fills levels _ (some_intervals b j n parsed) fit.fits room (demand_two j m 0 j.start (plan_of j entries))
