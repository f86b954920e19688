-- Demand 2 of document 01: replay's levels are those of the equations, and it stops at the first violation.
use Prim.Native.Nat.{ℕ, zero, suc, ◌+◌}
use mathlib.Core.Path.{◌≡◌, refl, sym, ap}
use mathlib.Core.Logic.{◌↔◌}
use mathlib.Core.List.{List, [], ◌∷◌}
use native.Mathlib.Omega.{arith}
use lib.ListN.{length}
use Rattle.model.specs.Job.{Levels, Job, Entry}
use Rattle.model.specs.Pins.{PinMap}
use Rattle.model.specs.Admissible.{Violation, Sound, Violates, Shows, ending, SoundFor, FirstViolation, LevelsOf}
use Rattle.model.specs.Step.{Outcome, outcome}
use Rattle.model.specs.Replay.{Replay, Result, clean, stopped, written, go_on, replay}
use Rattle.model.specs.Claims.{DemandTwo}
use Rattle.model.proofs.Violations.{sound_clean, first_violation_one}
use Rattle.model.proofs.Outcome.{Judged, good, bad}
use Rattle.model.proofs.Levels.{ending_rest, first_judged}

not_stopped : {t : ℕ} {v : Violation} {A : Type 0} → ◌≡◌ {A = Result} clean (stopped t v) → A
not_stopped e = let z : ◌≡◌ {A = ℕ} 0 1 = cc in absurd (omega arith)

-- the claim in the form in which it goes from the rest of a plan to the whole
record Walked (j : Job) (m : PinMap) (s : ℕ) (start : Levels) (p : List Entry) (r : Replay) : Type 0 where
  levels : LevelsOf j m s start p r.levels
  clean_iff : (r.result ≡ clean) ↔ SoundFor j m s start p (length p)
  clean_whole : r.result ≡ clean → length r.levels ≡ length p
  stops_first : (t : ℕ) (v : Violation) → r.result ≡ stopped t v → (t ≡ s + suc (length r.levels)) × FirstViolation j m s start p (length r.levels) v

module _ (j : Job) (m : PinMap) (s : ℕ) (start : Levels) where
  replay_none : Walked j m s start [] (replay j m s start [])
  unfolding replay
  replay_none =
      record {
        levels = λ n h. absurd (omega arith);
        clean_iff = (λ e n h. absurd (omega arith), λ f. refl);
        clean_whole = λ e. refl;
        stops_first = λ t v e. not_stopped e;
      }

  module _ (e : Entry) (p : List Entry) where
    replay_stops : (v : Violation) → Violates j.line (ending j m s start (e ∷ p) 1) v → Walked j m s start (e ∷ p) (record { levels = []; result = stopped (suc s) v })
    replay_stops v h =
        record {
          levels = λ n b. absurd (omega arith);
          clean_iff = (λ q. not_stopped (sym q), λ f. absurd (sound_clean (f 0 (omega arith)) h));
          clean_whole = λ q. not_stopped (sym q);
          stops_first = λ t w q.
              let x : suc s ≡ t = cc in
              let y : v ≡ w = cc in
              (omega arith, record { counted = omega arith; before = λ k b. absurd (omega arith); here = rw (← y) h });
        }

    -- the first entry leads to the levels l
    module _ (l : Levels) (shows : Shows (ending j m s start (e ∷ p) 1) l) where
      sound_rest : (n : ℕ) → Sound j.line (ending j m s start (e ∷ p) 1) → SoundFor j m (suc s) l p n → SoundFor j m s start (e ∷ p) (suc n)
      sound_rest n h f zero b = h
      sound_rest n h f (suc k) b = rw (ending_rest j s e p m start l k shows) (f k (omega arith))

      rest_sound : SoundFor j m s start (e ∷ p) (suc (length p)) → SoundFor j m (suc s) l p (length p)
      rest_sound f k b = rw (ending_rest j s e p m start l k shows) at (f (suc k) (omega arith))

      levels_rest : (ls : List Levels) → LevelsOf j m (suc s) l p ls → LevelsOf j m s start (e ∷ p) (l ∷ ls)
      levels_rest ls f zero b = shows
      levels_rest ls f (suc n) b = rw (ending_rest j s e p m start l n shows) (f n (omega arith))

      violation_rest : (n : ℕ) (v : Violation) → Sound j.line (ending j m s start (e ∷ p) 1) → FirstViolation j m (suc s) l p n v → FirstViolation j m s start (e ∷ p) (suc n) v
      violation_rest n v h f =
          let b = f.counted in
          record { counted = omega arith; before = sound_rest n h f.before; here = rw (ending_rest j s e p m start l n shows) f.here }

      replay_goes : (r : Replay) → Sound j.line (ending j m s start (e ∷ p) 1) → Walked j m (suc s) l p r → Walked j m s start (e ∷ p) (written l r)
      unfolding written
      replay_goes r h c =
          record {
            levels = levels_rest r.levels c.levels;
            clean_iff = (λ q. sound_rest (length p) h (c.clean_iff.0 q), λ f. c.clean_iff.1 (rest_sound f));
            clean_whole = λ q. ap suc (c.clean_whole q);
            stops_first = λ t v q. let f = c.stops_first t v q in (omega arith, violation_rest (length r.levels) v h f.1);
          }

    replay_step : (o : Outcome) → Judged j.line (ending j m s start (e ∷ p) 1) o → ((l : Levels) → Walked j m (suc s) l p (replay j m (suc s) l p)) → Walked j m s start (e ∷ p) (go_on (suc s) o (λ l. replay j m (suc s) l p))
    unfolding go_on
    replay_step o (good {l} h w) ih = replay_goes l w (replay j m (suc s) l p) h (ih l)
    replay_step o (bad {v} h) ih = replay_stops v h

replay_walked : (j : Job) (m : PinMap) (s : ℕ) (start : Levels) (p : List Entry) → Walked j m s start p (replay j m s start p)
unfolding replay
replay_walked j m s start [] = replay_none j m s start
replay_walked j m s start (e ∷ p) = replay_step j m s start e p (outcome j m (suc s) start e) (first_judged j m s start e p) (λ l. replay_walked j m (suc s) l p)

module _ {j : Job} {m : PinMap} {s : ℕ} {start : Levels} {p : List Entry} {r : Replay} (c : Walked j m s start p r) where
  -- where there is a first violation, it is what the replay names
  names : (n : ℕ) (v : Violation) → FirstViolation j m s start p n v → (x : Result) → r.result ≡ x → r.result ≡ stopped (s + suc n) v
  names n v f clean e = absurd (sound_clean (c.clean_iff.0 e n f.counted) f.here)
  names n v f (stopped t w) e = let x = c.stops_first t w e in let y = first_violation_one f x.1 in cc

  named : (n : ℕ) (v : Violation) → r.result ≡ stopped (s + suc n) v → FirstViolation j m s start p n v
  named n v e =
      let x = c.stops_first (s + suc n) v e in
      let q : length r.levels ≡ n = omega arith in
      rw q at x.1

pub demand_two : DemandTwo
demand_two j m s start p =
    let c = replay_walked j m s start p in
    record {
      levels = c.levels;
      clean_iff = c.clean_iff;
      clean_whole = c.clean_whole;
      admissible_iff = λ f. (λ e. record { shaped = f; sound = c.clean_iff.0 e }, λ a. c.clean_iff.1 a.sound);
      stopped_iff = λ n v. (named c n v, λ f. names c n v f (replay j m s start p).result refl);
      stopped_after = λ t v e. (c.stops_first t v e).0;
    }
