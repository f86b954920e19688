-- A sound interval violates nothing, and one that is not sound has one first violation.
use Prim.Native.Nat.{ℕ, suc, ◌<◌}
use mathlib.Core.Path.{◌≡◌, refl, sym, ◌∙◌, ap}
use mathlib.Core.List.{List}
use native.Mathlib.Omega.{arith}
use native.Mathlib.Decide.{dec_lt}
use Rattle.model.specs.Job.{Line, Levels, Job, Entry}
use Rattle.model.specs.Pins.{PinMap}
use Rattle.model.specs.Admissible.{Violation, bucket_overflow, Decoded, breaks, holds, Within, Ending, Sound, Violates, unverified, bucket, unpinned, ending, FirstViolation}
use Rattle.model.proofs.Decoder.{breaks_or_holds, one_violation}

kept_or_broken : {d : Decoded} {b : ℕ} {v : Violation} → d ≡ holds b → d ≡ breaks v → ⊥
kept_or_broken h e = breaks_or_holds (sym e ∙ h)

pub sound_clean : {line : Line} {x : Ending} {v : Violation} → Sound line x → Violates line x v → ⊥
sound_clean s (unverified e) = kept_or_broken s.decoder.1 e
sound_clean s (bucket {i} r b f g) = g (s.buckets i b)
sound_clean s (unpinned r f g) = g s.pin

-- the first number that fails is one
first_one : (P : ℕ → Type 0) (i k : ℕ) → ((n : ℕ) → n < i → P n) → (P i → ⊥) → ((n : ℕ) → n < k → P n) → (P k → ⊥) → i ≡ k
first_one P i k f g f' g' = go (dec_lt i k) (dec_lt k i)
  where
    go : Dec (i < k) → Dec (k < i) → i ≡ k
    go (yes h) d = absurd (g (f' i h))
    go (no h) (yes h') = absurd (g' (f k h'))
    go (no h) (no h') = omega arith

pub violates_one : {line : Line} {x : Ending} {v w : Violation} → Violates line x v → Violates line x w → v ≡ w
violates_one (unverified e) (unverified e') = one_violation (sym e ∙ e')
violates_one (unverified e) (bucket r b f g) = absurd (kept_or_broken r.1 e)
violates_one (unverified e) (unpinned r f g) = absurd (kept_or_broken r.1 e)
violates_one (bucket r b f g) (unverified e) = absurd (kept_or_broken r.1 e)
violates_one {line} {x} (bucket {i} r b f g) (bucket {i = k} r' b' f' g') =
    ap bucket_overflow (first_one (Within line.buckets x.buckets) i k f g f' g')
violates_one (bucket {i} r b f g) (unpinned r' f' g') = absurd (g (f' i b))
violates_one (unpinned r f g) (unverified e) = absurd (kept_or_broken r.1 e)
violates_one (unpinned r f g) (bucket {i} r' b' f' g') = absurd (g' (f i b'))
violates_one (unpinned r f g) (unpinned r' f' g') = refl

pub first_violation_one : {j : Job} {m : PinMap} {s : ℕ} {start : Levels} {p : List Entry} {n k : ℕ} {v w : Violation} → FirstViolation j m s start p n v → FirstViolation j m s start p k w → (n ≡ k) × (v ≡ w)
first_violation_one {j} {m} {s} {start} {p} {n} {k} {v} {w} f g = (q, violates_one f.here (rw (← q) at g.here))
  where
    q : n ≡ k
    q = first_one (λ i. Sound j.line (ending j m s start p (suc i))) n k f.before (λ h. sound_clean h f.here) g.before (λ h. sound_clean h g.here)
