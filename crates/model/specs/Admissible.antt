-- What is asked of a plan: the limits kept by the levels of the equations and the pins held, and which limit is violated first. Nothing here knows replay or search.
use Rattle.std.specs.Prelude.{ℕ, suc, ◌+◌, ◌<◌, ◌≤◌, ◌≡◌, List, length, get_or, ℤ, pos, nat_abs, if◌then◌else◌}
use Rattle.std.proofs.Math.Option.{Option}
use Rattle.std.specs.Int.Signed.{lt_z, non_neg}
use Rattle.model.specs.Job.{Bucket, Line, bucket_at, Levels, no_levels, Job, Entry, PlanFits}
use Rattle.model.specs.Levels.{entry_of, decoder_level, decoder_peak, bucket_levels}
use Rattle.model.specs.Pins.{PinMap, pin_at, PinHeld}

-- the violations (document 01's breaches), in the order in which they are tested since document 02, E2: decoder over, decoder short, bucket over (which one, from 0), pin not held
pub data Violation : Type 0 where
  decoder_overflow decoder_underflow : Violation
  bucket_overflow : ℕ → Violation
  pin_not_held : Violation

-- what the decoder does in an interval: it violates a limit, or holds so much when the interval ends
pub data Decoded : Type 0 where
  breaks : Violation → Decoded
  holds : ℕ → Decoded

-- What the decoder may do in an interval (document 02, E2), and the one place that says it: its peak, B(t - 1) + C(t), is at most its size, and its level after the unit has left, B(t), is at least 0.
-- These are (4) and (6) of the verifier in source document 002, section 3.3
unfoldable pub verify : ℕ → ℤ → ℤ → Decoded
verify size peak level =
    if lt_z (pos size) peak then breaks decoder_overflow
    else if non_neg level then holds (nat_abs level)
    else breaks decoder_underflow

-- the i-th bucket holds at most its size
abbrev pub Within : List Bucket → List ℕ → ℕ → Type 0
Within ks ls i = get_or ls i 0 ≤ (bucket_at ks i).size

abbrev pub AllWithin : List Bucket → List ℕ → Type 0
AllWithin ks ls = (i : ℕ) → i < length ks → Within ks ls i

-- what an interval comes to: the decoder's peak, the levels at its end, the pin that bears on it and the choice that it makes
pub record Ending : Type 0 where
  pub peak : ℤ
  pub decoder : ℤ
  pub buckets : List ℕ
  pub pinned : Option ℕ
  pub choice : Option ℕ

module _ (line : Line) (x : Ending) where
  -- the decoder's limits are kept
  abbrev pub Verified : Type 0
  Verified = (b : ℕ) × (verify line.decoder x.peak x.decoder ≡ holds b)

  -- every limit is kept, and the pin is held
  pub record Sound : Type 0 where
    pub decoder : Verified
    pub buckets : AllWithin line.buckets x.buckets
    pub pin : PinHeld x.pinned x.choice

  -- what is violated first, in the order of the tests
  pub data Violates : Violation → Type 0 where
    unverified : {v : Violation} → verify line.decoder x.peak x.decoder ≡ breaks v → Violates v
    bucket : {i : ℕ} → Verified → i < length line.buckets → ((k : ℕ) → k < i → Within line.buckets x.buckets k) → (Within line.buckets x.buckets i → ⊥) → Violates (bucket_overflow i)
    unpinned : Verified → AllWithin line.buckets x.buckets → (PinHeld x.pinned x.choice → ⊥) → Violates pin_not_held

-- written levels are those of an interval's end
pub record Shows (x : Ending) (l : Levels) : Type 0 where
  pub decoder : pos l.decoder ≡ x.decoder
  pub buckets : l.buckets ≡ x.buckets

module _ (j : Job) (m : PinMap) (s : ℕ) (start : Levels) (p : List Entry) where
  -- what the n-th interval comes to, by the equations
  unfoldable pub ending : ℕ → Ending
  ending n = record {
    peak = decoder_peak j s p start.decoder n;
    decoder = decoder_level j s p start.decoder n;
    buckets = bucket_levels j s p j.line.buckets start.buckets n;
    pinned = pin_at j m (s + n);
    choice = (entry_of p n).choice;
  }

  -- the first n intervals are sound
  abbrev pub SoundFor : ℕ → Type 0
  SoundFor n = (k : ℕ) → k < n → Sound j.line (ending (suc k))

  -- a plan in shape of which every interval is sound (document 01: no interval has a breach, and every pinned unit has its pinned choice)
  pub record Admissible : Type 0 where
    pub shaped : PlanFits j s p
    pub sound : SoundFor (length p)

  -- n intervals violate nothing, and v is the first limit that the next violates
  pub record FirstViolation (n : ℕ) (v : Violation) : Type 0 where
    pub counted : n < length p
    pub before : SoundFor n
    pub here : Violates j.line (ending (suc n)) v

  -- the levels written, interval after interval, are those of the equations
  abbrev pub LevelsOf : List Levels → Type 0
  LevelsOf ls = (n : ℕ) → n < length ls → Shows (ending (suc n)) (get_or ls n no_levels)
