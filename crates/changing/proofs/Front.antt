-- The entries that remain: that they have no violation, where they lead, and that they are read back from all entries.
use Prim.Native.Nat.{ℕ, zero, suc, ◌+◌, ◌-◌, ◌*◌, ◌≤◌, ◌<◌}
use mathlib.Core.Path.{◌≡◌, refl, sym, ap, ap₂, ◌∙◌}
use mathlib.Core.Logic.{◌↔◌}
use mathlib.Core.Bool.{true}
use mathlib.Core.List.{List, [], ◌∷◌, ◌++◌}
use native.Mathlib.Omega.{arith}
use lib.ListN.{length, get_or, take, length-append, get_or-append}
use lib.Seq.{length-take-le, get_or-take, drop-append-add}
use Rattle.model.specs.Job.{Levels, Job, Entry, intervals}
use Rattle.model.specs.Pins.{PinMap}
use Rattle.model.specs.Admissible.{Violation, Shows, ending, SoundFor}
use Rattle.model.specs.Step.{Outcome, violates, reaches, outcome}
use Rattle.model.specs.Replay.{Result, clean, stopped, written, go_on, replay, last_levels}
use Rattle.model.specs.Table.{InLayer}
use Rattle.model.proofs.Steps.{reaches_in_layer}
use Rattle.model.specs.Claims.{ReplayClaim}
use Rattle.model.proofs.DemandTwo.{demand_two}
use Rattle.replaying.specs.Entries.{entry_size, entry_fields, rate_field, choice_field, entry_under, entry_at, entries_from, plan_from, plan_of}
use Rattle.replaying.proofs.Entries.{entries_length, rate_is, choice_is}
use Rattle.changing.specs.Calls.{remaining, front, carried, is_clean}
use Rattle.changing.proofs.Prefix.{ending_same, take_same, last_is}
use Rattle.changing.proofs.Conditions.{clean_is}

-- the first entries of some places, and those behind them
pub entries_split : (f : ℕ → Entry) (i a b : ℕ) → entries_from f i (a + b) ≡ entries_from f i a ++ entries_from f (i + a) b
unfolding entries_from
entries_split f i zero b = let z : 0 + b ≡ b = omega arith in let y : i + 0 ≡ i = omega arith in rw (z, y)
entries_split f i (suc a) b = let z : suc a + b ≡ suc (a + b) = omega arith in let y : i + suc a ≡ suc i + a = omega arith in rw (z, y) (ap (λ (l : List Entry). f i ∷ l) (entries_split f (suc i) a b))

pub entries_take : (f : ℕ → Entry) (i s n : ℕ) → s ≤ n → take s (entries_from f i n) ≡ entries_from f i s
unfolding entries_from
entries_take f i zero n h = refl
entries_take f i (suc s) zero h = absurd (omega arith)
entries_take f i (suc s) (suc n) h = ap (λ (l : List Entry). f i ∷ l) (entries_take f (suc i) s n (omega arith))

entries_cong : (f g : ℕ → Entry) (i k n : ℕ) → ((x : ℕ) → x < n → f (i + x) ≡ g (k + x)) → entries_from f i n ≡ entries_from g k n
unfolding entries_from
entries_cong f g i k zero e = refl
entries_cong f g i k (suc n) e =
    let a : i + 0 ≡ i = omega arith in
    let b : k + 0 ≡ k = omega arith in
    ap₂ ◌∷◌ (rw (a, b) at (e 0 (omega arith))) (entries_cong f g (suc i) (suc k) n (λ x l. let c : i + suc x ≡ suc i + x = omega arith in let d : k + suc x ≡ suc k + x = omega arith in rw (c, d) at (e (suc x) (omega arith))))

-- an entry whose bytes stand in front, of the first s of a list
front_entry : (old re : List ℕ) (s i : ℕ) → i < s → 3 * s ≤ length old → entry_at (take (3 * s) old ++ re) i ≡ entry_at old i
unfolding entry_at
front_entry old re s i less h =
    let room : 3 * i + 3 ≤ length (take (3 * s) old ++ re) = omega (arith, length-append (take (3 * s) old) re, length-take-le (3 * s) old h) in
    ap₂ (entry_under _) (rate_is (take (3 * s) old ++ re) i room ∙ same (3 * i) (omega arith) ∙ sym (rate_is old i (omega arith)))
    (choice_is (take (3 * s) old ++ re) i room ∙ ap₂ (λ (a b : ℕ). a + 256 * b) (same (3 * i + 1) (omega arith)) (same (3 * i + 2) (omega arith)) ∙ sym (choice_is old i (omega arith)))
  where
    same : (k : ℕ) → k < 3 * s → get_or (take (3 * s) old ++ re) k 0 ≡ get_or old k 0
    same k m = get_or-append (take (3 * s) old) re 0 k (omega (arith, length-take-le (3 * s) old h)) ∙ get_or-take (3 * s) old k 0 m

-- one behind them
behind_entry : (w re : List ℕ) (s i : ℕ) → length w ≡ entry_size * s → entry_at (w ++ re) (s + i) ≡ entry_at re i
unfolding entry_at entry_under rate_field choice_field entry_fields
behind_entry w re s i e =
    let n : entry_size * (s + i) ≡ length w + entry_size * i = omega arith in
    rw (n, drop-append-add w re (entry_size * i))

-- all entries: those that remain, then the rest
pub read_both : (old re : List ℕ) (s n : ℕ) → 3 * s ≤ length old → plan_from (take (3 * s) old ++ re) 0 (s + n) ≡ plan_from old 0 s ++ plan_from re 0 n
read_both old re s n h =
    entries_split (entry_at (take (3 * s) old ++ re)) 0 s n
    ∙ ap₂ ◌++◌ (entries_cong _ _ 0 0 s (λ x l. let z : 0 + x ≡ x = omega arith in rw z (front_entry old re s x l h))) (entries_cong _ _ (0 + s) 0 n (λ x l. let z : 0 + s + x ≡ s + x = omega arith in let y : 0 + x ≡ x = omega arith in rw (z, y) (behind_entry (take (3 * s) old) re s x (length-take-le (3 * s) old h))))

stops : {t : ℕ} {v : Violation} {A : Type 0} → ◌≡◌ {A = Result} (stopped t v) clean → A
stops e = let z : ◌≡◌ {A = ℕ} 0 1 = cc in absurd (omega arith)

-- entries without a violation lead from levels within the buffers to such
module _ (j : Job) (m : PinMap) where
  inside : (t : ℕ) (s : Levels) (p : List Entry) → InLayer j.line s → (replay j m t s p).result ≡ clean → InLayer j.line (last_levels s (replay j m t s p).levels)
  unfolding replay last_levels
  inside t s [] h e = h
  inside t s (x ∷ p) h e = go (λ l i q. inside (suc t) l p i q) (outcome j m (suc t) s x) refl e
    where
      go : ((l : Levels) → InLayer j.line l → (replay j m (suc t) l p).result ≡ clean → InLayer j.line (last_levels l (replay j m (suc t) l p).levels)) → (o : Outcome) → outcome j m (suc t) s x ≡ o → (go_on (suc t) o (λ l. replay j m (suc t) l p)).result ≡ clean → InLayer j.line (last_levels s (go_on (suc t) o (λ l. replay j m (suc t) l p)).levels)
      go ih (violates v) q e = let z : stopped (suc t) v ≡ clean = unfold go_on in e in stops z
      go ih (reaches l) q e = unfold go_on written last_levels in (ih l (unfold outcome in (reaches_in_layer j.line _ _ _ _ s l h.count q)) e)

module _ (j : Job) (m : PinMap) (old : List ℕ) (s : ℕ) (some_entry : 1 ≤ s) (less : s < intervals j) where
  plan_count : length (plan_of j old) ≡ intervals j
  unfolding plan_of
  plan_count = entries_length (entry_at old) 0 (intervals j)

  pub count : length (remaining j m s old) ≡ s
  count = length-take-le s (plan_of j old) (omega (arith, plan_count))

  claim : ReplayClaim j m 0 j.start (remaining j m s old) (front j m s old)
  unfolding front
  claim = demand_two j m 0 j.start (remaining j m s old)

  same : (n : ℕ) → n ≤ s → ending j m 0 j.start (remaining j m s old) n ≡ ending j m 0 j.start (plan_of j old) n
  same n h = ending_same j m j.start s (remaining j m s old) (plan_of j old) (take_same s (plan_of j old)) n h

  pub sound_iff : (is_clean (front j m s old).result ≡ true) ↔ SoundFor j m 0 j.start (plan_of j old) s
  sound_iff = (
    λ e k l. rw (same (suc k) l) at (claim.clean_iff.0 ((clean_is (front j m s old).result).0 e) k (omega (arith, count))),
    λ f. (clean_is (front j m s old).result).1 (claim.clean_iff.1 (λ k l. rw (same (suc k) (omega (arith, count))) (f k (omega (arith, count))))),
  )

  -- the levels that are carried are those of the equations after interval s
  pub carried_shows : is_clean (front j m s old).result ≡ true → Shows (ending j m 0 j.start (plan_of j old) s) (carried j m s old)
  unfolding carried
  carried_shows e =
      let w = claim.clean_whole ((clean_is (front j m s old).result).0 e) in
      let n : suc (s - 1) ≡ s = omega arith in
      let q : length (front j m s old).levels ≡ suc (s - 1) = omega (arith, count) in
      rw (last_is j.start (front j m s old).levels (s - 1) q, ← same s (omega arith)) (rw n at (claim.levels (s - 1) (omega arith)))

  pub carried_inside : InLayer j.line j.start → is_clean (front j m s old).result ≡ true → InLayer j.line (carried j m s old)
  unfolding carried front
  carried_inside h e = inside j m 0 j.start (remaining j m s old) h ((clean_is _).0 e)
