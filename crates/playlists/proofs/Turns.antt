-- One programme's turn: what is seen of it before it is planned, what planning it then comes to, and where its plan leads.
use Prim.Native.Nat.{ℕ, suc, ◌+◌, ◌-◌, ◌*◌, ◌≤◌, ◌<◌}
use mathlib.Core.Path.{◌≡◌, refl, sym, ap, ◌∙◌}
use mathlib.Core.Bool.{Bool, true, false}
use mathlib.Core.List.{List, [], ◌∷◌, ◌++◌}
use native.Mathlib.Omega.{arith}
use lib.Dec.{leb}
use lib.ListN.{length, get_or, take, drop, length-append, length-drop}
use lib.Seq.{length-take-le}
use borrow.Author.Tests.{leb-true, leb-false, le-leb, eqb-true, eqb-false}
use Rattle.std.specs.Prelude.{if◌then◌else◌}
use Rattle.base.specs.Answer as base
use Rattle.base.specs.Answer.{Answer, gives}
use Rattle.base.specs.Refusals.{Test, test, guarded, InOrder}
use Rattle.base.specs.Lists.{sum}
use Rattle.base.proofs.Answers.{not_refused, gives_same}
use Rattle.base.proofs.Refusals.{guarded_past, guarded_here, guarded_none}
use Rattle.base.proofs.Lent.{over_at_length}
use Rattle.model.specs.Job.{bucket_at, Job, Entry, intervals}
use Rattle.model.specs.Levels.{sent, bucket_level, bucket_levels, unused_drain, unused_totals}
use Rattle.model.specs.Pins.{PinMap, no_pins}
use Rattle.model.specs.Admissible.{ending}
use Rattle.model.specs.Replay.{Totals, totals}
use Rattle.model.specs.Best.{late, total}
use Rattle.model.specs.Table.{sizes, words}
use Rattle.model.proofs.Drains.{zip_length, unused_at, level_at, drain_balance}
use Rattle.model.proofs.Walks.{fits_length}
use Rattle.format.specs.Parser.{Result, refused, took, on_took}
use Rattle.format.specs.JobBytes.{header_in, parse, opening}
use Rattle.format.specs.Claims.{InLimits}
use Rattle.format.proofs.Limits.{not_true}
use Rattle.format.proofs.Bounds.{limited}
use Rattle.format.proofs.Places.{well_read}
use Rattle.pinning.specs.PinSet.{fresh}
use Rattle.pinning.proofs.History.{fresh_pins, fresh_matches}
use Rattle.replaying.specs.Entries.{entry_size}
use Rattle.planning.specs.Calls.{Planned, refuse}
use Rattle.planning.specs.Claims.{BestWritten, PlanClaim}
use Rattle.starting.specs.Calls.{levels_fit, start_with}
use Rattle.starting.specs.Claims.{LevelsFit, Asks}
use Rattle.starting.proofs.Starting.{fits_iff, levels_calls, levels_keep}
use Rattle.playlists.specs.Calls.{Programme, part, Standing, starting, led_to, five, Turn, stops, goes_on, as_many, behind_tests, after, rest_of, plan_part, plan_turn, part_turn, turn}

-- what planning from levels comes to: refused by 20, 11 or 12, or as is claimed of a search
pub data Tried (j : Job) (ls table entries : List ℕ) : Planned → Type 0 where
  too_full : (LevelsFit j ls → ⊥) → Tried j ls table entries (refuse table entries 20)
  few_words : LevelsFit j ls → (words j ≤ length table → ⊥) → Tried j ls table entries (refuse table entries 11)
  few_bytes : LevelsFit j ls → words j ≤ length table → (3 * intervals j ≤ length entries → ⊥) → Tried j ls table entries (refuse table entries 12)
  searched : LevelsFit j ls → words j ≤ length table → 3 * intervals j ≤ length entries → {r : Planned} → PlanClaim j (no_pins (length j.units)) total late 0 (start_with j ls) table entries r → Tried j ls table entries r

module _ (j : Job) (ls table entries : List ℕ) where
  by_order : (r : Planned) (m : PinMap) → m ≡ no_pins (length j.units) → InOrder r (refuse table entries) (Asks j ls table entries) (PlanClaim j m total late 0 (start_with j ls) table entries r) → Tried j ls table entries r
  by_order r m none-pinned h = fit (levels_fit (sizes j.line) ls) refl
    where
      list : LevelsFit j ls → words j ≤ length table → (t : Bool) → leb (3 * intervals j) (length entries) ≡ t → Tried j ls table entries r
      list f w true e = let l = leb-true (3 * intervals j) (length entries) e in searched f w l (rw none-pinned at (((h.1 f).1 w).1 l))
      list f w false e = let no : 3 * intervals j ≤ length entries → ⊥ = λ q. omega (arith, leb-false (3 * intervals j) (length entries) e) in rw (((h.1 f).1 w).0 no) (few_bytes f w no)

      room : LevelsFit j ls → (t : Bool) → leb (words j) (length table) ≡ t → Tried j ls table entries r
      room f true e = list f (leb-true (words j) (length table) e) (leb (3 * intervals j) (length entries)) refl
      room f false e = let no : words j ≤ length table → ⊥ = λ q. omega (arith, leb-false (words j) (length table) e) in rw ((h.1 f).0 no) (few_words f no)

      fit : (t : Bool) → levels_fit (sizes j.line) ls ≡ t → Tried j ls table entries r
      fit true e = room ((fits_iff j ls).0 e) (leb (words j) (length table)) refl
      fit false e = let no : LevelsFit j ls → ⊥ = λ f. not_true (sym e ∙ (fits_iff j ls).1 f) in rw (h.0 no) (too_full no)

pub tried : (b : List ℕ) (j : Job) (k : ℕ) → parse opening b ≡ took j k → (st : Standing) → Tried j (starting j st.carried) st.table (rest_of st) (plan_part b j st)
unfolding plan_part
tried b j k e st =
    let l = limited j (well_read opening b j k e).well_formed in
    by_order j (starting j st.carried) st.table (rest_of st) (plan_part b j st) _ (fresh_pins j l) (((levels_calls b (fresh (header_in j)) _ _ _ _ _).1 j k e).1 (fresh_matches j l))

-- what is left for a plan: something where there is room for its totals too, and then all behind the plans before it
pub record Roomy (st : Standing) : Type 0 where
  pub places : 5 * (st.done + 1) ≤ length st.totals
  pub all : rest_of st ≡ drop st.used st.entries

with_room : (m n : ℕ) (l : List ℕ) → m ≤ n → (if leb m n then l else []) ≡ l
with_room m n l h = rw (le-leb m n h)

room_by : (m n : ℕ) (l : List ℕ) → 1 ≤ length (if leb m n then l else []) → m ≤ n
room_by m n l h = go (leb m n) refl h
  where
    go : (t : Bool) → leb m n ≡ t → 1 ≤ length (if t then l else []) → m ≤ n
    go true e h = leb-true m n e
    go false e h = absurd (omega (arith, h))

pub roomy : (st : Standing) → 5 * (st.done + 1) ≤ length st.totals → Roomy st
unfolding rest_of
roomy st h = record { places = h; all = with_room _ _ _ h }

pub room_left : (st : Standing) → 1 ≤ length (rest_of st) → Roomy st
unfolding rest_of
room_left st h = roomy st (room_by _ _ _ h)

-- a plan that is given: it is the best from these levels, and the totals are its own
pub record Given (j : Job) (ls table entries : List ℕ) (r : Planned) (t : Totals) : Type 0 where
  pub fit : LevelsFit j ls
  pub space : 3 * intervals j ≤ length entries
  pub claim : PlanClaim j (no_pins (length j.units)) total late 0 (start_with j ls) table entries r
  pub best : BestWritten j (no_pins (length j.units)) total late 0 (start_with j ls) table entries r
  pub counted : t ≡ totals j 0 (start_with j ls) best.plan

pub given : {j : Job} {ls table entries : List ℕ} {r : Planned} {t : Totals} → Tried j ls table entries r → r.answer ≡ gives t → Given j ls table entries r t
unfolding refuse
given (too_full f) e = absurd (not_refused (sym e))
given (few_words f w) e = absurd (not_refused (sym e))
given (few_bytes f w l) e = absurd (not_refused (sym e))
given (searched f w l c) e =
    let b = c.else_best (λ q. not_refused (sym e ∙ q)) in
    record { fit = f; space = l; claim = c; best = b; counted = gives_same (sym e ∙ b.totals_are) }

pub some_interval : (j : Job) → InLimits j → 1 ≤ intervals j
unfolding intervals
some_interval j limits = omega (arith, limits.units)

-- where its plan leads, by (17), and what it sends, drains and leaves unused
module _ (j : Job) (limits : InLimits j) (ls table entries : List ℕ) (r : Planned) (t : Totals) (g : Given j ls table entries r t) where
  abbrev plan : List Entry
  plan = g.best.plan

  count : length plan ≡ intervals j
  count = omega (arith, fits_length g.best.best.among.shaped)

  pub leads : led_to j ls r.entries ≡ bucket_levels j 0 plan j.line.buckets ls (intervals j)
  unfolding led_to
  leads = let z : intervals j - 0 ≡ intervals j = omega arith in rw (rw z at g.best.read_back)

  pub levels_count : length (led_to j ls r.entries) ≡ length j.line.buckets
  levels_count = rw leads (unfold bucket_levels in (zip_length _ j.line.buckets ls g.fit.count))

  pub unused_count : length t.unused ≡ length j.line.buckets
  unused_count = rw g.counted (unfold totals unused_totals start_with in (zip_length _ j.line.buckets ls g.fit.count))

  channel_is : t.channel ≡ sum (sent j plan) (intervals j)
  unfolding totals
  channel_is = ap (λ (x : Totals). x.channel) g.counted ∙ rw count

  module _ (i : ℕ) (h : i < length j.line.buckets) where
    unused_is : get_or t.unused i 0 ≡ sum (unused_drain j 0 plan (bucket_at j.line.buckets i) (get_or ls i 0)) (intervals j)
    unfolding start_with
    unused_is = ap (λ (x : Totals). get_or x.unused i 0) g.counted ∙ rw (← count) (unused_at j (no_pins (length j.units)) 0 (start_with j ls) plan g.fit.count i h)

    level_is : get_or (led_to j ls r.entries) i 0 ≡ bucket_level j 0 plan (bucket_at j.line.buckets i) (get_or ls i 0) (intervals j)
    unfolding start_with
    level_is = rw leads (level_at j (no_pins (length j.units)) 0 (start_with j ls) plan g.fit.count i h (intervals j))

    pub balance : get_or ls i 0 + t.channel + get_or t.unused i 0 ≡ intervals j * (bucket_at j.line.buckets i).drain + get_or (led_to j ls r.entries) i 0
    balance = rw (channel_is, unused_is, level_is) (drain_balance j 0 plan (bucket_at j.line.buckets i) (get_or ls i 0) (intervals j))

    last : get_or (bucket_levels j 0 plan j.line.buckets ls (suc (intervals j - 1))) i 0 ≤ (bucket_at j.line.buckets i).size
    unfolding ending start_with
    last = (g.best.best.among.sound (intervals j - 1) (omega (arith, count, some_interval j limits))).buckets i h

    pub inside : get_or (led_to j ls r.entries) i 0 ≤ (bucket_at j.line.buckets i).size
    inside = let e : suc (intervals j - 1) ≡ intervals j = omega (arith, some_interval j limits) in rw leads (rw e at last)

-- the balance of a plan that is given: what the buckets held, what was sent and what went unused are what was drained and what they hold at its end
pub record Balanced (b : List ℕ) (j : Job) (st : Standing) (t : Totals) : Type 0 where
  pub unused : length t.unused ≡ length j.line.buckets
  pub count : length (led_to j (starting j st.carried) (plan_part b j st).entries) ≡ length j.line.buckets
  pub each : (i : ℕ) → i < length j.line.buckets → get_or (starting j st.carried) i 0 + t.channel + get_or t.unused i 0 ≡ intervals j * (bucket_at j.line.buckets i).drain + get_or (led_to j (starting j st.carried) (plan_part b j st).entries) i 0
  pub within : (i : ℕ) → i < length j.line.buckets → get_or (led_to j (starting j st.carried) (plan_part b j st).entries) i 0 ≤ (bucket_at j.line.buckets i).size
  pub room : entry_size * intervals j ≤ length (drop st.used st.entries)
  pub places : 5 * (st.done + 1) ≤ length st.totals
  pub long : length (plan_part b j st).entries ≡ length (drop st.used st.entries)

pub balanced : (b : List ℕ) (j : Job) (k : ℕ) → parse opening b ≡ took j k → (st : Standing) (t : Totals) → (plan_part b j st).answer ≡ gives t → Balanced b j st t
balanced b j k e st t q =
    let l = limited j (well_read opening b j k e).well_formed in
    let g = given (tried b j k e st) q in
    let r = room_left st (omega (arith, g.space, some_interval j l)) in
    record {
      unused = unused_count j l _ _ _ _ t g;
      count = levels_count j l _ _ _ _ t g;
      each = balance j l _ _ _ _ t g;
      within = inside j l _ _ _ _ t g;
      room = (rw r.all at g.space);
      places = r.places;
      long = g.best.size ∙ ap (λ (x : List ℕ). length x) r.all;
    }

pub plan_refused : (b : List ℕ) (j : Job) (k : ℕ) → parse opening b ≡ took j k → (st : Standing) (n : ℕ) → (plan_part b j st).answer ≡ base.refused n → (plan_part b j st).entries ≡ rest_of st
unfolding plan_part
plan_refused b j k e st n q = (levels_keep b _ _ _ _ _ _).entries_kept n q

-- one test of a call
by_test : {R : Type 0} (P : R → Type 0) (refuse : ℕ → R) (n : ℕ) (t : Bool) (ts : List Test) (r : R) → (t ≡ true → P (guarded refuse ts r)) → (t ≡ false → P (refuse n)) → P (guarded refuse (test n t ∷ ts) r)
by_test P refuse n true ts r f g = rw (guarded_past refuse (test n true) ts r refl) (f refl)
by_test P refuse n false ts r f g = rw (guarded_here refuse (test n false) ts r refl) (g refl)

-- behind the last of them
by_none : {R : Type 0} (P : R → Type 0) (refuse : ℕ → R) (r : R) → P r → P (guarded refuse [] r)
by_none P refuse r f = rw (guarded_none refuse r) f

-- and its reading
by_reading : {A R : Type 0} (P : R → Type 0) (refuse : ℕ → R) (r : Result A) (f : A → ℕ → R) → ((n : ℕ) → r ≡ refused n → P (refuse n)) → ((a : A) (k : ℕ) → r ≡ took a k → P (f a k)) → P (on_took refuse r f)
unfolding on_took
by_reading P refuse (refused n) f g h = g n refl
by_reading P refuse (took a k) f g h = h a k refl

-- what is seen of a programme before it is planned
pub data Seen (b : List ℕ) (p : Programme) (st : Standing) : Turn → Type 0 where
  outside : (p.first + p.size ≤ length b → ⊥) → Seen b p st (stops 22 st)
  not_read : {n : ℕ} → p.first + p.size ≤ length b → parse opening (part b p) ≡ refused n → Seen b p st (stops n st)
  left : {j : Job} {k : ℕ} → p.first + p.size ≤ length b → parse opening (part b p) ≡ took j k → (k ≡ p.size → ⊥) → Seen b p st (stops 22 st)
  others : {j : Job} → p.first + p.size ≤ length b → parse opening (part b p) ≡ took j p.size → as_many j st.carried ≡ false → Seen b p st (stops 22 st)
  opened : {j : Job} → p.first + p.size ≤ length b → parse opening (part b p) ≡ took j p.size → as_many j st.carried ≡ true → Seen b p st (after j (starting j st.carried) st (plan_part (part b p) j st).answer (plan_part (part b p) j st))

pub part_size : (b : List ℕ) (p : Programme) → p.first + p.size ≤ length b → length (part b p) ≡ p.size
unfolding part
part_size b p h = length-take-le p.size (drop p.first b) (omega (arith, length-drop p.first b))

pub seen : (b : List ℕ) (p : Programme) (st : Standing) → Seen b p st (turn b p st)
unfolding turn part_turn plan_turn behind_tests
seen b p st =
    by_test (Seen b p st) _ _ _ _ _
    (λ e.
    let h = leb-true (p.first + p.size) (length b) e in
    let n = part_size b p h in
    by_none (Seen b p st) _ _ (by_reading (Seen b p st) _ _ _
    (λ n q. not_read h q)
    (λ j k q. by_test (Seen b p st) _ _ _ _ _
    (λ s.
    let whole : parse opening (part b p) ≡ took j p.size = q ∙ ap (took j) (eqb-true k (length (part b p)) s ∙ n) in
    by_test (Seen b p st) _ _ _ _ _ (λ m. by_none (Seen b p st) _ _ (opened h whole m)) (λ m. others h whole m))
    (λ s. left h q (λ i. eqb-false k (length (part b p)) s (i ∙ sym n))))))
    (λ e. outside (λ h. omega (arith, leb-false (p.first + p.size) (length b) e)))

pub goes_same : {x y : Standing} → goes_on x ≡ goes_on y → x ≡ y
goes_same e = cc

not_stops : {A : Type 0} {n : ℕ} {x y : Standing} → stops n x ≡ goes_on y → A
not_stops e = let z : ◌≡◌ {A = ℕ} 0 1 = cc in absurd (omega arith)

-- after a plan the lists are as long as before, and have the room that it took
abbrev Room : Standing → Standing → Type 0
Room st st' = (st'.done ≡ st.done + 1) × (st'.used ≤ length st'.entries) × (length st'.entries ≡ length st.entries) × (length st'.totals ≡ length st.totals)

pub turn_room : (b : List ℕ) (p : Programme) (st st' : Standing) → st.used ≤ length st.entries → turn b p st ≡ goes_on st' → (st'.done ≡ st.done + 1) × (st'.used ≤ length st'.entries) × (length st'.entries ≡ length st.entries) × (length st'.totals ≡ length st.totals)
unfolding after
turn_room b p st st' used e = go (seen b p st) e
  where
    planned : (j : Job) → parse opening (part b p) ≡ took j p.size → (a : Answer Totals) → (plan_part (part b p) j st).answer ≡ a → after j (starting j st.carried) st a (plan_part (part b p) j st) ≡ goes_on st' → Room st st'
    planned j q (base.refused n) h e = not_stops e
    planned j q (gives t) h e =
        let k = balanced (part b p) j p.size q st t h in
        let long : length (take st.used st.entries ++ (plan_part (part b p) j st).entries) ≡ length st.entries = length-append (take st.used st.entries) (plan_part (part b p) j st).entries ∙ omega (arith, k.long, length-take-le st.used st.entries used, length-drop st.used st.entries) in
        rw (← goes_same e) (omega arith, omega (arith, long, k.room, length-drop st.used st.entries), long, over_at_length _ (five t) st.totals (unfold five in (omega (arith, k.places))))

    go : {t : Turn} → Seen b p st t → t ≡ goes_on st' → Room st st'
    go (outside f) e = not_stops e
    go (not_read h q) e = not_stops e
    go (left h q f) e = not_stops e
    go (others h q f) e = not_stops e
    go (opened {j} h q m) e = planned j q (plan_part (part b p) j st).answer refl e
