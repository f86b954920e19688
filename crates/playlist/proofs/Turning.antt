-- A programme that opened: what planning it found, where its plan leads, and what its turn comes to.
use Prim.Native.Nat.{ℕ, zero, suc, ◌+◌, ◌-◌, ◌*◌, ◌≤◌, ◌<◌}
use mathlib.Core.Path.{◌≡◌, refl, sym, ap, ap₂, ◌∙◌}
use mathlib.Core.Bool.{Bool, true, false}
use mathlib.Core.Option.{some}
use mathlib.Core.List.{List, [], ◌∷◌, ◌++◌, map, zip_with}
use native.Mathlib.Nat.{mul-le-mul_left, mul-le-mul_right}
use native.Mathlib.Omega.{arith}
use lib.Dec.{leb}
use lib.ListN.{length, get_or, take, drop, length-map, length-drop}
use borrow.Author.Tests.{le-leb}
use borrow.Rule.Slice.PartMut.{put_mid, put_same}
use Rattle.std.specs.Prelude.{if◌then◌else◌, Some, None, Ok, Err}
use Rattle.std.specs.Prelude as std
use Rattle.std.specs.Option.{option_map_or}
use Rattle.base.specs.Answer.{refused, gives}
use Rattle.base.specs.Lent.{over_at}
use Rattle.model.specs.Job.{Job, Bucket, Levels, bucket_at, intervals}
use Rattle.model.specs.Replay as model
use Rattle.model.specs.Best.{late, total}
use Rattle.format.specs.JobBytes.{Policed, Header, no_bucket, bucket_of, job_in, header_in}
use Rattle.format.proofs.Opened.{job_limits, few_intervals, intervals_are, buckets_are, start_is}
use Rattle.format.specs.Claims.{InLimits}
use Rattle.interval.specs.declared.Totals.{Totals}
use Rattle.interval.specs.Answers.{totals_of}
use Rattle.pinning.specs.PinSet.{PinSet, fresh}
use Rattle.replaying.specs.Entries.{entry_size}
use Rattle.planning.specs.Calls as planning
use Rattle.starting.specs.Calls.{levels_call}
use Rattle.planner.specs.declared.BucketLevels.{BucketLevels}
use Rattle.planner.specs.Answers.{planned, levels_of_buckets}
use Rattle.playlists.specs.Calls.{Standing, starting, led_to, five, after, rest_of, plan_part, plan_turn, stops, goes_on}
use Rattle.playlists.proofs.Turns.{Balanced, balanced, plan_refused}
use Rattle.playlist.specs.declared.Standing as code
use Rattle.header.specs.declared.refusal.Refusal.{Refusal}
use Rattle.header.specs.Refusals.{number}
use Rattle.playlist.specs.Answers.{carried_by, carries, stands, turned, starts_at, led_by, LeadsTo, end_for, Opened}
use Rattle.base.proofs.Lent.{part_all, put_back}

-- the carried levels, or a job's own
chosen : (j : Job) (o : std.Option BucketLevels) (own : List ℕ) → j.start.buckets ≡ own → option_map_or levels_of_buckets o own ≡ starting j (carried_by o)
unfolding starting
chosen j (Some l) own e = refl
chosen j None own e = sym e

-- a bucket of a header, and of its job
drain_at : (ks : List Policed) (i : ℕ) → (bucket_at (map bucket_of ks) i).drain ≡ (get_or ks i no_bucket).drain
unfolding bucket_of
drain_at [] i = refl
drain_at (k ∷ ks) zero = refl
drain_at (k ∷ ks) (suc i) = drain_at ks i

-- levels that are in balance with what was sent, drained and left unused are those that the balance tells
by_balance : (ks : List Policed) (ls us rs : List ℕ) (n c : ℕ) → length ls ≡ length ks → length us ≡ length ks → length rs ≡ length ks → ((i : ℕ) → i < length ks → get_or ls i 0 + c + get_or us i 0 ≡ n * (get_or ks i no_bucket).drain + get_or rs i 0) → zip_with (λ (k : Policed) (p : ℕ). p - n * k.drain) ks (zip_with (λ (level unused : ℕ). level + c + unused) ls us) ≡ rs
unfolding zip_with
by_balance [] ls us [] n c el eu er f = refl
by_balance [] ls us (r ∷ rs) n c el eu er f = absurd (omega (arith, er))
by_balance (k ∷ ks) [] us rs n c el eu er f = absurd (omega (arith, el))
by_balance (k ∷ ks) (l ∷ ls) [] rs n c el eu er f = absurd (omega (arith, eu))
by_balance (k ∷ ks) (l ∷ ls) (u ∷ us) [] n c el eu er f = absurd (omega (arith, er))
by_balance (k ∷ ks) (l ∷ ls) (u ∷ us) (r ∷ rs) n c el eu er f =
    let here : l + c + u - n * k.drain ≡ r = omega (arith, f 0 (omega arith)) in
    let rest : zip_with (λ (k : Policed) (p : ℕ). p - n * k.drain) ks (zip_with (λ (level unused : ℕ). level + c + unused) ls us) ≡ rs = by_balance ks ls us rs n c (omega (arith, el)) (omega (arith, eu)) (omega (arith, er)) (λ i h. f (suc i) (omega arith)) in
    ap₂ (λ (a : ℕ) (m : List ℕ). a ∷ m) here rest

-- what comes after planning
module _ (j : Job) (ls : List ℕ) (st : Standing) (r : planning.Planned) (table entries : List ℕ) where
  after_refused : (n : ℕ) → record { answer = refused n; table = table; entries = entries } ≡ r → after j ls st r.answer r ≡ stops n (record { done = st.done; used = st.used; carried = st.carried; table = table; entries = st.entries; totals = st.totals })
  unfolding after
  after_refused n q = rw (← q)

  after_best : (x : model.Totals) → record { answer = gives x; table = table; entries = entries } ≡ r → after j ls st r.answer r ≡ goes_on (record { done = suc st.done; used = st.used + entry_size * intervals j; carried = some (led_to j ls entries); table = table; entries = take st.used st.entries ++ entries; totals = over_at (5 * st.done) (five x) st.totals })
  unfolding after
  after_best x q = rw (← q)

-- the same between two programmes
standing_same : (d d' u u' : ℕ) (ls ls' table entries entries' totals totals' : List ℕ) → d ≡ d' → u ≡ u' → ls ≡ ls' → entries ≡ entries' → totals ≡ totals' → ◌≡◌ {A = Standing} (record { done = d; used = u; carried = some ls; table = table; entries = entries; totals = totals }) (record { done = d'; used = u'; carried = some ls'; table = table; entries = entries'; totals = totals' })
standing_same d d' u u' ls ls' table entries entries' totals totals' e f g h i = rw (e, f, g, h, i)

-- a level within its bucket
size_most : (j : Job) → InLimits j → (i : ℕ) → i < length j.line.buckets → (bucket_at j.line.buckets i).size ≤ 255
size_most j l zero h = l.first_size
size_most j l (suc zero) h = omega (arith, l.second_size)
size_most j l (suc (suc i)) h = absurd (omega (arith, l.buckets, h))

-- the entries from the plans before a programme to the end that is found for it: what planning is lent, and what stands there when it was given back
module _ (s : code.Standing) (table entries totals : List ℕ) (fits : s.used ≤ length entries) (end : ℕ) (ends : end ≡ end_for s (length entries) (length totals)) where
  pub end_in : (s.used ≤ end) × (end ≤ length entries)
  unfolding end_for
  end_in = rw ends (go (leb (5 * (s.done + 1)) (length totals)))
    where
      go : (t : Bool) → (s.used ≤ (if t then length entries else s.used)) × ((if t then length entries else s.used) ≤ length entries)
      go true = (fits, omega arith)
      go false = (omega arith, fits)

  lent : take (end - s.used) (drop s.used entries) ≡ rest_of (stands s table entries totals)
  unfolding end_for rest_of stands
  lent = rw ends (go (leb (5 * (s.done + 1)) (length totals)))
    where
      go : (t : Bool) → take ((if t then length entries else s.used) - s.used) (drop s.used entries) ≡ (if t then drop s.used entries else [])
      go true = part_all entries s.used
      go false = let z : s.used - s.used ≡ 0 = omega arith in rw z

  given_back : 5 * (s.done + 1) ≤ length totals → (new : List ℕ) → put_mid s.used (end - s.used) entries new ≡ take s.used entries ++ new
  unfolding end_for
  given_back h new = let e : end ≡ length entries = ends ∙ rw (le-leb (5 * (s.done + 1)) (length totals) h) in rw e (put_back entries new s.used fits)

module _ (b : List ℕ) (h : Header) (s : code.Standing) (o : Opened b h s) (table entries totals : List ℕ) (fits : s.used ≤ length entries) (end : ℕ) (ends : end ≡ end_for s (length entries) (length totals)) where
  abbrev J : Job
  J = job_in b

  abbrev st : Standing
  st = stands s table entries totals

  abbrev found : planning.Planned
  found = plan_part b J st

  abbrev led : List ℕ
  led = led_to J (starting J st.carried) found.entries

  starts : starts_at h s ≡ starting J st.carried
  unfolding starts_at stands carries
  starts = chosen J s.levels (map (λ k. k.fill) h.buckets) (ap (λ (x : Levels). x.buckets) (start_is b h o.opens))

  pub found_is : (set : PinSet) (ls : List ℕ) → set ≡ fresh h → ls ≡ starts_at h s → levels_call b set ls total late table (take (end - s.used) (drop s.used entries)) ≡ found
  unfolding plan_part stands
  found_is set ls e f =
      let part = take (end - s.used) (drop s.used entries) in
      ap (λ (x : PinSet). levels_call b x ls total late table part) (e ∙ ap fresh (sym o.opens.header_is))
      ∙ ap (λ (x : List ℕ). levels_call b (fresh (header_in J)) x total late table part) (f ∙ starts)
      ∙ ap (levels_call b (fresh (header_in J)) (starting J (carries s)) total late table) (lent s table entries totals fits end ends)

  count_is : length J.line.buckets ≡ length h.buckets
  count_is = ap (λ (ks : List Bucket). length ks) (buckets_are b h o.opens) ∙ length-map h.buckets bucket_of

  drain_is : (i : ℕ) → (bucket_at J.line.buckets i).drain ≡ (get_or h.buckets i no_bucket).drain
  drain_is i = ap (λ (ks : List Bucket). (bucket_at ks i).drain) (buckets_are b h o.opens) ∙ drain_at h.buckets i

  -- a plan, from the levels that the code found
  module _ (from : BucketLevels) (f : levels_of_buckets from ≡ starts_at h s) (x : Totals) (t e : List ℕ) (q : planned (Ok x) t e ≡ found) where
    given_is : found.answer ≡ gives (totals_of x)
    unfolding planned
    given_is = ap (λ (r : planning.Planned). r.answer) (sym q)

    balance : Balanced b J st (totals_of x)
    balance = balanced b J o.drains.0 o.drains.1 st (totals_of x) given_is

    levels_count : length (levels_of_buckets from) ≡ length h.buckets
    levels_count = ap (λ (l : List ℕ). length l) f ∙ o.alike

    unused_count : length (totals_of x).unused ≡ length h.buckets
    unused_count = balance.unused ∙ count_is

    each_is : (i : ℕ) → i < length h.buckets → get_or (levels_of_buckets from) i 0 + (totals_of x).channel + get_or (totals_of x).unused i 0 ≡ (h.units + h.delay) * (get_or h.buckets i no_bucket).drain + get_or led i 0
    each_is i l = rw (f, starts, ← drain_is i, ← intervals_are b h o.opens) (balance.each i (omega (arith, count_is)))

    led_is : led_by h from x ≡ led
    unfolding led_by
    led_is = by_balance h.buckets (levels_of_buckets from) (totals_of x).unused led (h.units + h.delay) (totals_of x).channel levels_count unused_count (balance.count ∙ count_is) each_is

    drained : (i : ℕ) → i < length h.buckets → (h.units + h.delay) * (get_or h.buckets i no_bucket).drain ≤ 576 * 4095
    drained i l =
        let d : (get_or h.buckets i no_bucket).drain ≤ 4095 = rw (← drain_is i) ((job_limits b h o.opens).drains i (omega (arith, count_is))) in
        omega (arith, mul-le-mul_right {m = h.units + h.delay} {n = 576} (get_or h.buckets i no_bucket).drain (few_intervals b h o.opens), mul-le-mul_left {m = (get_or h.buckets i no_bucket).drain} {n = 4095} 576 d)

    pub leads : LeadsTo h from x
    leads = record {
      few = few_intervals b h o.opens;
      levels = levels_count;
      unused = unused_count;
      drains = λ i l. rw (← drain_is i) ((job_limits b h o.opens).drains i (omega (arith, count_is)));
      lasts = λ i l.
          let k : i < length J.line.buckets = omega (arith, count_is) in
          let w : get_or led i 0 ≤ 255 = omega (arith, balance.within i k, size_most J (job_limits b h o.opens) i k) in
          record { no_more = omega (arith, each_is i l); small = omega (arith, each_is i l, w); fits = omega (arith, each_is i l, w, drained i l) };
    }

    pub room : s.used + 3 * (h.units + h.delay) ≤ length entries
    unfolding stands
    room = omega (arith, balance.room, length-drop s.used entries, intervals_are b h o.opens, fits)

    pub places : (s.done + 1) * 5 ≤ length totals
    unfolding stands
    places = omega (arith, balance.places)

    -- the next programme's turn comes
    pub turn_best : (d u : ℕ) (levels : BucketLevels) (list new : List ℕ) → d ≡ s.done + 1 → u ≡ s.used + 3 * (h.units + h.delay) → levels_of_buckets levels ≡ led_by h from x → list ≡ put_mid s.used (end - s.used) entries e → new ≡ over_at (5 * s.done) (five (totals_of x)) totals → turned (Ok (record { done = d; used = u; levels = Some levels })) s t list new ≡ plan_turn b J st
    unfolding turned stands carries plan_turn planned
    turn_best d u levels list new ed eu el es put =
        let same : e ≡ found.entries = ap (λ (r : planning.Planned). r.entries) q in
        ap goes_on (standing_same d (suc s.done) u (s.used + 3 * intervals J) (levels_of_buckets levels) (led_to J (starting J st.carried) e) t list (take s.used entries ++ e) new (over_at (5 * s.done) (five (totals_of x)) totals) (omega (arith, ed)) (omega (arith, eu, intervals_are b h o.opens)) (el ∙ led_is ∙ ap (led_to J (starting J st.carried)) (sym same)) (es ∙ given_back s table entries totals fits end ends balance.places e) put)
        ∙ sym (after_best J (starting J st.carried) st found t e (totals_of x) q)

  -- the programme is refused
  pub turn_refused : (n : Refusal) (t e : List ℕ) → planned (Err n) t e ≡ found → (r : std.Result code.Standing Refusal) (list : List ℕ) → r ≡ Err n → list ≡ put_mid s.used (end - s.used) entries e → turned r s t list totals ≡ plan_turn b J st
  unfolding turned stands plan_turn planned
  turn_refused n t e q r list is es =
      let x : found.answer ≡ refused (number n) = ap (λ (r : planning.Planned). r.answer) (sym q) in
      let same : e ≡ take (end - s.used) (drop s.used entries) = ap (λ (r : planning.Planned). r.entries) q ∙ plan_refused b J o.drains.0 o.drains.1 st (number n) x ∙ sym (lent s table entries totals fits end ends) in
      rw is (ap (λ (l : List ℕ). stops (number n) (stands s t l totals)) (es ∙ ap (put_mid s.used (end - s.used) entries) same ∙ put_same s.used (end - s.used) entries))
      ∙ sym (after_refused J (starting J st.carried) st found t e (number n) q)
