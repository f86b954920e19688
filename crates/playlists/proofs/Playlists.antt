-- A list of programmes: the programmes that numbers tell, `Programmes`, and one after another, planned or refused, `PlaylistCalls`.
use Prim.Native.Nat.{ℕ, zero, suc, ◌+◌, ◌-◌, ◌*◌, ◌≤◌}
use mathlib.Core.Path.{◌≡◌, refl, sym, ap, ◌∙◌}
use mathlib.Core.Logic.{◌↔◌, inl, inr}
use mathlib.Core.Bool.{Bool, true, false}
use mathlib.Core.Option.{Option, none, some}
use mathlib.Core.List.{List, [], ◌∷◌, ◌++◌}
use native.Mathlib.Omega.{arith}
use lib.Dec.{eqb}
use lib.ListN.{length, get_or, take, drop, length-append, length-drop}
use lib.Seq.{length-take-le, take_at, drop_at, drop-drop, get_or-take, get_or-drop}
use borrow.Author.Tests.{eqb-true, eqb-false, eq-eqb}
use Rattle.base.specs.Answer as base
use Rattle.base.specs.Answer.{Answer, gives}
use Rattle.base.specs.Lent.{over, over_at}
use Rattle.base.proofs.Answers.{refused_same, not_refused}
use Rattle.base.proofs.Refusals.{no_more, one_more, in_order}
use Rattle.base.proofs.Lent.{over_at_length}
use Rattle.base.proofs.Tests.{both_true, true_both}
use Rattle.model.specs.Job.{Job, intervals}
use Rattle.model.specs.Pins.{no_pins}
use Rattle.model.specs.Replay.{Totals}
use Rattle.model.specs.Best.{late, total}
use Rattle.model.specs.Table.{words}
use Rattle.model.specs.Claims.{kept_open}
use Rattle.format.specs.JobBytes.{opening}
use Rattle.format.specs.Claims.{InLimits, OwnNumber}
use Rattle.format.proofs.Limits.{not_true, is_kept, of_kept}
use Rattle.format.proofs.Numbers.{own_numbers}
use Rattle.format.proofs.Bounds.{limited}
use Rattle.format.proofs.Places.{well_read}
use Rattle.planning.specs.Calls.{Planned, refuse}
use Rattle.planning.specs.Claims.{PlanClaim}
use Rattle.starting.specs.Calls.{start_with}
use Rattle.starting.specs.Claims.{LevelsFit}
use Rattle.playlists.specs.Calls.{Programme, programmes, part, Standing, at_first, starting, five, Turn, stops, goes_on, as_many, after, rest_of, ended, onward, finished, refused_at, Played, play, is_list, playlist_call}
use Rattle.playlists.specs.Claims.{StartsAt, its_own, carried_on, Opens, HasRoom, PlannedOne, Stops, passes_slice, unread, bytes_left, other_buckets, level_over, short_table, short_list, no_plan, Run, all_planned, stopped, next, IsList, Programmes, Parts, PlaylistCalls}
use Rattle.playlists.proofs.Turns.{Tried, too_full, few_words, few_bytes, searched, tried, given, Seen, outside, not_read, left, others, opened, part_size, seen, Roomy, roomy, room_left, some_interval, leads, goes_same}

-- the programmes of a list are its pairs
first_at : (ns : List ℕ) (i : ℕ) → i + 1 ≤ length (programmes ns) → (get_or (programmes ns) i (record { first = 0; size = 0 })).first ≡ get_or ns (2 * i) 0
unfolding programmes
first_at [] i h = absurd (omega arith)
first_at (a ∷ []) i h = absurd (omega arith)
first_at (a ∷ b ∷ ns) zero h = refl
first_at (a ∷ b ∷ ns) (suc i) h = let e : 2 * suc i ≡ suc (suc (2 * i)) = omega arith in rw e (first_at ns i (omega arith))

size_at : (ns : List ℕ) (i : ℕ) → i + 1 ≤ length (programmes ns) → (get_or (programmes ns) i (record { first = 0; size = 0 })).size ≡ get_or ns (2 * i + 1) 0
unfolding programmes
size_at [] i h = absurd (omega arith)
size_at (a ∷ []) i h = absurd (omega arith)
size_at (a ∷ b ∷ ns) zero h = refl
size_at (a ∷ b ∷ ns) (suc i) h = let e : 2 * suc i + 1 ≡ suc (suc (2 * i + 1)) = omega arith in rw e (size_at ns i (omega arith))

all_told : (ns : List ℕ) → length ns ≤ 2 * length (programmes ns) + 1
unfolding programmes
all_told [] = omega arith
all_told (a ∷ []) = omega arith
all_told (a ∷ b ∷ ns) = let ih = all_told ns in omega arith

no_more_told : (ns : List ℕ) → 2 * length (programmes ns) ≤ length ns
unfolding programmes
no_more_told [] = omega arith
no_more_told (a ∷ []) = omega arith
no_more_told (a ∷ b ∷ ns) = let ih = no_more_told ns in omega arith

pub programmes_are : Programmes
programmes_are ns = record { first = first_at ns; size = size_at ns; no_more = no_more_told ns; all = all_told ns }

-- the bytes of a part are those of the slice from its place on
pub parts : Parts
unfolding part
parts b p h = record {
  size = part_size b p h;
  bytes = λ i k. get_or-take p.size (drop p.first b) i 0 k ∙ get_or-drop p.first b i 0;
}

-- the levels from which a programme is planned
starts : (j : Job) (o : Option (List ℕ)) → StartsAt j o (starting j o)
unfolding starting
starts j none = its_own
starts j (some ls) = carried_on

-- and that they are as many as its buckets, or not
many : (j : Job) (o : Option (List ℕ)) → InLimits j → as_many j o ≡ true → length (starting j o) ≡ length j.line.buckets
unfolding starting as_many
many j none l e = l.buckets.2
many j (some ls) l e = eqb-true (length ls) (length j.line.buckets) e

not_many : (j : Job) (o : Option (List ℕ)) → as_many j o ≡ false → length (starting j o) ≡ length j.line.buckets → ⊥
unfolding starting as_many
not_many j none e = not_true (sym e)
not_many j (some ls) e = eqb-false (length ls) (length j.line.buckets) e

-- numbers that are written in the midst of a list
module _ (at : ℕ) (new old : List ℕ) (room : at + length new ≤ length old) where
  front_long : length (take at old) ≡ at
  front_long = length-take-le at old (omega arith)

  at_here : take (length new) (drop at (over_at at new old)) ≡ new
  unfolding over_at over
  at_here = rw (drop_at (take at old) (new ++ drop (length new) (drop at old)) at front_long) (take_at new (drop (length new) (drop at old)) (length new) refl)

  at_before : take at (over_at at new old) ≡ take at old
  unfolding over_at
  at_before = take_at (take at old) (over new (drop at old)) at front_long

  at_behind : drop (at + length new) (over_at at new old) ≡ drop (at + length new) old
  unfolding over_at over
  at_behind =
      sym (drop-drop (length new) at (take at old ++ (new ++ drop (length new) (drop at old))))
      ∙ ap (drop (length new)) (drop_at (take at old) (new ++ drop (length new) (drop at old)) at front_long)
      ∙ drop_at new (drop (length new) (drop at old)) (length new) refl
      ∙ drop-drop (length new) at old

-- what stands behind the first bytes of a list
module _ (at : ℕ) (new old : List ℕ) (room : at ≤ length old) where
  behind_here : drop at (take at old ++ new) ≡ new
  behind_here = drop_at (take at old) new at (length-take-le at old room)

  behind_before : take at (take at old ++ new) ≡ take at old
  behind_before = take_at (take at old) new at (length-take-le at old room)

  behind_rest : (n : ℕ) → drop n new ≡ drop n (drop at old) → drop (at + n) (take at old ++ new) ≡ drop (at + n) old
  behind_rest n e = sym (drop-drop n at (take at old ++ new)) ∙ ap (drop n) behind_here ∙ e ∙ drop-drop n at old

  behind_long : length new ≡ length (drop at old) → length (take at old ++ new) ≡ length old
  behind_long e = length-append (take at old) new ∙ omega (arith, length-take-le at old room, length-drop at old)

-- what a turn comes to
data Turned (b : List ℕ) (p : Programme) (st : Standing) : Turn → Type 0 where
  halted : {n : ℕ} {table : List ℕ} → Stops b p st n table → Turned b p st (stops n (record { done = st.done; used = st.used; carried = st.carried; table = table; entries = st.entries; totals = st.totals }))
  moved : {st' : Standing} → PlannedOne b p st st' → st'.used ≤ length st'.entries → Turned b p st (goes_on st')

module _ (b : List ℕ) (p : Programme) (st : Standing) (used : st.used ≤ length st.entries) where
  module _ (j : Job) (o : Opens b p st j (starting j st.carried)) (limits : InLimits j) where
    -- a search is refused by 13 alone
    only_13 : (r : Planned) (n : ℕ) → PlanClaim j (no_pins (length j.units)) total late 0 (start_with j (starting j st.carried)) st.table (rest_of st) r → r.answer ≡ base.refused n → n ≡ 13
    only_13 r n c e = go (eqb n 13) refl
      where
        go : (t : Bool) → eqb n 13 ≡ t → n ≡ 13
        go true q = eqb-true n 13 q
        go false q = absurd (not_refused (sym (c.else_best (λ z. eqb-false n 13 q (refused_same (sym e ∙ z)))).totals_are ∙ e))

    module _ (r : Planned) (f : LevelsFit j (starting j st.carried)) (w : words j ≤ length st.table) (l : 3 * intervals j ≤ length (rest_of st)) (c : PlanClaim j (no_pins (length j.units)) total late 0 (start_with j (starting j st.carried)) st.table (rest_of st) r) where
      rest : Roomy st
      rest = room_left st (omega (arith, l, some_interval j limits))

      has_room : HasRoom j st
      has_room = record { plan = (rw rest.all at l); totals = rest.places }

      -- the standing after a plan that is given
      its_plan : (t : Totals) → r.answer ≡ gives t → (st' : Standing) → goes_on st' ≡ after j (starting j st.carried) st (gives t) r → PlannedOne b p st st' × (st'.used ≤ length st'.entries)
      unfolding after start_with five kept_open
      its_plan t e st' q =
          let g = given (searched f w l c) e in
          let z : intervals j - 0 ≡ intervals j = omega arith in
          let long : length (take st.used st.entries ++ r.entries) ≡ length st.entries = behind_long st.used r.entries st.entries used (g.best.size ∙ ap (λ (x : List ℕ). length x) rest.all) in
          let five_more : 5 * suc st.done ≡ 5 * st.done + 5 = omega arith in
          let space : 5 * st.done + length (five t) ≤ length st.totals = omega (arith, rest.places) in
          rw (goes_same q) (
            record {
              job = j;
              levels = starting j st.carried;
              opens = o;
              fit = f;
              room = has_room;
              plan = g.best.plan;
              best = g.best.best;
              used = refl;
              bytes = ap (take (3 * intervals j)) (behind_here st.used r.entries st.entries used) ∙ (rw z at g.best.bytes);
              entries_before = behind_before st.used r.entries st.entries used;
              entries_behind = behind_rest st.used r.entries st.entries used (3 * intervals j) ((rw z at g.best.rest) ∙ ap (drop (3 * intervals j)) rest.all);
              entries_size = long;
              carried = ap some (leads j limits _ _ _ r t g);
              done = omega arith;
              totals_are = at_here _ (five t) st.totals space ∙ ap five g.counted;
              totals_before = at_before _ (five t) st.totals space;
              totals_behind = rw five_more (at_behind _ (five t) st.totals space);
              totals_size = over_at_length _ (five t) st.totals space;
              table_is = g.best.table_is;
              table_rest = c.table_rest;
              table_size = c.table_size;
            },
            omega (arith, long, has_room.plan, length-drop st.used st.entries),
          )

      by_answer : (a : Answer Totals) → r.answer ≡ a → Turned b p st (after j (starting j st.carried) st a r)
      unfolding after start_with
      by_answer (base.refused n) e =
          let q = only_13 r n c e in
          let t = e ∙ ap base.refused q in
          rw q (halted (no_plan o f w has_room (c.none_iff.0 t) (c.none_table t) c.table_rest c.table_size))
      by_answer (gives t) e = let h = its_plan t e _ refl in moved h.0 h.1

    planned : {r : Planned} → Tried j (starting j st.carried) st.table (rest_of st) r → Turned b p st (after j (starting j st.carried) st r.answer r)
    unfolding after refuse
    planned (too_full f) = halted (level_over o f)
    planned (few_words f w) = halted (short_table o f w)
    planned (few_bytes f w l) = halted (short_list o f w (λ h. l (rw (roomy st h.totals).all h.plan)))
    planned (searched f w l {r} c) = by_answer r f w l c r.answer refl

  turned : {t : Turn} → Seen b p st t → Turned b p st t
  turned (outside f) = halted (passes_slice f)
  turned (not_read h q) = halted (unread h q)
  turned (left h q f) = halted (bytes_left h q f)
  turned (others {j} h q m) = halted (other_buckets h q (starts j st.carried) (not_many j st.carried m))
  turned (opened {j} h q m) =
      let l = limited j (well_read opening (part b p) j p.size q).well_formed in
      planned j (record { inside = h; opens = q; levels = starts j st.carried; alike = many j st.carried l m }) l (tried (part b p) j p.size q st)

-- one programme after another
run : (b : List ℕ) (ps : List Programme) (st : Standing) → st.used ≤ length st.entries → Run b ps st (play b ps st)
unfolding play ended onward
run b [] st used = all_planned
run b (p ∷ ps) st used = go (turned b p st used (seen b p st)) (λ st' u. run b ps st' u)
  where
    go : {t : Turn} → Turned b p st t → ((st' : Standing) → st'.used ≤ length st'.entries → Run b ps st' (play b ps st')) → Run b (p ∷ ps) st (onward t (λ n. play b ps n))
    go (halted s) ih = stopped s
    go (moved {st'} q u) ih = next q (ih st' u)

-- the numbers by which a programme is refused
own_number : {n : ℕ} → OwnNumber opening n → n ≤ 22
own_number (inl h) = omega (arith, h.1)
own_number (inr h) = omega (arith, h.1)

stops_number : {b : List ℕ} {p : Programme} {st : Standing} {n : ℕ} {table : List ℕ} → Stops b p st n table → n ≤ 22
stops_number (passes_slice f) = omega arith
stops_number (unread {n} h q) = own_number (own_numbers opening _ n q)
stops_number (bytes_left h q f) = omega arith
stops_number (other_buckets h q s f) = omega arith
stops_number (level_over o f) = omega arith
stops_number (short_table o f w) = omega arith
stops_number (short_list o f w l) = omega arith
stops_number (no_plan o f w l q t d s) = omega arith

same_number : {p q m n : ℕ} → refused_at p m ≡ refused_at q n → m ≡ n
same_number e = cc

not_finished : {A : Type 0} {p n : ℕ} → finished ≡ refused_at p n → A
not_finished e = let z : ◌≡◌ {A = ℕ} 0 1 = cc in absurd (omega arith)

pub run_numbers : {b : List ℕ} {ps : List Programme} {st : Standing} {r : Played} → Run b ps st r → (place n : ℕ) → r.answer ≡ refused_at place n → n ≤ 22
run_numbers all_planned place n e = not_finished e
run_numbers (stopped s) place n e = let k = stops_number s in let q = same_number e in omega (arith, k, q)
run_numbers (next p r) place n e = run_numbers r place n e

-- a list is one of 1 to 64 pairs
list_iff : (ns : List ℕ) → (is_list ns ≡ true) ↔ IsList ns
unfolding is_list
list_iff ns = (
  λ e. let h = both_true _ _ e in let k = of_kept _ h.1 in record { paired = eqb-true _ _ h.0; some_one = k.0; few = k.1 },
  λ l. true_both _ _ (eq-eqb _ _ l.paired) (is_kept _ (l.some_one, l.few)),
)

pub playlist_calls : PlaylistCalls
unfolding playlist_call ended at_first
playlist_calls b ns table entries totals = in_order _ (one_more refl (list_iff ns) no_more) (Run b (programmes ns) (at_first table entries totals)) (play b (programmes ns) (at_first table entries totals)) _ refl (λ h. run b (programmes ns) (at_first table entries totals) (omega arith))
