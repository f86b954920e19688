-- A list of clicks leaves exactly what the book holds: `History`; so does a list of pins and lifts: `CallHistory`, by `Plain`; what a call that sees is answered: `Sees`; and no other trace is left: `NoTrace`, `OneSet`.
use Prim.Native.Nat.{ℕ, ◌-◌, ◌<◌, ◌≤◌}
use mathlib.Core.Path.{◌≡◌, refl, sym, ◌∙◌, ap}
use mathlib.Core.Logic.{◌⊎◌, inl, inr}
use mathlib.Core.Bool.{Bool, true, false, not}
use mathlib.Core.Option.{Option, none, some, some-injective, none-ne-some}
use mathlib.Core.List.{List, [], ◌∷◌, map}
use native.Mathlib.Decide.{dec_lt}
use native.Mathlib.Omega.{arith}
use native.Nat.{ℕᴺ_discrete}
use lib.Dec.{leb, ltb, eqb}
use lib.ListN.{length, get_or, set, length-set, length-replicate, get_or-replicate}
use lib.Seq.{get_or-set_same, get_or-set_other, ext_get_or}
use borrow.Author.Tests.{leb-true, leb-false, le-leb, lt-leb, lt-ltb, le-ltb, eq-eqb, ne_eqb}
use Rattle.base.specs.Refusals.{test, refusal, unless, first, guarded}
use Rattle.base.proofs.Refusals.{refusal_join, guarded_past, guarded_here, guarded_last}
use Rattle.std.specs.Prelude.{if◌then◌else◌}
use Rattle.model.specs.Job.{Job, job_coding}
use Rattle.model.specs.Pins.{PinMap, PinTotals, no_pins, mapped_pin, Call, pin, lift, Click, plain, sees, Noted, outside, note_pin, note_lift, note, note_short, note_click, pins_after, answers, clicks_after, click_answers, with_line, pin_totals}
use Rattle.model.specs.Table.{words}
use Rattle.model.proofs.PinTotals.{totals_same, totals_filled, totals_emptied, totals_none}
use Rattle.format.specs.Parser.{took, on_read}
use Rattle.format.specs.JobBytes.{Header, header_in, opening, parse}
use Rattle.format.specs.Claims.{InLimits}
use Rattle.format.proofs.Places.{well_read}
use Rattle.format.proofs.Bounds.{limited}
use Rattle.format.specs.Choices.{no_choice, choice_of}
use Rattle.pinning.specs.PinSet.{PinSet, lines, unpinned, fresh}
use Rattle.pinning.specs.Check.{Matches, checked}
use Rattle.pinning.specs.Calls.{opened, open_call, Handed, refuse, take_in, with_pin, without_pin, pin_of, call_tests, called, call_in, call, call_of, click_tests, click_in, click, CallsMade, after, run, run_clicks}
use Rattle.pinning.specs.Claims.{HistoryClaim, History, Plain, CallHistory, Sees, NoTrace, OneSet}
use Rattle.format.proofs.Choices.{number_none, number_some, of_mark, of_choice}
use Rattle.pinning.proofs.Inside.{inside}
use Rattle.pinning.proofs.Lines.{lines_at, lines_length, lines_set, lines_unpinned}
use Rattle.pinning.proofs.Agree.{matched}

-- the set holds the map: what `HistoryClaim` says of a set, with what is needed to go on
pub record Holds (j : Job) (m : PinMap) (s : PinSet) : Type 0 where
  pub header : s.header ≡ header_in j
  pub size : length s.pins ≡ 512
  pub pins : lines (length j.units) s.pins ≡ m
  pub choices : (i x : ℕ) → i < length j.units → get_or m i none ≡ some x → x < j.choices
  pub past : (i : ℕ) → length j.units ≤ i → i < 512 → get_or s.pins i 0 ≡ no_choice
  pub totals : s.totals ≡ pin_totals j m

-- what the book's call answers and leaves is what the call answers and leaves
pub record Follows (j : Job) (n : Noted) (h : Handed) : Type 0 where
  pub answered : h.refused ≡ n.refused
  pub holds : Holds j n.map h.set

module _ (j : Job) (limits : InLimits j) where
  module _ (m : PinMap) (s : PinSet) (h : Holds j m s) where
    map_length : length m ≡ length j.units
    map_length = ap length (sym h.pins) ∙ lines_length (length j.units) s.pins (omega (arith, h.size, limits.units))

    byte_line : (i : ℕ) → i < length j.units → choice_of (get_or s.pins i 0) ≡ get_or m i none
    byte_line i l = sym (lines_at (length j.units) s.pins i (omega (arith, h.size, limits.units)) l) ∙ ap (λ (k : PinMap). get_or k i none) h.pins

    -- a set that holds a map passes the check
    pub holds_matches : Matches j s
    holds_matches = record { header = h.header; pins = λ i l. go i l (get_or m i none) refl; past = h.past; totals = h.totals ∙ rw h.pins refl }
      where
        go : (i : ℕ) → i < length j.units → (o : Option ℕ) → get_or m i none ≡ o → (get_or s.pins i 0 ≡ no_choice) ⊎ (get_or s.pins i 0 < j.choices)
        go i l none e = inl (number_none _ (byte_line i l ∙ e))
        go i l (some x) e = inr (let q = number_some _ x (byte_line i l ∙ e) in let k = h.choices i x l e in omega arith)

    -- a refused call leaves both as they were
    refused_follows : (n : ℕ) → Follows j (record { refused = some n; map = m }) (refuse s n)
    unfolding refuse
    refused_follows n = record { answered = refl; holds = h }

    module _ (i : ℕ) (l : i < length j.units) where
      -- the byte of a unit and its line are changed together
      kept_past : (x k : ℕ) → length j.units ≤ k → k < 512 → get_or (set s.pins i x) k 0 ≡ no_choice
      kept_past x k p q = get_or-set_other s.pins i k x 0 (λ e. omega arith) ∙ h.past k p q

      changed_lines : (x : ℕ) → lines (length j.units) (set s.pins i x) ≡ set m i (choice_of x)
      changed_lines x = lines_set (length j.units) s.pins i x l ∙ ap (λ (k : PinMap). set k i (choice_of x)) h.pins

      changed_choices : (o : Option ℕ) → ((x : ℕ) → o ≡ some x → x < j.choices) → (k y : ℕ) → k < length j.units → get_or (set m i o) k none ≡ some y → y < j.choices
      changed_choices o f k y p e = go (ℕᴺ_discrete k i)
        where
          go : Dec (k ≡ i) → y < j.choices
          go (yes q) = f y (sym (get_or-set_same m i o none (omega (arith, map_length))) ∙ ap (λ (n : ℕ). get_or (set m i o) n none) (sym q) ∙ e)
          go (no q) = h.choices k y p (sym (get_or-set_other m i k o none q) ∙ e)

      pinned_holds : (x : ℕ) → x < j.choices → get_or m i none ≡ none → Holds j (set m i (some x)) (with_pin s i x (job_coding j i x))
      unfolding with_pin pin_totals
      pinned_holds x c e =
          let p : choice_of x ≡ some x = of_choice x (λ q. omega (arith, limits.choices)) in
          record {
            header = h.header;
            size = rw length-set h.size;
            pins = changed_lines x ∙ ap (set m i) p;
            choices = changed_choices (some x) (λ y q. let z = some-injective x y q in omega arith);
            past = kept_past x;
            totals = rw (totals_filled (job_coding j) m i x (length j.units) l (omega (arith, map_length)) e, h.totals) (unfold with_line in refl);
          }

      lifted_holds : (y : ℕ) → get_or m i none ≡ some y → Holds j (set m i none) (without_pin s i (job_coding j i y))
      unfolding without_pin pin_totals with_line
      lifted_holds y e =
          let t : pin_totals j m ≡ with_line (job_coding j i) (some y) (pin_totals j (set m i none)) = totals_emptied (job_coding j) m i y (length j.units) l (omega (arith, map_length)) e in
          let r = h.totals ∙ t in
          record {
            header = h.header;
            size = rw length-set h.size;
            pins = changed_lines no_choice ∙ ap (set m i) of_mark;
            choices = changed_choices none (λ x q. absurd (none-ne-some x q));
            past = kept_past no_choice;
            totals = rw r (totals_same (omega arith) (omega arith) (omega arith));
          }

    -- a unit in 1 to N stands in a place below N
    place_below : (u : ℕ) → outside (length j.units) u ≡ false → u - 1 < length j.units
    place_below u e = let k = inside (length j.units) u e in omega arith

    -- the byte of a unit with a line that is empty, and with one that has a choice
    line_empty : (u : ℕ) → u - 1 < length j.units → get_or m (u - 1) none ≡ none → eqb (pin_of s u) no_choice ≡ true
    line_empty u l e = eq-eqb (pin_of s u) no_choice (number_none (pin_of s u) (byte_line (u - 1) l ∙ e))

    line_full : (u y : ℕ) → u - 1 < length j.units → get_or m (u - 1) none ≡ some y → eqb (pin_of s u) no_choice ≡ false
    line_full u y l e = ne_eqb (pin_of s u) no_choice (λ q. none-ne-some y (sym of_mark ∙ ap choice_of (sym q) ∙ byte_line (u - 1) l ∙ e))

    pin_follows : (u x : ℕ) → u - 1 < length j.units → x < j.choices → (o : Option ℕ) → get_or m (u - 1) none ≡ o → Follows j (note_pin m u x o) (guarded (refuse s) (test 9 (eqb (pin_of s u) no_choice) ∷ []) (take_in (called j s (pin u x))))
    unfolding note_pin take_in called
    pin_follows u x l c none e = rw (guarded_last (refuse s) (test 9 (eqb (pin_of s u) no_choice)) (take_in (called j s (pin u x))) (line_empty u l e)) (record { answered = refl; holds = pinned_holds (u - 1) l x c e })
    pin_follows u x l c (some y) e = rw (guarded_here (refuse s) (test 9 (eqb (pin_of s u) no_choice)) [] (take_in (called j s (pin u x))) (line_full u y l e)) (refused_follows 9)

    lift_follows : (u : ℕ) → u - 1 < length j.units → (o : Option ℕ) → get_or m (u - 1) none ≡ o → Follows j (note_lift m u o) (guarded (refuse s) (test 10 (not (eqb (pin_of s u) no_choice)) ∷ []) (take_in (called j s (lift u))))
    unfolding note_lift take_in called
    lift_follows u l none e = rw (guarded_here (refuse s) (test 10 (not (eqb (pin_of s u) no_choice))) [] (take_in (called j s (lift u))) (ap not (line_empty u l e))) (refused_follows 10)
    lift_follows u l (some y) e =
        let q : pin_of s u ≡ y = number_some (pin_of s u) y (byte_line (u - 1) l ∙ e) in
        rw (guarded_last (refuse s) (test 10 (not (eqb (pin_of s u) no_choice))) (take_in (called j s (lift u))) (ap not (line_full u y l e)), q) (record { answered = refl; holds = lifted_holds (u - 1) l y e })

    pub call_follows : (k : Call) → Follows j (note j.choices m k) (call_in j s k)
    unfolding note call_in call_tests mapped_pin
    call_follows (pin u x) = rw map_length (go (outside (length j.units) u) refl (leb j.choices x) refl)
      where
        go : (t : Bool) → outside (length j.units) u ≡ t → (c : Bool) → leb j.choices x ≡ c → Follows j (if t then record { refused = some 7; map = m } else if c then record { refused = some 8; map = m } else note_pin m u x (get_or m (u - 1) none)) (guarded (refuse s) (test 7 (not t) ∷ test 8 (ltb x j.choices) ∷ test 9 (eqb (pin_of s u) no_choice) ∷ []) (take_in (called j s (pin u x))))
        go true p c q = rw (guarded_here (refuse s) (test 7 false) (test 8 (ltb x j.choices) ∷ test 9 (eqb (pin_of s u) no_choice) ∷ []) (take_in (called j s (pin u x))) refl) (refused_follows 7)
        go false p true q = rw (guarded_past (refuse s) (test 7 true) (test 8 (ltb x j.choices) ∷ test 9 (eqb (pin_of s u) no_choice) ∷ []) (take_in (called j s (pin u x))) refl ∙ guarded_here (refuse s) _ _ _ (le-ltb x j.choices (leb-true j.choices x q))) (refused_follows 8)
        go false p false q = rw (guarded_past (refuse s) (test 7 true) (test 8 (ltb x j.choices) ∷ test 9 (eqb (pin_of s u) no_choice) ∷ []) (take_in (called j s (pin u x))) refl ∙ guarded_past (refuse s) _ _ _ (lt-ltb x j.choices (leb-false j.choices x q))) (pin_follows u x (place_below u p) (leb-false j.choices x q) (get_or m (u - 1) none) refl)
    call_follows (lift u) = rw map_length (go (outside (length j.units) u) refl)
      where
        go : (t : Bool) → outside (length j.units) u ≡ t → Follows j (if t then record { refused = some 7; map = m } else note_lift m u (get_or m (u - 1) none)) (guarded (refuse s) (test 7 (not t) ∷ test 10 (not (eqb (pin_of s u) no_choice)) ∷ []) (take_in (called j s (lift u))))
        go true p = rw (guarded_here (refuse s) (test 7 false) (test 10 (not (eqb (pin_of s u) no_choice)) ∷ []) (take_in (called j s (lift u))) refl) (refused_follows 7)
        go false p = rw (guarded_past (refuse s) (test 7 true) (test 10 (not (eqb (pin_of s u) no_choice)) ∷ []) (take_in (called j s (lift u))) refl) (lift_follows u (place_below u p) (get_or m (u - 1) none) refl)

    -- a click follows the book's, since its call does
    its_call : (k : Call) (o : Option ℕ) → refusal (call_tests j s k) ≡ o → Follows j (note j.choices m k) (unless (refuse s) o (take_in (called j s k)))
    unfolding call_in guarded
    its_call k o q = rw q at (call_follows k)

    sees_follows : (k : Call) (n : ℕ) (t : Bool) → leb (words j) n ≡ t → (o : Option ℕ) → refusal (call_tests j s k) ≡ o → Follows j (if t then note j.choices m k else note_short m (note j.choices m k).refused) (unless (refuse s) (first o (refusal (test 11 t ∷ []))) (take_in (called j s k)))
    unfolding refusal unless note_short refuse take_in
    sees_follows k n t e o q = go t o (its_call k o q)
      where
        go : (t : Bool) (o : Option ℕ) → Follows j (note j.choices m k) (unless (refuse s) o (take_in (called j s k))) → Follows j (if t then note j.choices m k else note_short m (note j.choices m k).refused) (unless (refuse s) (first o (refusal (test 11 t ∷ []))) (take_in (called j s k)))
        go true none f = f
        go true (some x) f = f
        go false none f = rw (← f.answered) (refused_follows 11)
        go false (some x) f = rw (← f.answered) (refused_follows x)

    pub click_follows : (k : Click) → Follows j (note_click (words j) j.choices m k) (click_in j s k)
    unfolding note_click click_in click_tests call_of
    click_follows (plain k) = unfold call_in in call_follows k
    click_follows (sees k n) = unfold guarded in rw (refusal_join (call_tests j s k) (test 11 (leb (words j) n) ∷ [])) (sees_follows k n (leb (words j) n) refl (refusal (call_tests j s k)) refl)

-- a fresh set holds no pin
module _ (j : Job) (limits : InLimits j) where
  fresh_holds : Holds j (no_pins (length j.units)) (fresh (header_in j))
  unfolding fresh unpinned no_pins pin_totals
  fresh_holds = record {
    header = refl;
    size = length-replicate 512 no_choice;
    pins = lines_unpinned (length j.units) limits.units.1;
    choices = λ i x l e. absurd (none-ne-some x (sym (get_or-replicate {A = Option ℕ} (length j.units) i none none l) ∙ e));
    past = λ i l k. get_or-replicate 512 i no_choice 0 k;
    totals = sym (totals_none (job_coding j) (length j.units) (length j.units) (omega arith));
  }

  pub fresh_pins : lines (length j.units) (fresh (header_in j)).pins ≡ no_pins (length j.units)
  fresh_pins = fresh_holds.pins

  pub fresh_matches : Matches j (fresh (header_in j))
  fresh_matches = holds_matches j limits _ _ fresh_holds

-- a set of 512 pins that matches holds its own lines
pub matches_holds : (j : Job) (s : PinSet) → InLimits j → Matches j s → length s.pins ≡ 512 → Holds j (lines (length j.units) s.pins) s
matches_holds j s limits h size = record {
  header = h.header;
  size = size;
  pins = refl;
  choices = λ i x l e. its_choice i x l (number_some (get_or s.pins i 0) x (sym (lines_at (length j.units) s.pins i (omega (arith, size, limits.units)) l) ∙ e)) (sym (lines_at (length j.units) s.pins i (omega (arith, size, limits.units)) l) ∙ e) (h.pins i l);
  past = h.past;
  totals = h.totals;
}
  where
    its_choice : (i x : ℕ) → i < length j.units → get_or s.pins i 0 ≡ x → choice_of (get_or s.pins i 0) ≡ some x → (get_or s.pins i 0 ≡ no_choice) ⊎ (get_or s.pins i 0 < j.choices) → x < j.choices
    its_choice i x l q e (inl n) = absurd (none-ne-some x (sym of_mark ∙ ap choice_of (sym n) ∙ e))
    its_choice i x l q e (inr n) = omega (arith, q, n)

-- a set that holds a map is taken by the check, and its call is the one for the job
module _ (b : List ℕ) (j : Job) (n : ℕ) (parsed : parse opening b ≡ took j n) (limits : InLimits j) where
  pub holds_checked : (m : PinMap) (s : PinSet) → Holds j m s → checked opening b s ≡ took j n
  holds_checked m s h = matched opening b j n parsed s (holds_matches j limits m s h)

  pub holds_click : (m : PinMap) (s : PinSet) (k : Click) → Holds j m s → click b s k ≡ click_in j s k
  unfolding click on_read
  holds_click m s k h = rw (holds_checked m s h)

  -- from any set that holds a map
  record Followed (m : PinMap) (clicks : List Click) (r : CallsMade) : Type 0 where
    answered : r.answers ≡ click_answers (words j) j.choices m clicks
    holds : Holds j (clicks_after (words j) j.choices m clicks) r.set

  run_follows : (m : PinMap) (s : PinSet) (clicks : List Click) → Holds j m s → Followed m clicks (run_clicks b s clicks)
  unfolding run_clicks after click_answers clicks_after
  run_follows m s [] h = record { answered = refl; holds = h }
  run_follows m s (k ∷ clicks) h =
      let f = click_follows j limits m s h k in
      let r = run_follows (note_click (words j) j.choices m k).map (click_in j s k).set clicks f.holds in
      rw (holds_click m s k h) (record { answered = rw (f.answered, r.answered); holds = r.holds })

  opened_follows : (clicks : List Click) → Followed (no_pins (length j.units)) clicks (run_clicks b (open_call opening b).set clicks)
  unfolding open_call opened
  opened_follows clicks = rw parsed (run_follows (no_pins (length j.units)) (fresh (header_in j)) clicks (fresh_holds j limits))

  history_claim : (clicks : List Click) → HistoryClaim b j n (click_answers (words j) j.choices (no_pins (length j.units)) clicks) (clicks_after (words j) j.choices (no_pins (length j.units)) clicks) (run_clicks b (open_call opening b).set clicks)
  history_claim clicks =
      let r = opened_follows clicks in
      record {
        answered = r.answered;
        pins = r.holds.pins;
        past = r.holds.past;
        totals = r.holds.totals;
        passes = holds_checked _ _ r.holds;
      }

pub history : History
history b j n parsed = history_claim b j n parsed (limited j (well_read opening b j n parsed).well_formed)

-- calls by themselves
pub plain_clicks : Plain
unfolding run_clicks run click_answers answers clicks_after pins_after note_click click click_in click_tests call_of call call_in
plain_clicks [] = record { made = λ b s. refl; answered = λ w c m. refl; noted = λ w c m. refl }
plain_clicks (k ∷ ks) =
    let r = plain_clicks ks in
    record {
      made = λ b s. ap (after (call b s k).refused) (r.made b (call b s k).set);
      answered = λ w c m. ap (λ (l : List (Option ℕ)). (note c m k).refused ∷ l) (r.answered w c (note c m k).map);
      noted = λ w c m. r.noted w c (note c m k).map;
    }

pub call_history : CallHistory
call_history b j n parsed calls =
    let p = plain_clicks calls in
    rw (← p.answered (words j) j.choices (no_pins (length j.units)), ← p.noted (words j) j.choices (no_pins (length j.units)), ← p.made b (open_call opening b).set) (history b j n parsed (map plain calls))

pub sees_are : Sees
unfolding note_click note_short
sees_are words choices m k n = record {
  refused_first = λ x e. first_of (leb words n) (note choices m k) x e;
  then_11 = λ e. (λ q. ltb_of (leb words n) refl e q, λ l. rw (le_false l) (rw e));
  short_keeps = λ l. rw (le_false l) (kept (note choices m k).refused);
  else_noted = λ l. rw (le-leb words n l);
}
  where
    le_false : n < words → leb words n ≡ false
    le_false l = lt-leb words n l

    kept : (o : Option ℕ) → (note_short m o).map ≡ m
    kept none = refl
    kept (some x) = refl

    first_of : (t : Bool) (r : Noted) (x : ℕ) → r.refused ≡ some x → (if t then r else note_short m r.refused).refused ≡ some x
    first_of true r x e = e
    first_of false r x e = rw e

    ltb_of : (t : Bool) → leb words n ≡ t → (note choices m k).refused ≡ none → (if t then note choices m k else note_short m (note choices m k).refused).refused ≡ some 11 → n < words
    ltb_of true q e z = absurd (none-ne-some 11 (sym e ∙ z))
    ltb_of false q e z = leb-false words n q

-- two sets that hold one map are one set
module _ (j : Job) (limits : InLimits j) (m : PinMap) (s r : PinSet) (h : Holds j m s) (k : Holds j m r) where
  same_pin : (i : ℕ) → i < 512 → get_or s.pins i 0 ≡ get_or r.pins i 0
  same_pin i l = go (dec_lt i (length j.units))
    where
      of_line : i < length j.units → (o : Option ℕ) → get_or m i none ≡ o → get_or s.pins i 0 ≡ get_or r.pins i 0
      of_line q none e = number_none _ (byte_line j limits m s h i q ∙ e) ∙ sym (number_none _ (byte_line j limits m r k i q ∙ e))
      of_line q (some x) e = number_some _ x (byte_line j limits m s h i q ∙ e) ∙ sym (number_some _ x (byte_line j limits m r k i q ∙ e))

      go : Dec (i < length j.units) → get_or s.pins i 0 ≡ get_or r.pins i 0
      go (yes q) = of_line q (get_or m i none) refl
      go (no q) = h.past i (omega arith) l ∙ sym (k.past i (omega arith) l)

  same_pins : s.pins ≡ r.pins
  same_pins = ext_get_or 0 s.pins r.pins (h.size ∙ sym k.size) (λ i l. same_pin i (omega (arith, h.size)))

  one_set : s ≡ r
  one_set =
      ap (λ (x : Header). record { header = x; pins = s.pins; totals = s.totals }) (h.header ∙ sym k.header)
      ∙ ap (λ (x : List ℕ). record { header = r.header; pins = x; totals = s.totals }) same_pins
      ∙ ap (λ (x : PinTotals). record { header = r.header; pins = r.pins; totals = x }) (h.totals ∙ sym k.totals)

pub one_set_of : OneSet
one_set_of d b j n parsed s r h k long full same =
    let limits = limited j (well_read d b j n parsed).well_formed in
    one_set j limits (lines (length j.units) r.pins) s r (rw same at (matches_holds j s limits h long)) (matches_holds j r limits k full)

pub no_trace : NoTrace
no_trace b j n parsed clicks others same =
    let limits = limited j (well_read opening b j n parsed).well_formed in
    let m = clicks_after (words j) j.choices (no_pins (length j.units)) others in
    one_set j limits m _ _ (rw same at (opened_follows b j n parsed limits clicks).holds) (opened_follows b j n parsed limits others).holds
