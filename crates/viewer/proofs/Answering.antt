-- What a call that sees answers and leaves, from what the calls within it answered.
use Prim.Native.Nat.{ℕ, ◌<◌, ◌≤◌}
use mathlib.Core.Path.{◌≡◌, refl, sym, ◌∙◌, ap}
use mathlib.Core.Option.{Option, none, some}
use mathlib.Core.List.{List}
use native.Mathlib.Omega.{arith}
use native.Mathlib.Decide.{dec_lt}
use lib.ListN.{length}
use borrow.Author.Tests.{lt-ltb, le-ltb}
use Rattle.base.specs.Answer.{refused, gives}
use Rattle.model.specs.Pins.{Call, sees}
use Rattle.pinning.specs.PinSet.{PinSet}
use Rattle.pinning.specs.Calls.{Handed, call, click}
use Rattle.pinning.specs.Numbers.{set_in}
use Rattle.planning.specs.See as sight
use Rattle.planning.specs.See.{unit_of, see_call}
use Rattle.planning.specs.Seeing.{refused_by}
use Rattle.planning.proofs.Seeing.{see_clicks}
use Rattle.table.specs.Answers.{table_words}
use Rattle.std.specs.Prelude.{Ok}
use Rattle.see.specs.declared.Seen as code
use Rattle.see.specs.Answers.{answered, seen}
use Rattle.see.proofs.Seeing.{see_refused, taken, short_seen, not_short}
use Rattle.exporting.specs.Sets as exported
use Rattle.exporting.specs.Sets.{after_see, see_export}
use Rattle.exporting.proofs.SetRooms.{seen_long, see_shown, see_before, see_12}
use Rattle.viewer.specs.Answers.{unseen_by, unseen}

module _ (b l : List ℕ) (k : Call) (own : PinSet) (e : own ≡ set_in l) (table values : List ℕ) where
  abbrev r : sight.Seen
  r = see_call b (set_in l) k table

  -- with room for the value
  module _ (x : code.Seen) (new : List ℕ) (q : seen x new ≡ see_call b own k table) where
    is_seen : seen x new ≡ r
    is_seen = rw e at q

    word_answer : (w : ℕ) → x.answer ≡ Ok w → (seen x new).answer ≡ gives w
    unfolding seen
    word_answer w z = rw z

    pub room_told : 1 ≤ length values → (w : ℕ) → x.answer ≡ Ok w → (528 ≤ length l) × (1 ≤ length values)
    room_told h w z =
        let a : r.answer ≡ gives w = ap (λ (y : sight.Seen). y.answer) (sym is_seen) ∙ word_answer w z in
        (seen_long b l k table w a, h)

    as_seen : (y : exported.Seen) → y ≡ after_see (answered x.answer) (seen x new) l values → y ≡ after_see (seen x new).answer (seen x new) l values
    unfolding seen
    as_seen y z = z

    pub told : 1 ≤ length values → (y : exported.Seen) → y ≡ after_see (answered x.answer) (seen x new) l values → y ≡ see_export b l k table values
    told h y z =
        let step : after_see (seen x new).answer (seen x new) l values ≡ after_see r.answer r l values = ap (λ (v : sight.Seen). after_see v.answer v l values) is_seen in
        as_seen y z ∙ step ∙ sym (see_shown b l k table values h)

  -- without it, from what the pin or the lift answered
  module _ (h : Handed) (made : h ≡ call b own k) (long : length own.pins ≡ 512) (full : length h.set.pins ≡ 512) (short : length values < 1) where
    refuses : (n : ℕ) → record { answer = refused n; set = own; table = table } ≡ see_call b own k table → (click b (set_in l) (sees k (length table))).refused ≡ some n
    unfolding refused_by
    refuses n a =
        let c : record { answer = refused n; set = set_in l; table = table } ≡ r = rw e at a in
        sym (see_clicks b (set_in l) k table).1 ∙ ap (λ (v : sight.Seen). refused_by v.answer) (sym c)

    shape : (o : Option ℕ) → h.refused ≡ o → record { refused = o; set = h.set } ≡ call b own k
    shape o z = ap (λ (p : Option ℕ). record { refused = p; set = h.set }) (sym z) ∙ made

    of_words : h.refused ≡ none → Dec (length table < table_words h.set.header) → exported.seen (unseen_by none h.set.header (length table)) l table values ≡ see_export b l k table values
    unfolding unseen_by
    of_words z (yes q) =
        rw (lt-ltb (length table) (table_words h.set.header) q)
        (see_before b l k table values short 11 (refuses 11 (short_seen b own k h.set (taken b own k h.set (shape none z)) long full (unit_of k) refl table q)))
    of_words z (no q) =
        let free : refused_by (see_call b own k table).answer ≡ none = not_short b own k h.set (taken b own k h.set (shape none z)) long full (unit_of k) refl table (omega arith) in
        rw (le-ltb (length table) (table_words h.set.header) (omega arith))
        (see_12 b l k table values short (sym (see_clicks b (set_in l) k table).1 ∙ (rw e at free)))

    of_refusal : (n : ℕ) → h.refused ≡ some n → (click b (set_in l) (sees k (length table))).refused ≡ some n
    unfolding refused_by
    of_refusal n z =
        let a : record { answer = refused n; set = h.set; table = table } ≡ see_call b own k table = see_refused b own k table n h.set (shape (some n) z) in
        let c : record { answer = refused n; set = h.set; table = table } ≡ r = rw e at a in
        sym (see_clicks b (set_in l) k table).1 ∙ ap (λ (v : sight.Seen). refused_by v.answer) (sym c)

    pub not_seen : exported.seen (unseen h (length table)) l table values ≡ see_export b l k table values
    not_seen = go h.refused refl
      where
        go : (o : Option ℕ) → h.refused ≡ o → exported.seen (unseen_by o h.set.header (length table)) l table values ≡ see_export b l k table values
        go none z = of_words z (dec_lt (length table) (table_words h.set.header))
        go (some n) z = unfold unseen_by in (see_before b l k table values short n (of_refusal n z))
