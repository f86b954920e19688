-- A table brought up to date: what filling its layers asks and leaves, and its word, in the terms of the job that the bytes hold.
use Prim.Native.Nat.{ℕ, ◌+◌, ◌-◌, ◌*◌, ◌≤◌}
use mathlib.Core.Path.{◌≡◌, sym, ◌∙◌, ap}
use mathlib.Core.List.{List}
use native.Mathlib.Nat.{mul-le-mul_right, one-mul}
use native.Mathlib.Omega.{arith}
use lib.ListN.{length}
use Rattle.model.specs.Job.{Levels, Job, intervals, on_line}
use Rattle.model.specs.Best.{unlimited}
use Rattle.model.specs.Table.{InLayer, layer_words, words, layer_of, word_in}
use Rattle.model.proofs.Lines.{own_line}
use Rattle.model.proofs.Layers.{word_in_layer}
use Rattle.format.specs.JobBytes.{Header, job_in, Opens}
use Rattle.format.proofs.Bounds.{start_inside}
use Rattle.format.proofs.Opened.{job_limits, units_are, delay_is, intervals_are, start_is}
use Rattle.pinning.specs.PinSet.{PinSet, lines}
use Rattle.interval.specs.Answers.{start_of}
use Rattle.planning.specs.Rule.{refilled}
use Rattle.planning.specs.See.{renewed}
use Rattle.planning.proofs.Refilling.{refilled_length}
use Rattle.line.specs.declared.Line.{Line}
use Rattle.line.specs.Answers.{line_is, WordAsked}
use Rattle.table.specs.Answers.{job_on, LineOf, Fills}
use Rattle.see.specs.Answers.{Renews, Renewed}

module _ (b : List ℕ) (h : Header) (s : PinSet) (u : ℕ) (table : List ℕ) (r : Renews b h s u table) (l : Line) (is : LineOf b l) (last : ℕ) (counts : last ≡ u + h.delay) where
  abbrev j : Job
  j = job_in b

  opens : Opens b h
  opens = r.ready.opens

  few : last ≤ intervals j
  few = omega (arith, intervals_are b h opens, r.unit, counts)

  space : (last + 1) * layer_words (line_is l) ≤ length table
  unfolding words
  space = rw is.is (omega (arith, r.room, mul-le-mul_right {m = last + 1} {n = intervals j + 1} (layer_words j.line) (omega (arith, few))))

  pub fills : (pins : List ℕ) → length pins ≡ 512 → Fills b h l pins 0 last table
  fills pins n = record {
    starts = record { opens = opens; line = is.fits; pins_size = n };
    ends = omega arith;
    few = omega (arith, few, intervals_are b h opens);
    room = space;
  }

  module _ (new : List ℕ) (e : new ≡ refilled ◌+◌ (job_on b l) (unlimited (lines h.units s.pins)) 0 (last - 0) table) where
    own : job_on b l ≡ j
    own = ap (on_line j) is.is ∙ own_line j

    table_is : new ≡ renewed j (lines (length j.units) s.pins) u table
    unfolding renewed
    table_is =
        let q : last - 0 ≡ u + j.delay = omega (arith, counts, delay_is b h opens) in
        e ∙ rw (own, q, units_are b h opens)

    long : length new ≡ length table
    unfolding renewed
    long =
        let some_room : (0 + (u + j.delay)) * layer_words (line_is l) ≤ length table = omega (arith, space, mul-le-mul_right {m = 0 + (u + j.delay)} {n = last + 1} (layer_words (line_is l)) (omega (arith, counts, delay_is b h opens))) in
        ap length table_is ∙ refilled_length ◌+◌ j (unlimited (lines (length j.units) s.pins)) (u + j.delay) 0 table (rw is.is at some_room)

    inside : InLayer j.line j.start
    inside = start_inside j (job_limits b h opens)

    begins : (start : Levels) → start ≡ start_of h → start ≡ j.start
    unfolding start_of
    begins start q = q ∙ sym (start_is b h opens)

    pub word_asked : (start : Levels) → start ≡ start_of h → WordAsked new l 0 start
    word_asked start q = record {
      line = is.fits;
      few = omega arith;
      room = omega (arith, long, space, mul-le-mul_right {m = 1} {n = last + 1} (layer_words (line_is l)) (omega arith), one-mul (layer_words (line_is l)));
      inside = rw (is.is, begins start q) inside;
    }

    pub is_renewed : (start : Levels) → start ≡ start_of h → (word : ℕ) → word ≡ word_in (line_is l) (layer_of (line_is l) new 0) start → Renewed b s u table word new
    is_renewed start q word w = record {
      table_is = table_is;
      word_is = w ∙ rw (is.is, begins start q) (sym (word_in_layer j new 0 j.start inside));
    }
