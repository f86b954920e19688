-- The entry that is read off the table in a place is the first of the best plan, with what it does and where it leads.
use Prim.Native.Nat.{ℕ, suc, ◌+◌, ◌<◌, ◌≤◌}
use mathlib.Core.Path.{◌≡◌, refl, sym, ◌∙◌, ap}
use mathlib.Core.Bool.{Bool, true, false}
use mathlib.Core.Option.{none, some, some-injective, none-ne-some}
use mathlib.Core.List.{List}
use native.Mathlib.Nat.{mul-le-mul_right}
use native.Mathlib.Omega.{arith}
use lib.ListN.{length, get_or}
use lib.Seq.{get_or-take}
use Rattle.trellis.specs.Pairs.{Pair, pair}
use Rattle.trellis.specs.Table.{first_at}
use Rattle.std.specs.Prelude.{if◌then◌else◌}
use Rattle.model.specs.Job as model
use Rattle.model.specs.Job.{Coding, on_line, intervals, coding, sends, takes, distorts}
use Rattle.model.specs.Admissible.{Violation}
use Rattle.model.specs.Step.{violates, reaches}
use Rattle.model.specs.Best.{Order, Open, pairs, entry, reached}
use Rattle.model.specs.Table.{layer_words, words, layer_of, word_in, IsTable, Bounded}
use Rattle.model.proofs.Steps.{reaches_after_sending}
use Rattle.model.proofs.Lines.{intervals_on, bounded_on, choice_on, coding_on}
use Rattle.format.specs.Choices.{no_choice, choice_of}
use Rattle.format.specs.JobBytes.{job_in}
use Rattle.format.proofs.Bounds.{CodingKept, coding_within, bounded}
use Rattle.format.proofs.Opened.{job_formed, job_limits, delay_is, intervals_are, few_intervals}
use Rattle.header.specs.declared.Header.{Header}
use Rattle.header.specs.Answers.{plain}
use Rattle.pinning.specs.PinSet.{lines}
use Rattle.interval.specs.declared.Levels.{Levels}
use Rattle.interval.specs.declared.Interval.{Interval}
use Rattle.interval.specs.Answers.{levels_of, outcome_is, line_of}
use Rattle.planning.specs.Rule.{pair_offer, allowed_in}
use Rattle.planning.proofs.Offers.{first_offer_cong}
use Rattle.planning.proofs.Layers.{layers_table}
use Rattle.planning.proofs.Reading.{FirstPair, first_pair, here_is}
use Rattle.line.specs.declared.Line.{Line}
use Rattle.table.specs.declared.Choices.{Choices}
use Rattle.std.specs.Prelude as std
use Rattle.std.specs.Prelude.{Result, Ok, Err, IsOk}
use Rattle.parts.specs.declared.Violation as code
use Rattle.line.specs.declared.Candidate.{Candidate}
use Rattle.decoder.specs.Answers.{coding_if}
use Rattle.line.specs.Answers.{line_is, candidate_is, IntervalOf, step_of}
use Rattle.table.specs.Answers.{job_on, open_of, allowed_is, ChoicesFit, CandidateOf, ChoicesIn, ChoicesOf, Starts}
use Rattle.best.specs.Answers.{Layered, Reached, chosen, Standing, Moves, BestMove}
use Rattle.line.proofs.Sizes.{rates_count}
use Rattle.table.proofs.Jobs.{choices_on}
use Rattle.line.proofs.Offers.{line_steps}

-- a violation reaches no levels
pub not_reached : (v : Violation) (s : model.Levels) → violates v ≡ reaches s → ⊥
not_reached v s e = let z : ◌≡◌ {A = ℕ} 0 1 = cc in omega arith

-- an interval that leads to levels violates nothing
pub reached_ok : (r : Result Levels code.Violation) (s : model.Levels) → outcome_is r ≡ reaches s → IsOk r
unfolding outcome_is
reached_ok (Ok l) s e = refl
reached_ok (Err v) s e = absurd (not_reached _ _ e)

-- a choice that is left open has its coding's size and distortion
open_coding : (x : Candidate) (k : Coding) → candidate_is x ≡ some k → (x.size ≡ k.size) × (x.distortion ≡ k.distortion)
unfolding candidate_is coding_if
open_coding x k e = go x.free e
  where
    go : (t : Bool) → (if t then some (record { size = x.size; distortion = x.distortion }) else none) ≡ some k → (x.size ≡ k.size) × (x.distortion ≡ k.distortion)
    go true r = let q = some-injective _ k r in (ap (λ (y : Coding). y.size) q, ap (λ (y : Coding). y.distortion) q)
    go false r = absurd (none-ne-some k r)

-- a rate of a line
rate_is : (l : Line) (y : ℕ) → y < l.count → get_or l.rates y 0 ≡ get_or (line_is l).rates y 0
unfolding line_is line_of
rate_is l y h = sym (get_or-take l.count l.rates y 0 h)

-- steps that reach levels reach one
one_end : (s u : model.Levels) → reaches s ≡ reaches u → s ≡ u
unfolding reached
one_end s u e = some-injective s u (ap reached e)

module _ (o : Order) (b : List ℕ) (h : Header) (l : Line) (pins : List ℕ) (limit : std.Option ℕ) (table : List ℕ) (place : ℕ) (at : Levels) (asks : Moves b (plain h) l pins limit table place (levels_of at)) where
  abbrev J : model.Job
  J = job_on b l

  abbrev M : Open
  M = open_of (lines h.units pins) limit

  st : Starts b (plain h) l pins
  st = asks.starts

  s : Standing J M place (levels_of at)
  unfolding plain
  s = asks.stands

  before_end : place < intervals J
  unfolding plain
  before_end = omega (arith, asks.before, intervals_are b (plain h) asks.starts.opens, intervals_on (job_in b) (line_is l))

  is_table : IsTable J M place table
  unfolding plain
  is_table = layers_table J M place table asks.table_is.enough asks.table_is.layers

  small : Bounded J
  small = bounded_on (job_in b) (line_is l) (bounded (job_in b) (job_formed b (plain h) asks.starts.opens))

  -- the first pair that attains the word of the levels, in the job's own terms
  first : FirstPair J M o table place (levels_of at) s.value
  first = first_pair J M o table place (levels_of at) s.value small is_table before_end s.inside s.least_is

  word_here : word_in (line_is l) (layer_of (line_is l) table place) (levels_of at) ≡ s.value
  unfolding on_line
  word_here = here_is J M o table place (levels_of at) s.value small is_table before_end s.inside s.least_is

  -- with the choices of the interval
  module _ (c : Choices) (told : ChoicesIn (plain h) pins limit place c) where
    ch : ChoicesOf b (plain h) J M place c
    unfolding plain
    ch = choices_on b (plain h) l pins limit place c st asks.before told

    -- the same, in the terms of the code
    abbrev First : Pair → Type 0
    First a = first_at (pair_offer ◌+◌ (line_is l) (allowed_is b (plain h) c) (word_in (line_is l) (layer_of (line_is l) table (suc place))) (levels_of at)) (word_in (line_is l) (layer_of (line_is l) table place) (levels_of at)) (pairs o (length (line_is l).rates) c.count) ≡ some a

    move_first : First first.pick
    unfolding on_line
    move_first =
        rw word_here
        (first_offer_cong ◌+◌ (line_is l) c.count (allowed_is b (plain h) c) (allowed_in J M (suc place)) (word_in (line_is l) (layer_of (line_is l) table (suc place))) (word_in (line_is l) (layer_of (line_is l) table (suc place))) (levels_of at) s.inside ch.each (λ u i. refl) o s.value
        ∙ rw ch.count first.first)

    pub choices_fit : ChoicesFit b (plain h) c
    choices_fit = ch.fits

    -- what is asked of a search for it
    pub layered : Layered o table l b (plain h) c place (levels_of at)
    unfolding plain words on_line
    layered = record {
      line = st.line;
      choices = ch.fits;
      few = omega (arith, asks.before, few_intervals b (plain h) st.opens);
      room = omega (arith, asks.table_is.enough, mul-le-mul_right {m = place + 2} {n = intervals J + 1} (layer_words (line_is l)) (omega (arith, before_end)));
      inside = s.inside;
      attained = record { pick = first.pick; first = move_first };
    }

    -- the pair that is found
    module _ (rate choice : ℕ) (found : First (pair rate choice)) where
      is_pick : first.pick ≡ pair rate choice
      is_pick = some-injective first.pick (pair rate choice) (sym move_first ∙ found)

      outer_is : first.pick.outer ≡ rate
      outer_is = ap (λ (p : Pair). p.outer) is_pick

      inner_is : first.pick.inner ≡ choice
      inner_is = ap (λ (p : Pair). p.inner) is_pick

      pub rate_below : rate < l.count
      unfolding entry on_line
      rate_below = rw (← rates_count l st.line, ← outer_is) first.fits.rate

      pub choice_below : choice < c.count
      choice_below = omega (arith, inner_is, first.inner, ch.count)

      pub below_mark : choice < no_choice
      below_mark = omega (arith, choice_below, ch.fits.count)

      abbrev e : model.Entry
      e = entry J (suc place) first.pick

      sent_is : get_or l.rates rate 0 ≡ sends J e
      unfolding sends entry on_line
      sent_is = rate_is l rate rate_below ∙ rw outer_is refl

      sent_most : sends J e ≤ 4095
      sent_most = rw (← sent_is) (st.line.rate rate rate_below)

      coding_most : (takes J (suc place) e ≤ 4095) × (distorts J (suc place) e ≤ 1000000)
      unfolding takes distorts
      coding_most =
          let w : CodingKept (coding (job_in b) (suc place) e.choice) = coding_within (job_in b) (job_limits b (plain h) st.opens) (suc place) (omega (arith, before_end, intervals_on (job_in b) (line_is l))) e.choice (choice_on (job_in b) (line_is l) first.fits.choice) in
          let q = coding_on (job_in b) (line_is l) (suc place) e.choice in
          (omega (arith, w.size, ap (λ (k : Coding). k.size) q), omega (arith, w.distortion, ap (λ (k : Coding). k.distortion) q))

      choice_is : (byte : ℕ) → choice_of byte ≡ chosen (plain h) place choice → e.choice ≡ choice_of byte
      unfolding entry chosen on_line
      choice_is byte q = rw (delay_is b (plain h) st.opens, inner_is) (sym q)

      module _ (k : Candidate) (made : CandidateOf b (plain h) c choice k) (x : Interval) (is : IntervalOf (get_or l.rates rate 0) k.size k.distortion x) where
        coding_is : (k.size ≡ takes J (suc place) e) × (k.distortion ≡ distorts J (suc place) e)
        unfolding takes distorts
        coding_is = open_coding k _ (made.is ∙ rw (← inner_is) (ch.each first.pick.inner (omega (arith, first.inner, ch.count)) ∙ first.allowed))

        lands : step_of l.buffers at x ≡ reaches first.end
        unfolding on_line
        lands = line_steps l at (get_or l.rates rate 0) k.size k.distortion x is ∙ rw (sent_is, coding_is.0) first.step

        pub reached_end : Reached l.buffers at x
        reached_end = record { end = first.end; is = lands }

        pub best_move : (byte : ℕ) (to : Levels) → choice_of byte ≡ chosen (plain h) place choice → step_of l.buffers at x ≡ reaches (levels_of to) → BestMove J M o place (levels_of at) (record { rate = rate; choice = byte; interval = x; to = to })
        best_move byte to q r =
            let to_is : levels_of to ≡ first.end = one_end (levels_of to) first.end (sym r ∙ lands) in
            record {
              entry = e;
              rate = unfold entry in outer_is;
              choice = choice_is byte q;
              does = record {
                sent = is.sent_is ∙ sent_is;
                size = is.size_is ∙ coding_is.0;
                distortion = is.distortion_is ∙ coding_is.1;
                limits = (omega (arith, is.sent_is, sent_is, sent_most), omega (arith, is.size_is, coding_is, coding_most), omega (arith, is.distortion_is, coding_is, coding_most));
              };
              buckets = rw to_is (reaches_after_sending J.line _ _ _ _ (levels_of at) first.end first.step);
              ends = rw to_is (record { inside = first.inside; value = first.value; least_is = first.least_is });
              rest = rw to_is first.rest;
            }
