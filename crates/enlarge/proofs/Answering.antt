-- What the list answers and leaves, from what the check, the tests and the list itself answered.
use Prim.Native.Nat.{ℕ, ◌+◌, ◌-◌, ◌<◌, ◌≤◌}
use mathlib.Core.Path.{◌≡◌, sym, ◌∙◌, ap}
use mathlib.Core.List.{List, [], ◌∷◌}
use native.Mathlib.Omega.{arith}
use lib.ListN.{length}
use lib.Dec.{leb}
use borrow.Author.Tests.{lt-leb, le-leb}
use Rattle.base.specs.Refusals.{test, guarded}
use Rattle.base.proofs.Refusals.{guarded_here, guarded_past, guarded_last}
use Rattle.base.specs.Answer.{refused, gives}
use Rattle.model.specs.Job.{Levels, Job, on_line, intervals}
use Rattle.model.specs.Table.{layer_words, words}
use Rattle.model.proofs.Lines.{intervals_on}
use Rattle.format.specs.Parser as P
use Rattle.format.specs.Parser.{on_read}
use Rattle.format.specs.JobBytes.{Header, opening, job_in}
use Rattle.format.proofs.Opened.{units_are, intervals_are, few_intervals, start_is}
use Rattle.pinning.specs.PinSet.{PinSet, lines}
use Rattle.pinning.specs.Check.{checked, Ready}
use Rattle.interval.specs.Answers.{line_of, start_of}
use Rattle.line.specs.declared.Line.{Line}
use Rattle.line.specs.Answers.{line_is}
use Rattle.line.proofs.Sizes.{layer_size, each_small}
use Rattle.table.specs.Answers.{job_on, words_over, LineOf}
use Rattle.enlarging.specs.Calls.{sizes, sized, Listed, refuse, size_tests, list_in, list_all, sizes_call}
use Rattle.enlarge.specs.Answers.{LineWith, Lists, AllListed}
use Rattle.enlarge.proofs.Listing.{own_bucket, over_larger}

-- by the check: its refusal, or the list for the job that was read
pub sizes_refused : (b : List ℕ) (s : PinSet) (table totals : List ℕ) (n : ℕ) → checked opening b s ≡ P.refused n → record { answer = refused n; table = table; totals = totals } ≡ sizes_call b s table totals
unfolding sizes_call on_read refuse
sizes_refused b s table totals n e = rw e

pub sizes_took : (b : List ℕ) (s : PinSet) (table totals : List ℕ) (j : Job) (n : ℕ) → checked opening b s ≡ P.took j n → list_all j s table totals ≡ sizes_call b s table totals
unfolding sizes_call on_read
sizes_took b s table totals j n e = rw e

-- of a job that the set matches, with its line and that of the largest size
module _ (b : List ℕ) (h : Header) (s : PinSet) (a : Ready b h s) (l : Line) (is : LineOf b l) (r : Line) (w : LineWith l 255 r) where
  abbrev J : Job
  J = job_in b

  -- what the size of the table is asked
  pub over_fits : (h.units + h.delay ≤ 576) × (layer_words (line_of r.buffers []) ≤ 4194304)
  over_fits = (few_intervals b h a.opens, each_small r.buffers w.fits.buffers)

  -- its words are those of the largest size
  counted_on : intervals (job_on b r) ≡ h.units + h.delay
  counted_on = intervals_on J (line_is r) ∙ intervals_are b h a.opens

  words_on : words (job_on b r) ≡ words_over h r.buffers
  unfolding words_over words on_line
  words_on = rw (counted_on, layer_size r)

  words_largest : words (sized J 255) ≡ words_over h r.buffers
  words_largest = ap words (sym (over_larger b l is.is 255 r w)) ∙ words_on

  -- and this many sizes there are
  sizes_are : sizes J ≡ 255 - l.buffers.first.size + 1
  unfolding sizes
  sizes_are = omega (arith, own_bucket b l is.is, is.fits.buffers.bucket)

  -- the tests in front of the list, in their order
  module _ (table totals : List ℕ) where
    abbrev work : Listed
    work = list_in J (lines (length J.units) s.pins) table totals

    pub all_11 : length table < words_over h r.buffers → record { answer = refused 11; table = table; totals = totals } ≡ list_all J s table totals
    unfolding list_all size_tests refuse
    all_11 k = sym (guarded_here (refuse table totals) _ _ work (lt-leb (words (sized J 255)) (length table) (omega (arith, words_largest))))

    module _ (k : words_over h r.buffers ≤ length table) where
      past_11 : list_all J s table totals ≡ guarded (refuse table totals) (test 12 (leb (sizes J) (length totals)) ∷ []) work
      unfolding list_all size_tests
      past_11 = guarded_past (refuse table totals) _ _ work (le-leb (words (sized J 255)) (length table) (omega (arith, words_largest)))

      pub all_12 : length totals < 255 - l.buffers.first.size + 1 → record { answer = refused 12; table = table; totals = totals } ≡ list_all J s table totals
      unfolding refuse
      all_12 g = sym (past_11 ∙ guarded_here (refuse table totals) _ _ work (lt-leb (sizes J) (length totals) (omega (arith, sizes_are))))

      module _ (g : 255 - l.buffers.first.size + 1 ≤ length totals) where
        -- with room for both, what the list asks
        pub lists : (start : Levels) → start ≡ start_of h → (pins : List ℕ) → length pins ≡ 512 → Lists b h l pins start table totals
        unfolding start_of
        lists start e pins n = record {
          starts = record { opens = a.opens; line = is.fits; pins_size = n };
          own = is.is;
          start = e ∙ sym (start_is b h a.opens);
          room = omega (arith, words_largest);
          space = omega (arith, own_bucket b l is.is, is.fits.buffers.bucket);
        }

        -- and what it answers
        pub all_done : (new all : List ℕ) → AllListed J (lines h.units s.pins) table totals new all → record { answer = gives tt; table = new; totals = all } ≡ list_all J s table totals
        all_done new all d = done ∙ sym (past_11 ∙ guarded_last (refuse table totals) _ work (le-leb (sizes J) (length totals) (omega (arith, sizes_are))))
          where
            done : record { answer = gives tt; table = new; totals = all } ≡ work
            done = unfold list_in in rw (units_are b h a.opens, d.table_is, d.totals_are)
