-- What planning answers and leaves, from what the check, the tests and the search answered.
use Prim.Native.Nat.{ℕ, ◌+◌, ◌-◌, ◌*◌, ◌<◌, ◌≤◌, max}
use mathlib.Core.Path.{◌≡◌, refl, sym, ◌∙◌, ap}
use mathlib.Core.Bool.{Bool, true, false, ◌&&◌, not}
use mathlib.Core.Option.{Option, none, some}
use mathlib.Core.List.{List, [], ◌∷◌, map}
use native.Mathlib.Omega.{arith}
use native.Mathlib.Nat.{add-mul, one-mul, mul-le-mul_right}
use lib.ListN.{length}
use lib.Dec.{leb}
use borrow.Author.Tests.{lt-leb, le-leb}
use Rattle.trellis.specs.Trellis.{Combines}
use Rattle.trellis.specs.Table.{encode}
use Rattle.trellis.proofs.Optimality.{sum_combines, greatest_combines}
use Rattle.std.specs.Prelude.{if◌then◌else◌}
use Rattle.std.specs.Prelude.{Some, None}
use Rattle.std.specs.Prelude as std
use Rattle.base.specs.Refusals.{test, guarded}
use Rattle.base.proofs.Refusals.{guarded_here, guarded_past, guarded_last}
use Rattle.base.specs.Answer.{refused, gives}
use Rattle.model.specs.Job.{Bucket, Levels, Job, on_line, intervals}
use Rattle.model.specs.Pins.{PinMap}
use Rattle.model.specs.Best.{Order, late, Open, unlimited, least_by, least_total, Aim, total, even, open_for}
use Rattle.model.specs.Table.{mark, bound, sizes, layer_words, words, layer_of, word_in, InLayer, Bounded}
use Rattle.model.proofs.Tables.{distortions_small}
use Rattle.model.proofs.Lines.{own_line, intervals_on, bounded_on}
use Rattle.format.specs.Parser as P
use Rattle.format.specs.Parser.{on_read}
use Rattle.format.specs.JobBytes.{Policed, Header, bucket_of, opening, job_in}
use Rattle.format.proofs.Bounds.{bounded, start_inside}
use Rattle.format.proofs.Opened.{job_formed, job_limits, units_are, intervals_are, few_intervals, buckets_are, start_is}
use Rattle.pinning.specs.PinSet.{PinSet, lines}
use Rattle.pinning.specs.Check.{checked, Ready}
use Rattle.interval.specs.declared.Totals as replay
use Rattle.interval.specs.Answers.{totals_of, line_of, start_of}
use Rattle.line.proofs.Sizes.{layer_size, each_small}
use Rattle.replaying.specs.Entries.{entry_size}
use Rattle.planning.specs.Words.{table_from}
use Rattle.planning.specs.Calls.{Planned, refuse, searched, search_in, plan_tests, plan_in, plan_all, plan_call}
use Rattle.starting.specs.Calls.{levels_fit, start_with, level_tests, plan_with, levels_call}
use Rattle.starting.proofs.Starting.{fits_iff}
use Rattle.planning.proofs.Layers.{word_of, from_before, from_rest, from_length, from_layer}
use Rattle.line.specs.declared.Line.{Line}
use Rattle.line.specs.Answers.{line_is, WordAsked}
use Rattle.table.specs.Answers.{job_on, limit_of, open_of, words_over, LineOf}
use Rattle.best.specs.Answers.{Tabled, Standing, PlanRead}
use Rattle.planner.specs.Answers.{PlansFrom, Searches, table_for, LimitFor}

-- over any line, from any place and levels there
module _ (b : List ℕ) (h : Header) (l : Line) (pins : List ℕ) (first : ℕ) (s : Levels) (from : PlansFrom b h l pins first s) (table : List ℕ) (room : words (job_on b l) ≤ length table) where
  abbrev J : Job
  J = job_on b l

  counted : first ≤ intervals J
  counted = omega (arith, from.few, intervals_are b h from.starts.opens, intervals_on (job_in b) (line_is l))

  inside_on : InLayer J.line s
  unfolding on_line
  inside_on = from.inside

  small : Bounded J
  small = bounded_on (job_in b) (line_is l) (bounded (job_in b) (job_formed b h from.starts.opens))

  -- the word of the start in a table that was filled, with the choices k open
  module _ (◌⊕◌ : ℕ → ℕ → ℕ) (combines : Combines ◌⊕◌) (k : Open) where
    abbrev T : List ℕ
    T = table_from ◌⊕◌ J k first table

    pub start_asked : WordAsked T l first s
    unfolding words on_line
    start_asked =
        let n = layer_words (line_is l) in
        record {
          line = from.starts.line;
          few = omega (arith, from.few, few_intervals b h from.starts.opens);
          room = omega (arith, from_length ◌⊕◌ J k first table counted room, room, mul-le-mul_right {m = first} {n = intervals J} n counted, add-mul (intervals J) 1 n, one-mul n);
          inside = from.inside;
        }

    pub start_word : word_in (line_is l) (layer_of (line_is l) T first) s ≡ encode mark (least_by ◌⊕◌ J k first s)
    unfolding on_line
    start_word = ap (λ (w : List ℕ). word_in (line_is l) w s) (from_layer ◌⊕◌ J k first table counted room first (omega arith) counted) ∙ word_of ◌⊕◌ J k first s inside_on

    -- a word that is the mark says that there is no plan, another is the least
    small_value : (v : ℕ) → least_by ◌⊕◌ J k first s ≡ some v → v ≤ bound
    unfolding least_by
    small_value v e = (distortions_small J k late small ◌⊕◌ combines (λ t s. Unit {0})).values (intervals J - first) first s v (omega (arith, counted)) tt e

    pub no_value : encode mark (least_by ◌⊕◌ J k first s) ≡ mark → least_by ◌⊕◌ J k first s ≡ none
    unfolding encode
    no_value e = go (least_by ◌⊕◌ J k first s) refl e
      where
        go : (r : Option ℕ) → least_by ◌⊕◌ J k first s ≡ r → encode mark r ≡ mark → r ≡ none
        go none q w = refl
        go (some v) q w = absurd (omega (arith, small_value v q))

    pub its_value : (encode mark (least_by ◌⊕◌ J k first s) ≡ mark → ⊥) → least_by ◌⊕◌ J k first s ≡ some (encode mark (least_by ◌⊕◌ J k first s))
    unfolding encode
    its_value f = go (least_by ◌⊕◌ J k first s) f
      where
        go : (r : Option ℕ) → (encode mark r ≡ mark → ⊥) → r ≡ some (encode mark r)
        go none w = absurd (w refl)
        go (some v) w = refl

  -- the limit of a search for even pictures, by the word of the start in a table by the greatest
  module _ (m : PinMap) where
    pub no_limit : (new : List ℕ) → new ≡ table_from max J (unlimited m) first table → word_in (line_is l) (layer_of (line_is l) new first) s ≡ mark → LimitFor even J m first s table None new
    unfolding open_for table_for
    no_limit new e w = record {
      is = ap (λ (x : Option ℕ). record { pins = m; limit = x }) (sym (no_value max greatest_combines (unlimited m) (sym (start_word max greatest_combines (unlimited m)) ∙ ap (λ (t : List ℕ). word_in (line_is l) (layer_of (line_is l) t first) s) (sym e) ∙ w)));
      table_is = e;
    }

    pub limit_is : (new : List ℕ) (word : ℕ) → new ≡ table_from max J (unlimited m) first table → word ≡ word_in (line_is l) (layer_of (line_is l) new first) s → (word ≡ mark → ⊥) → LimitFor even J m first s table (Some word) new
    unfolding open_for table_for
    limit_is new word e w f =
        let q : word ≡ encode mark (least_by max J (unlimited m) first s) = w ∙ ap (λ (t : List ℕ). word_in (line_is l) (layer_of (line_is l) t first) s) e ∙ start_word max greatest_combines (unlimited m) in
        record {
          is = ap (λ (x : Option ℕ). record { pins = m; limit = x }) (ap some q ∙ sym (its_value max greatest_combines (unlimited m) (λ z. f (q ∙ z))));
          table_is = e;
        }

    pub all_open : LimitFor total J m first s table None table
    unfolding open_for table_for
    all_open = record { is = refl; table_is = refl }

    -- the table that the search fills, over what is left of the limit's
    module _ (a : Aim) where
      abbrev K : Open
      K = open_for a J m first s

      over_it : (c : Aim) → table_from ◌+◌ J K first (table_for c J m first table) ≡ table_from ◌+◌ J K first table
      unfolding table_for
      over_it total = refl
      over_it even = unfold table_from in rw (from_before max J (unlimited m) first table counted room, from_rest max J (unlimited m) first table counted room)

      for_long : (c : Aim) → length (table_for c J m first table) ≡ length table
      unfolding table_for
      for_long total = refl
      for_long even = from_length max J (unlimited m) first table counted room

      module _ (r : std.Option ℕ) (mid : List ℕ) (found : LimitFor a J m first s table r mid) where
        pub mid_room : words J ≤ length mid
        mid_room = rw (found.table_is, for_long a) room

        module _ (new : List ℕ) (is : new ≡ table_from ◌+◌ J (open_of m r) first mid) where
          pub filled : new ≡ table_from ◌+◌ J K first table
          filled = is ∙ ap (λ (k : Open). table_from ◌+◌ J k first mid) found.is ∙ ap (table_from ◌+◌ J K first) found.table_is ∙ over_it a

          pub asked : WordAsked new l first s
          asked = rw filled (start_asked ◌+◌ sum_combines K)

          word_is : (word : ℕ) → word ≡ word_in (line_is l) (layer_of (line_is l) new first) s → word ≡ encode mark (least_total J K first s)
          word_is word w = w ∙ ap (λ (t : List ℕ). word_in (line_is l) (layer_of (line_is l) t first) s) filled ∙ start_word ◌+◌ sum_combines K

          -- the table, and the levels where the word is no mark
          pub tabled : Tabled J (open_of m r) first new
          tabled = rw (found.is, filled) (record {
            enough = omega (arith, from_length ◌+◌ J K first table counted room, room);
            layers = from_layer ◌+◌ J K first table counted room;
          })

          stands : (word : ℕ) → word ≡ word_in (line_is l) (layer_of (line_is l) new first) s → (word ≡ mark → ⊥) → Standing J K first s
          stands word w f = record { inside = inside_on; value = encode mark (least_total J K first s); least_is = its_value ◌+◌ sum_combines K (λ z. f (word_is word w ∙ z)) }

          pub standing : (word : ℕ) → word ≡ word_in (line_is l) (layer_of (line_is l) new first) s → (word ≡ mark → ⊥) → Standing J (open_of m r) first s
          standing word w f = rw found.is (stands word w f)

          module _ (o : Order) (entries : List ℕ) where
            pub search_13 : (word : ℕ) → word ≡ word_in (line_is l) (layer_of (line_is l) new first) s → word ≡ mark → record { answer = refused 13; table = new; entries = entries } ≡ search_in J m a o first s table entries
            unfolding search_in searched
            search_13 word w e = rw (filled, no_value ◌+◌ sum_combines K (sym (word_is word w) ∙ e))

            pub search_best : (word : ℕ) → word ≡ word_in (line_is l) (layer_of (line_is l) new first) s → (word ≡ mark → ⊥) → (t : replay.Totals) (written : List ℕ) → PlanRead J (open_of m r) o first s entries t written → record { answer = gives (totals_of t); table = new; entries = written } ≡ search_in J m a o first s table entries
            unfolding search_in searched
            search_best word w f t written p =
                let read : PlanRead J K o first s entries t written = rw found.is at p in
                rw (filled, (stands word w f).least_is, read.totals_are, read.written)

pub plan_refused : (b : List ℕ) (s : PinSet) (a : Aim) (o : Order) (table entries : List ℕ) (n : ℕ) → checked opening b s ≡ P.refused n → record { answer = refused n; table = table; entries = entries } ≡ plan_call b s a o table entries
unfolding plan_call on_read refuse
plan_refused b s a o table entries n e = rw e

pub plan_took : (b : List ℕ) (s : PinSet) (a : Aim) (o : Order) (table entries : List ℕ) (j : Job) (n : ℕ) → checked opening b s ≡ P.took j n → plan_all j s a o table entries ≡ plan_call b s a o table entries
unfolding plan_call on_read
plan_took b s a o table entries j n e = rw e

-- the tests in front of a search, in their order
module _ (b : List ℕ) (h : Header) (l : Line) (pins : List ℕ) (first : ℕ) (s : Levels) (table entries : List ℕ) (m : PinMap) (a : Aim) (o : Order) (asks : PlansFrom b h l pins first s) where
  counted_on : intervals (job_on b l) ≡ h.units + h.delay
  counted_on = intervals_on (job_in b) (line_is l) ∙ intervals_are b h asks.starts.opens

  words_on : words (job_on b l) ≡ words_over h l.buffers
  unfolding words_over words on_line
  words_on = rw (counted_on, layer_size l)

  -- what the size of the table is asked
  pub over_fits : (h.units + h.delay ≤ 576) × (layer_words (line_of l.buffers []) ≤ 4194304)
  over_fits = (few_intervals b h asks.starts.opens, each_small l.buffers asks.starts.line.buffers)

  abbrev work : Planned
  work = search_in (job_on b l) m a o first s table entries

  pub from_11 : length table < words_over h l.buffers → record { answer = refused 11; table = table; entries = entries } ≡ plan_in (job_on b l) m a o first s table entries
  unfolding plan_in plan_tests refuse
  from_11 k = sym (guarded_here (refuse table entries) _ _ work (lt-leb (words (job_on b l)) (length table) (omega (arith, words_on))))

  module _ (k : words_over h l.buffers ≤ length table) where
    past_11 : plan_in (job_on b l) m a o first s table entries ≡ guarded (refuse table entries) (test 12 (leb (entry_size * (intervals (job_on b l) - first)) (length entries)) ∷ []) work
    unfolding plan_in plan_tests
    past_11 = guarded_past (refuse table entries) _ _ work (le-leb (words (job_on b l)) (length table) (omega (arith, words_on)))

    pub from_12 : length entries < entry_size * (h.units + h.delay - first) → record { answer = refused 12; table = table; entries = entries } ≡ plan_in (job_on b l) m a o first s table entries
    unfolding refuse
    from_12 g = sym (past_11 ∙ guarded_here (refuse table entries) _ _ work (lt-leb (entry_size * (intervals (job_on b l) - first)) (length entries) (omega (arith, counted_on))))

    module _ (g : entry_size * (h.units + h.delay - first) ≤ length entries) where
      pub searches : Searches b h l pins first s table entries
      searches = record { limits = record { from = asks; room = omega (arith, words_on) }; space = g }

      pub from_searched : search_in (job_on b l) m a o first s table entries ≡ plan_in (job_on b l) m a o first s table entries
      from_searched = sym (past_11 ∙ guarded_last (refuse table entries) _ work (le-leb (entry_size * (intervals (job_on b l) - first)) (length entries) (omega (arith, counted_on))))

-- all of a job that the set matches, over its own line, from levels within it
module _ (b : List ℕ) (h : Header) (s : PinSet) (r : Ready b h s) where
  module _ (l : Line) (is : LineOf b l) (start : Levels) (inside : InLayer (job_in b).line start) where
    pub plans_from : (pins : List ℕ) → length pins ≡ 512 → PlansFrom b h l pins 0 start
    plans_from pins n = record {
      starts = record { opens = r.opens; line = is.fits; pins_size = n };
      few = omega arith;
      inside = rw is.is inside;
    }

    pub plan_on : (a : Aim) (o : Order) (table entries : List ℕ) → plan_in (job_on b l) (lines h.units s.pins) a o 0 start table entries ≡ plan_in (job_in b) (lines (length (job_in b).units) s.pins) a o 0 start table entries
    plan_on a o table entries =
        let own : job_on b l ≡ job_in b = ap (on_line (job_in b)) is.is ∙ own_line (job_in b) in
        rw (own, units_are b h r.opens)

  -- from its own starting levels
  module _ (start : Levels) (e : start ≡ start_of h) where
    begins : start ≡ (job_in b).start
    unfolding start_of
    begins = e ∙ sym (start_is b h r.opens)

    pub starts_inside : InLayer (job_in b).line start
    starts_inside = rw begins (start_inside (job_in b) (job_limits b h r.opens))

    pub plan_from_start : (a : Aim) (o : Order) (table entries : List ℕ) → plan_in (job_in b) (lines (length (job_in b).units) s.pins) a o 0 start table entries ≡ plan_all (job_in b) s a o table entries
    plan_from_start a o table entries = rw begins

-- whether levels fit: the first bucket's, then the second's or none
pub not_fitting : (k l : ℕ) (ks ls : List ℕ) → k < l → false ≡ levels_fit (k ∷ ks) (l ∷ ls)
unfolding levels_fit
not_fitting k l ks ls h = rw (lt-leb l k h)

pub fitting_two : (k k2 l l2 : ℕ) → l ≤ k → leb l2 k2 ≡ levels_fit (k ∷ k2 ∷ []) (l ∷ l2 ∷ [])
unfolding levels_fit
fitting_two k k2 l l2 h = rw (le-leb l k h) (itself (leb l2 k2))
  where
    itself : (t : Bool) → t ≡ (if t then true else false)
    itself true = refl
    itself false = refl

pub fitting_one : (k l : ℕ) → l ≤ k → true ≡ levels_fit (k ∷ []) (l ∷ [])
unfolding levels_fit
fitting_one k l h = rw (le-leb l k h)

pub fitting_other : (k l : ℕ) (ks ls : List ℕ) → l ≤ k → false ≡ levels_fit ks ls → false ≡ levels_fit (k ∷ ks) (l ∷ ls)
unfolding levels_fit
fitting_other k l ks ls h e = rw (le-leb l k h) e

-- the sizes that a header tells
map_sizes : (ks : List Policed) → map (λ (k : Bucket). k.size) (map bucket_of ks) ≡ map (λ k. k.size) ks
unfolding bucket_of
map_sizes [] = refl
map_sizes (k ∷ ks) = ap (λ (l : List ℕ). k.size ∷ l) (map_sizes ks)

-- planning from given levels, of a job that the set matches
module _ (b : List ℕ) (h : Header) (s : PinSet) (r : Ready b h s) (ls : List ℕ) (t : Bool) (fit : t ≡ levels_fit (map (λ k. k.size) h.buckets) ls) where
  fit_is : levels_fit (sizes (job_in b).line) ls ≡ t
  fit_is = ap (λ (ks : List ℕ). levels_fit ks ls) (ap (map (λ (k : Bucket). k.size)) (buckets_are b h r.opens) ∙ map_sizes h.buckets) ∙ sym fit

  level_is : h.level ≡ (job_in b).start.decoder
  level_is = ap (λ (x : Levels). x.decoder) (sym (start_is b h r.opens))

  pub levels_inside : t ≡ true → InLayer (job_in b).line (record { decoder = h.level; buckets = ls })
  levels_inside e =
      let f = (fits_iff (job_in b) ls).0 (fit_is ∙ e) in
      record { decoder = omega (arith, level_is, (job_limits b h r.opens).level); count = f.count; buckets = f.within }

  module _ (a : Aim) (o : Order) (table entries : List ℕ) where
    abbrev work_with : Planned
    work_with = search_in (job_in b) (lines (length (job_in b).units) s.pins) a o 0 (start_with (job_in b) ls) table entries

    pub with_20 : t ≡ false → record { answer = refused 20; table = table; entries = entries } ≡ plan_with (job_in b) s ls a o table entries
    unfolding plan_with level_tests refuse
    with_20 e = sym (guarded_here (refuse table entries) _ _ work_with (fit_is ∙ e))

    pub with_levels : t ≡ true → plan_in (job_in b) (lines (length (job_in b).units) s.pins) a o 0 (record { decoder = h.level; buckets = ls }) table entries ≡ plan_with (job_in b) s ls a o table entries
    unfolding plan_with level_tests plan_in start_with
    with_levels e = rw level_is (sym (guarded_past (refuse table entries) _ _ work_with (fit_is ∙ e)))

pub levels_refused : (b : List ℕ) (s : PinSet) (ls : List ℕ) (a : Aim) (o : Order) (table entries : List ℕ) (n : ℕ) → checked opening b s ≡ P.refused n → record { answer = refused n; table = table; entries = entries } ≡ levels_call b s ls a o table entries
unfolding levels_call on_read refuse
levels_refused b s ls a o table entries n e = rw e

pub levels_took : (b : List ℕ) (s : PinSet) (ls : List ℕ) (a : Aim) (o : Order) (table entries : List ℕ) (j : Job) (n : ℕ) → checked opening b s ≡ P.took j n → plan_with j s ls a o table entries ≡ levels_call b s ls a o table entries
unfolding levels_call on_read
levels_took b s ls a o table entries j n e = rw e
