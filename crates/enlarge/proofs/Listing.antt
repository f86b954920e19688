-- The line with a larger first bucket, the least total over it, and the list of these totals, as the loop writes it.
use Prim.Native.Nat.{ℕ, zero, suc, ◌+◌, ◌-◌, ◌*◌, ◌<◌, ◌≤◌}
use mathlib.Core.Path.{◌≡◌, refl, sym, ◌∙◌, ap}
use mathlib.Core.List.{List, [], ◌∷◌, ◌++◌}
use native.Mathlib.Omega.{arith}
use lib.ListN.{length, drop, set, length-set}
use lib.Seq.{drop-drop}
use Rattle.trellis.specs.Table.{encode}
use Rattle.trellis.proofs.Optimality.{sum_combines}
use Rattle.base.specs.Lists.{build}
use Rattle.base.specs.Lent.{over}
use Rattle.base.proofs.Lent.{over_length}
use Rattle.base.proofs.Builds.{build_length, build_more}
use Rattle.model.specs.Job.{Bucket, bucket_at, Levels, Job, on_line}
use Rattle.model.specs.Job as model
use Rattle.model.specs.Admissible.{AllWithin}
use Rattle.model.specs.Pins.{PinMap}
use Rattle.model.specs.Best.{Open, unlimited, least_total}
use Rattle.model.specs.Table.{mark, words, layer_words, layer_of, word_in, InLayer, Bounded}
use Rattle.format.specs.JobBytes.{Header, job_in}
use Rattle.format.proofs.Bounds.{bounded, start_inside}
use Rattle.format.proofs.Opened.{job_formed, job_limits}
use Rattle.planning.specs.Words.{table_from}
use Rattle.planning.proofs.Layers.{from_rest, from_length}
use Rattle.interval.specs.Answers.{line_of}
use Rattle.line.specs.declared.Line.{Line}
use Rattle.line.specs.Answers.{line_is, WordAsked}
use Rattle.table.specs.Answers.{job_on}
use Rattle.planner.specs.Answers.{Limits}
use Rattle.planner.proofs.Answering.{start_asked, start_word}
use Rattle.enlarging.specs.Larger.{with_bucket, with_size}
use Rattle.enlarging.specs.Calls.{own_size, sizes, sized, least_at, least_totals}
use Rattle.enlarging.proofs.Falling.{least_most, least_falls, words_rise}
use Rattle.enlarge.specs.Answers.{LineWith, Found, Between, Told, Lists, Smaller, AllListed}

-- between two equal numbers: nothing is filled
pub between_same : (j : Job) (m : PinMap) (s : Levels) (before last : ℕ) (table : List ℕ) → Between j m s before last → before ≡ last → Told j m s table last table
between_same j m s before last table k e = record { total = omega (arith, k.no_more, k.no_less); size = refl; rest = λ n h. refl }

-- lists that are alike from one place on are alike from each later one
alike_behind : (k n : ℕ) (x y : List ℕ) → k ≤ n → drop k x ≡ drop k y → drop n x ≡ drop n y
alike_behind k n x y h e =
    let q : n ≡ k + (n - k) = omega arith in
    ap (λ (i : ℕ). drop i x) q ∙ sym (drop-drop (n - k) k x) ∙ ap (drop (n - k)) e ∙ drop-drop (n - k) k y ∙ ap (λ (i : ℕ). drop i y) (sym q)

-- a table from layer 0 on is filled alike over lists that are alike behind it
filled_alike : (j : Job) (k : Open) (x y : List ℕ) → drop (words j) x ≡ drop (words j) y → table_from ◌+◌ j k 0 x ≡ table_from ◌+◌ j k 0 y
unfolding table_from
filled_alike j k x y e =
    let z : 0 * layer_words j.line ≡ 0 = omega arith in
    rw (z, e)

-- the least total of a job over a line, by the table that was filled over it
module _ (b : List ℕ) (h : Header) (l : Line) (pins : List ℕ) (s : Levels) (table : List ℕ) (a : Limits b h l pins 0 s table) (m : PinMap) where
  module _ (new : List ℕ) (e : new ≡ table_from ◌+◌ (job_on b l) (unlimited m) 0 table) where
    -- the word of the starting levels may be read
    pub asked : WordAsked new l 0 s
    asked = rw e (start_asked b h l pins 0 s a.from table a.room ◌+◌ sum_combines (unlimited m))

    -- and is the least total, or the mark
    pub found : (r : ℕ) → r ≡ word_in (line_is l) (layer_of (line_is l) new 0) s → Found (job_on b l) m s table r new
    found r w = record {
      total = w ∙ ap (λ (t : List ℕ). word_in (line_is l) (layer_of (line_is l) t 0) s) e ∙ start_word b h l pins 0 s a.from table a.room ◌+◌ sum_combines (unlimited m);
      table_is = e;
    }

  -- filling keeps the words behind the table
  pub told : (r : ℕ) (new : List ℕ) → Found (job_on b l) m s table r new → Told (job_on b l) m s table r new
  told r new f = record {
    total = f.total;
    size = ap length f.table_is ∙ from_length ◌+◌ (job_on b l) (unlimited m) 0 table (omega arith) a.room;
    rest = λ n k. alike_behind (words (job_on b l)) n new table k (ap (drop (words (job_on b l))) f.table_is ∙ from_rest ◌+◌ (job_on b l) (unlimited m) 0 table (omega arith) a.room);
  }

-- numbers that a loop wrote, as they stand over the list
over_built : (f : ℕ → ℕ) (n : ℕ) (l : List ℕ) → over (build n f) l ≡ build n f ++ drop n l
unfolding over
over_built f n l = ap (λ (k : ℕ). build n f ++ drop k l) (build_length n f)

-- one number more over the list
over_more : (f : ℕ → ℕ) (n : ℕ) (l new : List ℕ) (x : ℕ) → n < length l → new ≡ over (build n f) l → x ≡ f n → set new n x ≡ over (build (n + 1) f) l
over_more f n l new x h e q = ap (λ (v : List ℕ). set v n x) (e ∙ over_built f n l) ∙ build_more f l n x h q ∙ sym (over_built f (n + 1) l)

-- levels within the buckets are within them too where the first is no smaller
within_larger : (ks : List Bucket) (ls : List ℕ) (size drain : ℕ) → (bucket_at ks 0).size ≤ size → AllWithin ks ls → AllWithin (set ks 0 (record { size = size; drain = drain })) ls
within_larger [] ls size drain h w i k = w i k
within_larger (x ∷ ks) ls size drain h w zero k = omega (arith, w 0 (omega arith))
within_larger (x ∷ ks) ls size drain h w (suc i) k = w (suc i) k

-- levels that have a word in a layer have one where the first bucket is no smaller
inside_larger : (line : model.Line) (s : Levels) (size : ℕ) → (bucket_at line.buckets 0).size ≤ size → InLayer line s → InLayer (with_size line 0 size) s
unfolding with_size with_bucket
inside_larger line s size h i = record {
  decoder = i.decoder;
  count = i.count ∙ sym (length-set line.buckets 0 _);
  buckets = within_larger line.buckets s.buckets size _ h i.buckets;
}

-- the lists as the loop leaves them: the totals of the first i sizes are written, the words behind the largest table are kept, and no later total exceeds the number at hand
pub record Going (j : Job) (m : PinMap) (table totals : List ℕ) (i : ℕ) (new_table new_totals : List ℕ) (before : ℕ) : Type 0 where
  pub totals_are : new_totals ≡ build i (λ i. least_at j m (own_size j + i)) ++ drop i totals
  pub long : length new_totals ≡ length totals
  pub size : length new_table ≡ length table
  pub rest : drop (words (sized j 255)) new_table ≡ drop (words (sized j 255)) table
  pub no_more : least_at j m (own_size j + i) ≤ before

-- the line of a job: its own size, and the job over it with another
module _ (b : List ℕ) (l : Line) (own : line_is l ≡ (job_in b).line) where
  -- its size is the job's
  pub own_bucket : own_size (job_in b) ≡ l.buffers.first.size
  unfolding line_is line_of
  own_bucket = ap (λ (x : model.Line). (bucket_at x.buckets 0).size) (sym own)

  -- the line with another size makes the job with that size
  pub over_larger : (size : ℕ) (r : Line) → LineWith l size r → job_on b r ≡ sized (job_in b) size
  over_larger size r w = ap (on_line (job_in b)) (w.is ∙ ap (λ (x : model.Line). with_size x 0 size) own)

-- the bytes of a job with its line and its starting levels, and lists that are long enough
module _ (b : List ℕ) (h : Header) (l : Line) (pins : List ℕ) (s : Levels) (table totals : List ℕ) (a : Lists b h l pins s table totals) where
  abbrev J : Job
  J = job_in b

  -- what the laws of larger buckets ask of the job
  small : Bounded J
  small = bounded J (job_formed b h a.starts.opens)

  own_is : own_size J ≡ l.buffers.first.size
  own_is = own_bucket b l a.own

  -- the sizes are at most 255, and each has its place among the totals
  pub own_most : l.buffers.first.size ≤ 255
  own_most = a.starts.line.buffers.bucket

  pub places : 256 ≤ l.buffers.first.size + length totals
  places = omega (arith, own_is, a.space)

  -- over the line with a first bucket of some size, which is no smaller than the job's own
  module _ (m : PinMap) (size : ℕ) (r : Line) (w : LineWith l size r) (no_less : l.buffers.first.size ≤ size) (most : size ≤ 255) where
    over_it : job_on b r ≡ sized J size
    over_it = over_larger b l a.own size r w

    -- the least total over it is the one of that size
    its_least : encode mark (least_total (job_on b r) (unlimited m) 0 s) ≡ least_at J m size
    unfolding least_at
    its_least = ap (λ (k : Job). encode mark (least_total k (unlimited m) 0 s)) over_it ∙ ap (λ (x : Levels). encode mark (least_total (sized J size) (unlimited m) 0 x)) a.start

    -- its table has no more words than the largest
    fewer : words (job_on b r) ≤ words (sized J 255)
    fewer = rw over_it (words_rise J size 255 most)

    inside : InLayer (line_is r) s
    inside = rw (w.is, a.own, a.start) (inside_larger J.line J.start size (omega (arith, own_is)) (start_inside J (job_limits b h a.starts.opens)))

    -- so a list as long as the one that was lent has room for it
    pub limits : (t : List ℕ) → length t ≡ length table → Limits b h r pins 0 s t
    limits t n = record {
      from = record { starts = record { opens = a.starts.opens; line = w.fits; pins_size = a.starts.pins_size }; few = omega arith; inside = inside };
      room = omega (arith, fewer, a.room);
    }

  module _ (m : PinMap) where
    -- before the first size: no total exceeds the mark
    pub going_none : Going J m table totals 0 table totals mark
    unfolding build
    going_none = record { totals_are = refl; long = refl; size = refl; rest = refl; no_more = least_most J m (own_size J + 0) small }

    -- one total more
    module _ (i : ℕ) (t u : List ℕ) (before : ℕ) (g : Going J m table totals i t u before) (more : i < 255 - l.buffers.first.size) (r : Line) (w : LineWith l (l.buffers.first.size + i) r) where
      -- the total that is next
      at_it : encode mark (least_total (job_on b r) (unlimited m) 0 s) ≡ least_at J m (own_size J + i)
      at_it = its_least m (l.buffers.first.size + i) r w (omega arith) (omega arith) ∙ ap (λ (n : ℕ). least_at J m (n + i)) (sym own_is)

      pub going_limits : Limits b h r pins 0 s t
      going_limits = limits m (l.buffers.first.size + i) r w (omega arith) (omega arith) t g.size

      -- it lies between the number at hand and that of the largest
      pub going_between : (last : ℕ) → last ≡ least_at J m 255 → Between (job_on b r) m s before last
      going_between last e = record {
        no_more = rw at_it g.no_more;
        no_less = rw (at_it, e) (least_falls J m (own_size J + i) 255 small (omega (arith, own_is, own_most)));
      }

      -- told, it is written and at hand
      pub going_more : (x : ℕ) (t' : List ℕ) → Told (job_on b r) m s t x t' → Going J m table totals (i + 1) t' (set u i x) x
      going_more x t' d = record {
        totals_are = ap (λ (v : List ℕ). set v i x) g.totals_are ∙ build_more _ totals i x (omega (arith, places)) (d.total ∙ at_it);
        long = length-set u i x ∙ g.long;
        size = d.size ∙ g.size;
        rest = d.rest (words (sized J 255)) (fewer m (l.buffers.first.size + i) r w (omega arith) (omega arith)) ∙ g.rest;
        no_more = rw (d.total ∙ at_it) (least_falls J m (own_size J + i) (own_size J + (i + 1)) small (omega arith));
      }

    -- all below the largest
    pub going_all : (i : ℕ) (t u : List ℕ) (before : ℕ) → Going J m table totals i t u before → i ≡ 255 - l.buffers.first.size → Smaller J m table totals t u
    going_all i t u before g e =
        let n : i ≡ 255 - own_size J = omega (arith, own_is) in
        record {
          totals_are = g.totals_are ∙ sym (over_built _ i totals) ∙ ap (λ (k : ℕ). over (build k (λ i. least_at J m (own_size J + i))) totals) n;
          size = g.size;
          rest = g.rest;
        }

    -- of all: the table of the largest is filled, which leaves the list that the loop goes over
    module _ (r : Line) (w : LineWith l 255 r) where
      module _ (last : ℕ) (mid : List ℕ) (f : Found (job_on b r) m s table last mid) where
        kept : Told (job_on b r) m s table last mid
        kept = told b h r pins s table (limits m 255 r w own_most (omega arith) table refl) m last mid f

        -- the list is as long as before
        pub lists_on : Lists b h l pins s mid totals
        lists_on = record { starts = a.starts; own = a.own; start = a.start; room = omega (arith, kept.size, a.room); space = a.space }

        -- the number is that of the largest
        pub last_is : last ≡ least_at J m 255
        last_is = f.total ∙ its_least m 255 r w own_most (omega arith)

        -- after which it is filled again
        module _ (t u : List ℕ) (g : Smaller J m mid totals t u) where
          pub again_limits : Limits b h r pins 0 s t
          again_limits = limits m 255 r w own_most (omega arith) t (g.size ∙ kept.size)

          -- the totals are as many as before
          pub totals_long : length u ≡ length totals
          totals_long = ap length g.totals_are ∙ over_length (build (255 - own_size J) (λ i. least_at J m (own_size J + i))) totals (omega (arith, build_length (255 - own_size J) (λ i. least_at J m (own_size J + i)), a.space, own_is, own_most))

          -- the last total stands behind the others, and the table is that of the largest over the list that was lent
          pub all_listed : (x : ℕ) (new : List ℕ) → Found (job_on b r) m s t x new → AllListed J m table totals new (set u (255 - l.buffers.first.size) x)
          unfolding least_totals sizes
          all_listed x new d =
              let i : 255 - l.buffers.first.size ≡ 255 - own_size J = omega (arith, own_is) in
              let n : 255 - own_size J + 1 ≡ 256 - own_size J = omega (arith, own_is, own_most) in
              let top : 255 ≡ own_size J + (255 - own_size J) = omega (arith, own_is, own_most) in
              record {
                totals_are =
                    ap (λ (k : ℕ). set u k x) i
                    ∙ over_more (λ i. least_at J m (own_size J + i)) (255 - own_size J) totals u x (omega (arith, own_is, places)) g.totals_are (d.total ∙ its_least m 255 r w own_most (omega arith) ∙ ap (least_at J m) top)
                    ∙ ap (λ (k : ℕ). over (build k (λ i. least_at J m (own_size J + i))) totals) n;
                table_is =
                    d.table_is
                    ∙ ap (λ (k : Job). table_from ◌+◌ k (unlimited m) 0 t) (over_it m 255 r w own_most (omega arith))
                    ∙ filled_alike (sized J 255) (unlimited m) t table (g.rest ∙ kept.rest (words (sized J 255)) (fewer m 255 r w own_most (omega arith)));
              }
