-- Reading off the best plan, place after place: what is written and what is left.
use Prim.Native.Nat.{ℕ, zero, suc, ◌+◌, ◌-◌, ◌*◌, ◌<◌, ◌≤◌}
use mathlib.Core.Path.{◌≡◌, refl, sym, ◌∙◌, ap, ap₂}
use mathlib.Core.Bool.{Bool, true, false}
use mathlib.Core.List.{List, [], ◌∷◌, ◌++◌, append_assoc, append-nil}
use native.Mathlib.Numerals.{add-one}
use native.Mathlib.Omega.{arith}
use lib.ListN.{length, drop, length-append}
use Rattle.trellis.specs.Trellis.{best}
use Rattle.model.specs.Job as model
use Rattle.model.specs.Job.{bucket_at, Job, Entry, on_line, intervals}
use Rattle.model.specs.Replay.{totals}
use Rattle.model.specs.Best.{Order, Open, best_plan}
use Rattle.format.proofs.Choices.{number_back}
use Rattle.replaying.specs.Entries.{entry_size, one_entry, entry_bytes}
use Rattle.std.specs.Prelude.{Some, None}
use Rattle.std.specs.Prelude as std
use Rattle.std.specs.Option.{option_map, option_to_list}
use Rattle.interval.specs.declared.Policer.{Policer}
use Rattle.base.specs.Lent.{over, over_at}
use Rattle.replaying.proofs.Entries.{one_size, bytes_size, bytes_more}
use Rattle.interval.specs.declared.Buffers.{Buffers}
use Rattle.interval.specs.declared.Levels.{Levels}
use Rattle.interval.specs.declared.Totals.{Totals}
use Rattle.interval.specs.Answers.{levels_of, totals_of, bucket_is, line_of, no_totals, added}
use Rattle.interval.proofs.Adding.{Added, added_start, added_on, added_end}
use Rattle.base.proofs.Lent.{over_behind, over_at_length}
use Rattle.entry.specs.Answers.{entry_numbers}
use Rattle.line.specs.declared.Line.{Line}
use Rattle.line.specs.Answers.{line_is, BuffersFit}
use Rattle.table.specs.Answers.{job_on}
use Rattle.best.specs.declared.Move.{Move}
use Rattle.best.specs.Answers.{Standing, BestMove, PlanRead}

-- the buckets of a line, and what they drain
pub line_buckets : (b : List ℕ) (l : Line) → (line_of l.buffers []).buckets ≡ (job_on b l).line.buckets
unfolding on_line line_is line_of
line_buckets b l = refl

pub drains_most : (k : Buffers) → BuffersFit k → (i : ℕ) → i < length (line_of k []).buckets → (bucket_at (line_of k []).buckets i).drain ≤ 4095
unfolding line_of
drains_most k f zero h = f.drain
drains_most k f (suc i) h = go k.second refl i h
  where
    go : (o : std.Option Policer) → k.second ≡ o → (i : ℕ) → suc i < length (bucket_is k.first ∷ option_to_list (option_map bucket_is o)) → (bucket_at (option_to_list (option_map bucket_is o)) i).drain ≤ 4095
    go (Some b) e zero h = (f.second b e).1
    go (Some b) e (suc i) h = absurd (omega arith)
    go None e i h = absurd (omega arith)

module _ (j : Job) (m : Open) (o : Order) (first : ℕ) (start : model.Levels) (entries₀ : List ℕ) where
  -- the entries of the places before this one are written, and the rest of the plan is the best from the levels that they lead to
  pub record ReadTo (place : ℕ) (at : Levels) (sum : Totals) (entries : List ℕ) : Type 0 where
    pub done : List Entry
    pub count : first + length done ≡ place
    pub plan : best_plan j m first start o ≡ done ++ best_plan j m place (levels_of at) o
    pub stands : Standing j m place (levels_of at)
    pub sums : Added j (totals j first start (best_plan j m first start o)) place at sum (best_plan j m place (levels_of at) o)
    pub list : entries ≡ entry_bytes done ++ drop (entry_size * (place - first)) entries₀
    pub size : length entries ≡ length entries₀

module _ (j : Job) (m : Open) (o : Order) (first : ℕ) (start : model.Levels) (entries₀ : List ℕ) where
  pub read_start : (at : Levels) (sum : Totals) → levels_of at ≡ start → totals_of sum ≡ no_totals j.line.buckets → Standing j m first start → ReadTo j m o first start entries₀ first at sum entries₀
  unfolding entry_bytes
  read_start at sum e q s =
      let z : first - first ≡ 0 = omega arith in
      record {
        done = [];
        count = omega arith;
        plan = rw e refl;
        stands = rw e s;
        sums = added_start j _ first at sum _ q (rw e s.inside.count) (rw e);
        list = rw z refl;
        size = refl;
      }

  entry_is : (place : ℕ) (s : model.Levels) (x : Move) (b : BestMove j m o place s x) → one_entry b.entry ≡ entry_numbers x.rate x.choice
  unfolding one_entry entry_numbers
  entry_is place s x b = rw (b.rate, b.choice, number_back x.choice)

  -- one entry more
  pub read_on : (place : ℕ) (at : Levels) (sum : Totals) (entries : List ℕ) (x : Move) (sum' : Totals) → ReadTo j m o first start entries₀ place at sum entries → BestMove j m o place (levels_of at) x → totals_of sum' ≡ added (totals_of sum) j.line.buckets (levels_of at).buckets x.interval → ((k : ℕ) → k < length j.line.buckets → (bucket_at j.line.buckets k).drain ≤ 4095) → entry_size * (place - first) + entry_size ≤ length entries₀ → ReadTo j m o first start entries₀ (place + 1) x.to sum' (over_at (entry_size * (place - first)) (entry_numbers x.rate x.choice) entries)
  read_on place at sum entries x sum' g b e most room =
      let i : ℕ = entry_size * (place - first) in
      let n : i + entry_size ≡ entry_size * (suc place - first) = omega (arith, g.count) in
      let one = entry_is place (levels_of at) x b in
      let size : length (entry_numbers x.rate x.choice) ≡ entry_size = rw (← one) (one_size b.entry) in
      rw (add-one place) (record {
        done = g.done ++ (b.entry ∷ []);
        count = let l = length-append g.done (b.entry ∷ []) in omega (arith, g.count, l);
        plan = g.plan ∙ ap (λ (p : List Entry). g.done ++ p) b.rest ∙ sym (append_assoc g.done (b.entry ∷ []) (best_plan j m (suc place) (levels_of x.to) o));
        stands = b.ends;
        sums = added_on j _ place at sum b.entry _ x.to x.interval sum' (rw b.rest at g.sums) b.does b.buckets e most;
        list =
            ap (over_at i (entry_numbers x.rate x.choice)) g.list
            ∙ over_behind (entry_bytes g.done) (entry_numbers x.rate x.choice) entries₀ i (omega (arith, bytes_size g.done, g.count))
            ∙ ap₂ (λ (w : List ℕ) (i : ℕ). w ++ drop i entries₀) (ap (λ (w : List ℕ). entry_bytes g.done ++ w) (sym one) ∙ sym (bytes_more g.done b.entry)) (ap (λ (z : ℕ). i + z) size ∙ n);
        size = over_at_length i (entry_numbers x.rate x.choice) entries (omega (arith, size, g.size)) ∙ g.size;
      })

  -- behind the last place nothing is left
  none_left : (place : ℕ) (s : model.Levels) → place ≡ intervals j → best_plan j m place s o ≡ []
  unfolding best_plan best
  none_left place s q = let n : intervals j - place ≡ 0 = omega arith in rw n

  pub read_end : (place : ℕ) (at : Levels) (sum : Totals) (entries : List ℕ) → ReadTo j m o first start entries₀ place at sum entries → place ≡ intervals j → PlanRead j m o first start entries₀ sum entries
  unfolding over
  read_end place at sum entries g q =
      let e : best_plan j m place (levels_of at) o ≡ [] = none_left place (levels_of at) q in
      let all : best_plan j m first start o ≡ g.done = g.plan ∙ ap (λ (p : List Entry). g.done ++ p) e ∙ append-nil g.done in
      let n : length g.done ≡ place - first = omega (arith, g.count) in
      record {
        totals_are = added_end j _ place at sum (rw e at g.sums);
        written = rw (all, bytes_size g.done, n) g.list;
      }
