-- What refuses a change, test by test, and what is known where nothing does.
use Prim.Native.Nat.{ℕ, ◌+◌, ◌-◌, ◌*◌, ◌≤◌, ◌<◌}
use mathlib.Core.Path.{◌≡◌, sym, ◌∙◌}
use mathlib.Core.Bool.{true, false}
use mathlib.Core.Option.{none, some}
use Rattle.std.specs.Prelude.{Option, Some, None}
use mathlib.Core.List.{List}
use native.Mathlib.Omega.{arith}
use borrow.Author.Tests.{lt-leb, le-leb, leb-true}
use Rattle.base.specs.Refusals.{refusal}
use Rattle.base.proofs.Refusals.{refusal_past, refusal_here, refusal_last, refusal_none}
use Rattle.model.specs.Job.{Job, on_line, intervals}
use Rattle.model.specs.Pins.{PinMap}
use Rattle.model.specs.Step.{overfull}
use Rattle.model.specs.Replay.{totals}
use Rattle.model.specs.Table.{words}
use Rattle.model.proofs.Lines.{intervals_on}
use Rattle.format.specs.Limits.{limit, kept}
use Rattle.format.proofs.Limits.{is_kept, of_kept, not_kept}
use Rattle.format.specs.JobBytes.{Header, job_in, Opens}
use Rattle.format.proofs.Opened.{intervals_are}
use Rattle.interval.specs.declared.Levels.{Levels}
use Rattle.interval.specs.declared.Totals.{Totals}
use Rattle.interval.specs.Answers.{levels_of, totals_of}
use Rattle.line.specs.declared.Line.{Line}
use Rattle.line.specs.Answers.{line_is}
use Rattle.line.proofs.Sizes.{layer_size}
use Rattle.table.specs.Answers.{job_on, words_over}
use Rattle.replaying.specs.Entries.{entry_size}
use Rattle.front.specs.declared.Front.{Front}
use Rattle.front.specs.Answers.{SmallTotals, FrontOf, leads, breaks}
use Rattle.changing.specs.Calls.{remaining, front, carried, is_clean, none_over, rest_tests}

-- what the entries that remain come to
pub record Led (j : Job) (m : PinMap) (n : ℕ) (old : List ℕ) (at : Levels) (sum : Totals) : Type 0 where
  pub clean : is_clean (front j m n old).result ≡ true
  pub levels : levels_of at ≡ carried j m n old
  pub totals_are : totals_of sum ≡ totals j 0 j.start (remaining j m n old)
  pub small : SmallTotals n sum

different : {x : Front} {A : Type 0} → None ≡ Some x → A
different e = let z : ◌≡◌ {A = ℕ} 0 1 = cc in absurd (omega arith)

module _ {j : Job} {m : PinMap} {n : ℕ} {old : List ℕ} where
  pub led : {r : Option Front} (x : Front) → FrontOf j m n old r → r ≡ Some x → Led j m n old x.at x.sum
  led x (leads {x = y} a b c d e) q =
      let s : y ≡ x = cc in
      rw (← s) (record { clean = a; levels = b; totals_are = d; small = e })
  led x (breaks a) q = different q

  pub broke : {r : Option Front} → FrontOf j m n old r → r ≡ None → is_clean (front j m n old).result ≡ false
  broke (leads a b c d e) q = different (sym q)
  broke (breaks a) q = a

-- the tests of the rest
module _ (b : List ℕ) (h : Header) (l : Line) (o : Opens b h) (m : PinMap) (old : List ℕ) (s table entries : ℕ) where
  abbrev J : Job
  J = job_in b

  abbrev K : Job
  K = job_on b l

  count : intervals J ≡ h.units + h.delay
  count = intervals_are b h o

  words_on : words K ≡ words_over h l.buffers
  unfolding words_over words on_line
  words_on = rw (intervals_on J (line_is l) ∙ count, layer_size l)

  pub is_18 : ((1 ≤ s) × (s < h.units + h.delay) → ⊥) → some 18 ≡ refusal (rest_tests J K m old s table entries)
  unfolding rest_tests
  is_18 f = sym (refusal_here _ _ (not_kept (limit 18 1 (intervals J - 1) s) (λ k. f (k.0, omega (arith, k.0, k.1, count)))))

  module _ (some_entry : 1 ≤ s) (less : s < h.units + h.delay) where
    in_range : kept (limit 18 1 (intervals J - 1) s) ≡ true
    in_range = is_kept (limit 18 1 (intervals J - 1) s) (some_entry, omega (arith, count))

    pub is_19 : is_clean (front J m s old).result ≡ false → some 19 ≡ refusal (rest_tests J K m old s table entries)
    unfolding rest_tests
    is_19 e = sym (refusal_past _ _ in_range ∙ refusal_here _ _ e)

    module _ (clean : is_clean (front J m s old).result ≡ true) where
      pub is_20 : none_over (overfull (line_is l).buckets (carried J m s old).buckets) ≡ false → some 20 ≡ refusal (rest_tests J K m old s table entries)
      unfolding rest_tests on_line
      is_20 e = sym (refusal_past _ _ in_range ∙ refusal_past _ _ clean ∙ refusal_here _ _ e)

      module _ (fits : none_over (overfull (line_is l).buckets (carried J m s old).buckets) ≡ true) where
        pub is_11 : table < words_over h l.buffers → some 11 ≡ refusal (rest_tests J K m old s table entries)
        is_11 g = sym (unfold rest_tests on_line in (refusal_past _ _ in_range ∙ refusal_past _ _ clean ∙ refusal_past _ _ fits) ∙ refusal_here _ _ (lt-leb (words K) table (omega (arith, words_on))))

        module _ (room : words_over h l.buffers ≤ table) where
          pub is_12 : entries < entry_size * (h.units + h.delay) → some 12 ≡ refusal (rest_tests J K m old s table entries)
          is_12 g = sym (unfold rest_tests on_line in (refusal_past _ _ in_range ∙ refusal_past _ _ clean ∙ refusal_past _ _ fits) ∙ refusal_past _ _ (le-leb (words K) table (omega (arith, words_on))) ∙ refusal_here _ _ (lt-leb (entry_size * intervals J) entries (omega (arith, count))))

          pub is_none : entry_size * (h.units + h.delay) ≤ entries → none ≡ refusal (rest_tests J K m old s table entries)
          is_none g = sym (unfold rest_tests on_line in (refusal_past _ _ in_range ∙ refusal_past _ _ clean ∙ refusal_past _ _ fits) ∙ refusal_past _ _ (le-leb (words K) table (omega (arith, words_on))) ∙ refusal_last _ (le-leb (entry_size * intervals J) entries (omega (arith, count))))

-- where no test of the rest refuses
pub record Passed (b : List ℕ) (h : Header) (l : Line) (m : PinMap) (old : List ℕ) (s table entries : ℕ) : Type 0 where
  pub some_entry : 1 ≤ s
  pub less : s < h.units + h.delay
  pub clean : is_clean (front (job_in b) m s old).result ≡ true
  pub fits : none_over (overfull (line_is l).buckets (carried (job_in b) m s old).buckets) ≡ true
  pub room : words (job_on b l) ≤ table
  pub space : entry_size * (h.units + h.delay) ≤ entries

pub passed : (b : List ℕ) (h : Header) (l : Line) (o : Opens b h) (m : PinMap) (old : List ℕ) (s table entries : ℕ) → refusal (rest_tests (job_in b) (job_on b l) m old s table entries) ≡ none → Passed b h l m old s table entries
unfolding rest_tests on_line
passed b h l o m old s table entries e =
    let n = intervals_are b h o in
    let t = refusal_none _ _ e in
    let u = refusal_none _ _ t.1 in
    let v = refusal_none _ _ u.1 in
    let w = refusal_none _ _ v.1 in
    let x = refusal_none _ _ w.1 in
    let k = of_kept (limit 18 1 (intervals (job_in b) - 1) s) t.0 in
    record {
      some_entry = k.0;
      less = omega (arith, k.0, k.1, n);
      clean = u.0;
      fits = v.0;
      room = leb-true _ table w.0;
      space = omega (arith, n, leb-true (entry_size * intervals (job_in b)) entries x.0);
    }
