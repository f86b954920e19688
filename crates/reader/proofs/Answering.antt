-- What reading back answers and leaves, from what reading the job and the test of room answered.
use Prim.Native.Nat.{ℕ, ◌*◌, ◌≤◌}
use mathlib.Core.Path.{◌≡◌, refl, sym, ap, ◌∙◌}
use mathlib.Core.Bool.{Bool, true, false, ◌&&◌}
use mathlib.Core.Option.{none, some}
use mathlib.Core.List.{List, [], ◌∷◌}
use borrow.Author.Tests.{leb-true}
use lib.ListN.{length}
use Rattle.std.specs.Prelude.{if◌then◌else◌}
use Rattle.base.specs.Refusals.{test, refusal, guarded}
use Rattle.base.specs.Lent.{over}
use Rattle.base.proofs.Refusals.{unless_some, unless_none}
use Rattle.model.specs.Job.{Job}
use Rattle.format.specs.Parser.{on_took}
use Rattle.format.specs.Parser as P
use Rattle.format.specs.JobBytes.{Header, header_values, job_in, Opens, Door, parse}
use Rattle.format.proofs.Header.{both}
use Rattle.format.proofs.Opened.{held_job, rates_are}
use Rattle.writing.specs.Lists.{sizes_in, distortions_in}
use Rattle.job.proofs.Answers.{Held}
use Rattle.exporting.specs.Contents.{Contents, contents, read_values, unread, read_tests, held, read_held, read_export}
use Rattle.reader.specs.Answers.{roomy}
use Rattle.reader.proofs.Codings.{sizes_are, distortions_are}

-- five tests of 12
five_tests : (a b c d e : Bool) → refusal (test 12 a ∷ test 12 b ∷ test 12 c ∷ test 12 d ∷ test 12 e ∷ []) ≡ (if a && b && c && d && e then none else some 12)
unfolding refusal
five_tests false b c d e = refl
five_tests true false c d e = refl
five_tests true true false d e = refl
five_tests true true true false e = refl
five_tests true true true true false = refl
five_tests true true true true true = refl

-- room for all that a job with this header has
pub record Room (h : Header) (fields rates sizes distortions values : ℕ) : Type 0 where
  pub for_fields : length (header_values h) ≤ fields
  pub for_rates : h.rates ≤ rates
  pub for_sizes : h.units * h.choices ≤ sizes
  pub for_distortions : h.units * h.choices ≤ distortions
  pub for_values : 2 ≤ values

pub has_room : (h : Header) (fields rates sizes distortions values : ℕ) → roomy h fields rates sizes distortions values ≡ true → Room h fields rates sizes distortions values
unfolding roomy
has_room h fields rates sizes distortions values e =
    let v = both _ _ e in
    let d = both _ _ v.0 in
    let s = both _ _ d.0 in
    let r = both _ _ s.0 in
    record {
      for_fields = leb-true _ _ r.0;
      for_rates = leb-true _ _ r.1;
      for_sizes = leb-true _ _ s.1;
      for_distortions = leb-true _ _ d.1;
      for_values = leb-true _ _ v.1;
    }

module _ (fields rates sizes distortions values : List ℕ) where
  module _ (b : List ℕ) (h : Header) (o : Opens b h) where
    tests_are : refusal (read_tests fields rates sizes distortions values (job_in b)) ≡ (if roomy h (length fields) (length rates) (length sizes) (length distortions) (length values) then none else some 12)
    unfolding read_tests roomy
    tests_are = rw (o.header_is, rates_are b h o, sizes_are b h o, distortions_are b h o) (five_tests _ _ _ _ _)

    pub back_12 : roomy h (length fields) (length rates) (length sizes) (length distortions) (length values) ≡ false → (taken : ℕ) → contents 12 fields rates sizes distortions values ≡ read_held fields rates sizes distortions values (job_in b) taken
    unfolding read_held guarded
    back_12 e taken = sym (unless_some (unread fields rates sizes distortions values) _ 12 _ (tests_are ∙ rw e))

    pub back_done : roomy h (length fields) (length rates) (length sizes) (length distortions) (length values) ≡ true → (taken : ℕ) (f r s d v : List ℕ) → f ≡ over (header_values h) fields → r ≡ over (job_in b).line.rates rates → s ≡ over (sizes_in (job_in b)) sizes → d ≡ over (distortions_in (job_in b)) distortions → v ≡ over (taken ∷ length (header_values h) ∷ []) values → contents 0 f r s d v ≡ read_held fields rates sizes distortions values (job_in b) taken
    unfolding read_held guarded held read_values
    back_done e taken f r s d v p q w x y = sym (unless_none (unread fields rates sizes distortions values) _ _ (tests_are ∙ rw e) ∙ rw (o.header_is, p, q, w, x, y))

  pub back_refused : (d : Door) (b : List ℕ) (n : ℕ) → parse d b ≡ P.refused n → contents n fields rates sizes distortions values ≡ read_export fields rates sizes distortions values d b
  unfolding read_export on_took
  back_refused d b n e = rw e

  pub back_took : (d : Door) (b : List ℕ) (h : Header) (k : ℕ) → Held (parse d b) h k → (r : Contents) → r ≡ read_held fields rates sizes distortions values (job_in b) k → r ≡ read_export fields rates sizes distortions values d b
  unfolding read_export on_took
  back_took d b h k read r e =
      let same : parse d b ≡ P.took (job_in b) k = read.is ∙ ap (λ (j : Job). P.took j k) (sym (held_job d b read.job k read.is)) in
      rw same e
