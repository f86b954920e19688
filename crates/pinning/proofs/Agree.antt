-- The check over the job's bytes is the check over the job that they hold.
use Prim.Native.Nat.{ℕ, suc, ◌-◌, ◌<◌}
use mathlib.Core.Path.{◌≡◌, refl, sym, ◌∙◌, ap}
use mathlib.Core.Logic.{◌⊎◌, inl, inr}
use mathlib.Core.Bool.{Bool, true, false}
use mathlib.Core.Option.{some, none-ne-some}
use mathlib.Core.List.{List, ◌∷◌}
use native.Mathlib.Omega.{arith}
use lib.Dec.{eqb}
use lib.ListN.{length, get_or}
use borrow.Author.Tests.{eq-eqb, ne_eqb}
use Rattle.std.specs.Prelude.{if◌then◌else◌}
use Rattle.base.specs.Refusals.{Test, guarded, Condition, condition}
use Rattle.base.proofs.Refusals.{Decides, AllHold, in_order}
use Rattle.model.specs.Job.{Coding, Job, job_coding}
use Rattle.model.specs.Pins.{PinTotals, totals_to}
use Rattle.base.proofs.All.{all_each}
use Rattle.model.proofs.PinTotals.{totals_agree}
use Rattle.format.specs.Parser.{Result, refused, took, on_read, Looks}
use Rattle.format.specs.JobBytes.{Header, header_in, Door, parse, same_header}
use Rattle.format.specs.Claims.{InLimits}
use Rattle.format.proofs.Bounds.{limited}
use Rattle.format.proofs.Parsing.{not_took}
use Rattle.format.proofs.Places.{well_read, looks_up}
use Rattle.format.specs.Choices.{no_choice, choice_of}
use Rattle.pinning.specs.PinSet.{PinSet, lines}
use Rattle.pinning.specs.Check.{Matches, pins_fit, same_totals, fits, codings_in, accept, checked}
use Rattle.format.proofs.Choices.{of_mark, number_some}
use Rattle.pinning.proofs.Lines.{lines_at}
use Rattle.pinning.proofs.Checks.{byte_kept, checks}

-- equal totals, test by test
pub totals_differ_count : (a b : PinTotals) → (a.count ≡ b.count → ⊥) → false ≡ same_totals a b
unfolding same_totals
totals_differ_count a b h = rw (ne_eqb a.count b.count h)

pub totals_differ_size : (a b : PinTotals) → a.count ≡ b.count → (a.size ≡ b.size → ⊥) → false ≡ same_totals a b
unfolding same_totals
totals_differ_size a b e h = rw (eq-eqb a.count b.count e, ne_eqb a.size b.size h)

pub totals_by_distortion : (a b : PinTotals) → a.count ≡ b.count → a.size ≡ b.size → eqb a.distortion b.distortion ≡ same_totals a b
unfolding same_totals
totals_by_distortion a b e f = rw (eq-eqb a.count b.count e, eq-eqb a.size b.size f)

-- the check, test by test
module _ (codings : ℕ → ℕ → Coding) (h : Header) (s : PinSet) where
  pub fits_not_header : same_header s.header h ≡ false → false ≡ fits codings h s
  unfolding fits
  fits_not_header e = rw e

  pub fits_not_bytes : same_header s.header h ≡ true → pins_fit h s.pins 512 ≡ false → false ≡ fits codings h s
  unfolding fits
  fits_not_bytes e f = rw (e, f)

  pub fits_by_totals : same_header s.header h ≡ true → pins_fit h s.pins 512 ≡ true → same_totals s.totals (totals_to codings (lines h.units s.pins) h.units) ≡ fits codings h s
  unfolding fits
  fits_by_totals e f = rw (e, f)

module _ (d : Door) (b : List ℕ) (j : Job) (k : ℕ) (parsed : parse d b ≡ took j k) where
  pub limits : InLimits j
  limits = limited j (well_read d b j k parsed).well_formed

  -- a unit in place i, at a choice that it has, is coded in the job as in the bytes
  pub coding_agrees : (i x : ℕ) → i < length j.units → x < j.choices → codings_in b (header_in j) i x ≡ job_coding j i x
  unfolding codings_in
  coding_agrees i x l c =
      let e : suc i - 1 ≡ i = omega arith in
      (looks_up d b j k parsed).coding (suc i) x (omega arith) (omega arith) c ∙ ap (λ (n : ℕ). job_coding j n x) e

  pub checked_took : (s : PinSet) → fits (job_coding j) (header_in j) s ≡ true → checked d b s ≡ took j k
  unfolding checked accept
  checked_took s e = rw (parsed, e)

  pub checked_six : (s : PinSet) → fits (job_coding j) (header_in j) s ≡ false → checked d b s ≡ refused 6
  unfolding checked accept
  checked_six s e = rw (parsed, e)

  -- in the document's words
  pub matched : (s : PinSet) → Matches j s → checked d b s ≡ took j k
  matched s m = checked_took s ((checks j s limits.units.1).1 m)

  pub unmatched : (s : PinSet) → (Matches j s → ⊥) → checked d b s ≡ refused 6
  unmatched s f = go (fits (job_coding j) (header_in j) s) refl
    where
      go : (t : Bool) → fits (job_coding j) (header_in j) s ≡ t → checked d b s ≡ refused 6
      go true e = absurd (f ((checks j s limits.units.1).0 e))
      go false e = checked_six s e

  -- a set that passes matches
  pub passes_matches : (s : PinSet) → checked d b s ≡ took j k → Matches j s
  passes_matches s q = go (fits (job_coding j) (header_in j) s) refl
    where
      go : (t : Bool) → fits (job_coding j) (header_in j) s ≡ t → Matches j s
      go true e = (checks j s limits.units.1).0 e
      go false e = not_took (sym (checked_six s e) ∙ q)

  module _ (s : PinSet) (size : length s.pins ≡ 512) where
    totals_agree_in : pins_fit (header_in j) s.pins 512 ≡ true → totals_to (codings_in b (header_in j)) (lines (length j.units) s.pins) (length j.units) ≡ totals_to (job_coding j) (lines (length j.units) s.pins) (length j.units)
    unfolding header_in pins_fit
    totals_agree_in f =
        totals_agree (codings_in b (header_in j)) (job_coding j) (lines (length j.units) s.pins) (length j.units)
        (λ i x l e.
        let p = sym (lines_at (length j.units) s.pins i (omega (arith, size, limits.units)) l) ∙ e in
        let q = number_some (get_or s.pins i 0) x p in
        coding_agrees i x l (below i x p q (byte_kept (header_in j) i (get_or s.pins i 0) (all_each _ 512 f i (omega (arith, limits.units))))))
      where
        below : (i x : ℕ) → choice_of (get_or s.pins i 0) ≡ some x → get_or s.pins i 0 ≡ x → (get_or s.pins i 0 ≡ no_choice) ⊎ ((i < length j.units) × (get_or s.pins i 0 < j.choices)) → x < j.choices
        below i x p q (inl e) = absurd (none-ne-some x (sym of_mark ∙ ap choice_of (sym e) ∙ p))
        below i x p q (inr h) = omega arith

    pub fits_agree : fits (codings_in b (header_in j)) (header_in j) s ≡ fits (job_coding j) (header_in j) s
    unfolding fits header_in
    fits_agree = go (same_header s.header (header_in j)) (pins_fit (header_in j) s.pins 512) refl
      where
        go : (t f : Bool) → pins_fit (header_in j) s.pins 512 ≡ f → (if t then if f then same_totals s.totals (totals_to (codings_in b (header_in j)) (lines (length j.units) s.pins) (length j.units)) else false else false) ≡ (if t then if f then same_totals s.totals (totals_to (job_coding j) (lines (length j.units) s.pins) (length j.units)) else false else false)
        go false f e = refl
        go true false e = refl
        go true true e = ap (same_totals s.totals) (totals_agree_in e)

pub checked_parsed : (d : Door) (b : List ℕ) (s : PinSet) (j : Job) (k : ℕ) → checked d b s ≡ took j k → parse d b ≡ took j k
unfolding checked accept
checked_parsed d b s j k e = go (parse d b) e
  where
    by_test : (t : Bool) (i : Job) (n : ℕ) → (if t then took i n else refused 6) ≡ took j k → took i n ≡ took j k
    by_test true i n q = q
    by_test false i n q = not_took q

    go : (r : Result Job) → accept s r ≡ took j k → r ≡ took j k
    go (refused n) q = not_took q
    go (took i n) q = by_test (fits (job_coding i) (header_in i) s) i n q

pub checked_refused : (d : Door) (b : List ℕ) (s : PinSet) (n : ℕ) → parse d b ≡ refused n → checked d b s ≡ refused n
unfolding checked accept
checked_refused d b s n e = rw e

-- a call that checks a set against its job first: 1 to 5, then 6, then its own tests
pub looks_checked : {R : Type 0} (refuse : ℕ → R) (d : Door) (b : List ℕ) (s : PinSet) (tests : Job → List Test) (conditions : Job → List Condition) (work : Job → R) (Else : Job → R → Type 0) → ((j : Job) (k : ℕ) → parse d b ≡ took j k → Matches j s → Decides (tests j) (conditions j) × (AllHold (conditions j) → Else j (work j))) → Looks (on_read refuse (checked d b s) (λ j. guarded refuse (tests j) (work j))) refuse (parse d b) (λ j. condition 6 (Matches j s) ∷ conditions j) (λ j. Else j (on_read refuse (checked d b s) (λ j. guarded refuse (tests j) (work j))))
unfolding on_read
looks_checked refuse d b s tests conditions work Else f = (
  λ n e. rw (checked_refused d b s n e),
  λ j k e. (
    λ m. rw (unmatched d b j k e s m),
    λ m. let h = f j k e m in in_order refuse h.0 (Else j) (work j) (on_read refuse (checked d b s) (λ j. guarded refuse (tests j) (work j))) (rw (matched d b j k e s m)) h.1,
  ),
)
