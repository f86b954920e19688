-- What the check answers, from what reading the job answered, and what holds of a set that it takes.
use Prim.Native.Nat.{ℕ, ◌≤◌}
use mathlib.Core.Path.{◌≡◌, refl, sym, ◌∙◌, ap}
use mathlib.Core.Bool.{Bool, true, false}
use mathlib.Core.List.{List}
use native.Mathlib.Omega.{arith}
use lib.ListN.{length}
use Rattle.std.specs.Prelude.{if◌then◌else◌, Ok, Err}
use Rattle.model.specs.Job.{Job, job_coding}
use Rattle.format.specs.Parser.{Result, refused, took, with_value}
use Rattle.format.specs.JobBytes.{Header, header_in, Door, parse, job_in}
use Rattle.format.proofs.Opened.{held_job, opens_by}
use Rattle.header.specs.declared.refusal.Refusal.{Refusal}
use Rattle.header.specs.declared.refusal.Refusal.TheVariants as r
use Rattle.header.specs.Refusals.{number}
use Rattle.job.specs.declared.Reading.{Reading}
use Rattle.header.specs.Answers.{plain}
use Rattle.job.specs.Answers.{reading}
use Rattle.job.proofs.Answers.{Held}
use Rattle.pinning.specs.PinSet.{PinSet}
use Rattle.pinning.specs.Check.{fits, codings_in, accept, checked, Ready}
use Rattle.pinning.proofs.Checks.{checks}
use Rattle.pinning.proofs.Agree.{limits, fits_agree, checked_took, checked_six, checked_refused}

module _ (d : Door) (b : List ℕ) where
  pub few_units : (h : Header) (k : ℕ) → Held (parse d b) h k → h.units ≤ 512
  unfolding header_in
  few_units h k held = let n = ap (λ (i : Header). i.units) held.header_is in omega (arith, (limits d b held.job k held.is).units)

  module _ (s : PinSet) where
    pub check_refused : (e : Refusal) → parse d b ≡ refused (number e) → reading (Err e) ≡ with_value header_in (checked d b s)
    unfolding with_value
    check_refused e p = rw (checked_refused d b s (number e) p)

    module _ (k : Reading) (held : Held (parse d b) (plain k.header) k.taken) (size : length s.pins ≡ 512) where
      fits_job : (t : Bool) → t ≡ fits (codings_in b (plain k.header)) (plain k.header) s → fits (job_coding held.job) (header_in held.job) s ≡ t
      fits_job t e = sym (fits_agree d b held.job k.taken held.is s size) ∙ ap (λ (i : Header). fits (codings_in b i) i s) held.header_is ∙ sym e

      pub check_took : true ≡ fits (codings_in b (plain k.header)) (plain k.header) s → reading (Ok k) ≡ with_value header_in (checked d b s)
      unfolding with_value
      check_took e = rw (checked_took d b held.job k.taken held.is s (fits_job true e), held.header_is)

      pub check_six : false ≡ fits (codings_in b (plain k.header)) (plain k.header) s → reading (Err r.Set) ≡ with_value header_in (checked d b s)
      unfolding with_value
      check_six e = rw (checked_six d b held.job k.taken held.is s (fits_job false e))

    -- a set that the check takes matches the job
    ready_by : (j : Job) (k : ℕ) (p : Result Job) → length s.pins ≡ 512 → parse d b ≡ p → accept s p ≡ took j k → Ready b (header_in j) s × (job_in b ≡ j)
    unfolding accept
    ready_by j k (refused n) size e q = let z : ◌≡◌ {A = ℕ} 0 1 = cc in absurd (omega arith)
    ready_by j k (took i m) size e q = go (fits (job_coding i) (header_in i) s) refl q
      where
        go : (t : Bool) → fits (job_coding i) (header_in i) s ≡ t → (if t then took i m else refused 6) ≡ took j k → Ready b (header_in j) s × (job_in b ≡ j)
        go false f w = let z : ◌≡◌ {A = ℕ} 0 1 = cc in absurd (omega arith)
        go true f w =
            let same : i ≡ j = cc in (
              record {
                opens = opens_by d b (header_in j) i m e (ap header_in same);
                matches = rw (held_job d b i m e) ((checks i s (limits d b i m e).units.1).0 f);
                size = size;
              },
              held_job d b i m e ∙ same,
            )

    pub ready : (h : Header) (k : ℕ) → Held (checked d b s) h k → length s.pins ≡ 512 → Ready b h s
    unfolding checked
    ready h k held size = rw held.header_is at (ready_by held.job k (parse d b) size refl held.is).0

    -- and the job that it took is the one that the bytes hold
    pub ready_took : (h : Header) (k : ℕ) → Held (checked d b s) h k → length s.pins ≡ 512 → checked d b s ≡ took (job_in b) k
    unfolding checked
    ready_took h k held size = held.is ∙ ap (λ (i : Job). took i k) (sym (ready_by held.job k (parse d b) size refl held.is).1)
