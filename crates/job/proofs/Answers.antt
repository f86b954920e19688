-- What an answer of `read`, or of a call that answers like it, says of what was read.
use Prim.Native.Nat.{ℕ}
use mathlib.Core.Path.{◌≡◌, refl, sym, ◌∙◌, ap}
use native.Mathlib.Omega.{arith}
use Rattle.model.specs.Job.{Job}
use Rattle.format.specs.Parser.{Result, refused, took, with_value}
use mathlib.Core.List.{List}
use Rattle.format.specs.JobBytes.{Header, header_in, Door, parse, job_in, Opens}
use Rattle.format.proofs.Opened.{held_job, opens_by}
use Rattle.job.specs.declared.Reading.{Reading}
use Rattle.header.specs.Answers.{plain}

-- a job with this header
pub record Held (p : Result Job) (h : Header) (k : ℕ) : Type 0 where
  pub job : Job
  pub is : p ≡ took job k
  pub header_is : header_in job ≡ h

-- the bytes hold a job with this header, and the door takes it
pub record Passes (d : Door) (b : List ℕ) (h : Header) : Type 0 where
  pub opens : Opens b h
  pub taken : ℕ
  pub took : parse d b ≡ took (job_in b) taken

pub passes : (d : Door) (b : List ℕ) (h : Header) (k : ℕ) → Held (parse d b) h k → Passes d b h
passes d b h k r = record {
  opens = opens_by d b h r.job k r.is r.header_is;
  taken = k;
  took = r.is ∙ ap (λ (i : Job). took i k) (sym (held_job d b r.job k r.is));
}

held : (p q : Result Job) (h : Header) (k : ℕ) → p ≡ q → with_value header_in q ≡ took h k → Held p h k
unfolding with_value
held p (refused n) h k e w = let z : ◌≡◌ {A = ℕ} 0 1 = cc in absurd (omega arith)
held p (took j m) h k e w = let i : m ≡ k = cc in record { job = j; is = e ∙ ap (took j) i; header_is = cc }

pub answer_took : (p : Result Job) (x : Reading) → took (plain x.header) x.taken ≡ with_value header_in p → Held p (plain x.header) x.taken
answer_took p x e = held p p (plain x.header) x.taken refl (sym e)

not_read : (p q : Result Job) (n : ℕ) → p ≡ q → with_value header_in q ≡ refused n → p ≡ refused n
unfolding with_value
not_read p (refused m) n e w = e ∙ cc
not_read p (took j m) n e w = let z : ◌≡◌ {A = ℕ} 0 1 = cc in absurd (omega arith)

pub answer_refused : (p : Result Job) (n : ℕ) → refused n ≡ with_value header_in p → p ≡ refused n
answer_refused p n e = not_read p p n refl (sym e)
