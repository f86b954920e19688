-- What bytes hold, from what opening them answered: no job, or a job and its fresh set.
use Prim.Native.Nat.{ℕ}
use mathlib.Core.Path.{◌≡◌, refl, sym, ap}
use mathlib.Core.List.{List}
use native.Mathlib.Omega.{arith}
use Rattle.base.specs.Answer.{refused, gives}
use Rattle.model.specs.Job.{Job}
use Rattle.format.specs.Parser as P
use Rattle.format.specs.JobBytes.{header_in, no_header, Door, parse}
use Rattle.pinning.specs.PinSet.{fresh}
use Rattle.pinning.specs.Calls.{Opening, opened, open_call}
use Rattle.header.specs.Answers.{answer_by}
use Rattle.pins.specs.declared.Opened.{Opened}
use Rattle.pinset.specs.Answers.{set_of}
use Rattle.pins.specs.Answers.{opening}

-- a job that did not open
pub not_open : (p : P.Result Job) (n : ℕ) → (opened p).answer ≡ refused n → (p ≡ P.refused n) × ((opened p).set ≡ fresh no_header)
unfolding opened
not_open (P.refused m) n e = let q : m ≡ n = cc in (rw q, refl)
not_open (P.took j k) n e = let z : ◌≡◌ {A = ℕ} 0 1 = cc in absurd (omega arith)

-- a job that opened
pub record Open (p : P.Result Job) (k : ℕ) : Type 0 where
  pub job : Job
  pub is : p ≡ P.took job k
  pub fresh_is : (opened p).set ≡ fresh (header_in job)

pub is_open : (p : P.Result Job) (k : ℕ) → (opened p).answer ≡ gives k → Open p k
unfolding opened
is_open (P.refused m) k e = let z : ◌≡◌ {A = ℕ} 0 1 = cc in absurd (omega arith)
is_open (P.took j m) k e = let q : m ≡ k = cc in record { job = j; is = rw q; fresh_is = refl }

-- x is the answer of opening
module _ (d : Door) (b : List ℕ) (x : Opened) (e : opening x ≡ open_call d b) where
  pub answer_is : (opened (parse d b)).answer ≡ answer_by (λ k. k) x.answer
  unfolding opening open_call
  answer_is = ap (λ (t : Opening). t.answer) (sym e)

  pub state_is : set_of x.set ≡ (opened (parse d b)).set
  unfolding opening open_call
  state_is = ap (λ (t : Opening). t.set) e
