-- What opening and a call answer, from what reading the job and the check answered.
use Rattle.std.specs.Prelude.{Ok, Err}
use Prim.Native.Nat.{ℕ}
use mathlib.Core.Path.{◌≡◌}
use mathlib.Core.List.{List}
use Rattle.model.specs.Job.{Job}
use Rattle.model.specs.Pins.{Call}
use Rattle.format.specs.Parser.{refused, took, on_read}
use Rattle.format.specs.JobBytes.{Header, Door, opening, parse, no_header}
use Rattle.header.specs.declared.refusal.Refusal.{Refusal}
use Rattle.header.specs.Refusals.{number}
use Rattle.job.proofs.Answers.{Held}
use Rattle.pinning.specs.PinSet.{PinSet, fresh}
use Rattle.pinning.specs.Check.{checked}
use Rattle.pinning.specs.Calls.{opened, open_call, refuse, call_in, call}
use Rattle.pinset.specs.declared.PinSet as code_set
use Rattle.pinset.specs.Answers.{set_of}
use Rattle.pins.specs.Answers as told

module _ (d : Door) (b : List ℕ) where
  pub open_refused : (r : Refusal) (set : code_set.PinSet) → parse d b ≡ refused (number r) → set_of set ≡ fresh no_header → told.opening (record { answer = Err r; set = set }) ≡ open_call d b
  unfolding told.opening open_call opened
  open_refused r set e q = rw (e, q)

  pub open_took : (h : Header) (k : ℕ) (set : code_set.PinSet) → Held (parse d b) h k → set_of set ≡ fresh h → told.opening (record { answer = Ok k; set = set }) ≡ open_call d b
  unfolding told.opening open_call opened
  open_took h k set held q = rw (held.is, q, held.header_is)

module _ (b : List ℕ) (s : PinSet) (k : Call) where
  -- a call with a job or a set that the check refuses
  pub call_refused : (n : ℕ) → checked opening b s ≡ refused n → refuse s n ≡ call b s k
  unfolding call on_read
  call_refused n e = rw e

  -- and one that goes on to the job
  pub call_took : (j : Job) (n : ℕ) → checked opening b s ≡ took j n → call_in j s k ≡ call b s k
  unfolding call on_read
  call_took j n e = rw e
