-- What the answers of this crate mean in the terms of `planning`, case by case, and what its private functions say and ask.
use Rattle.std.specs.Prelude.{ℕ, ◌≤◌, ◌≡◌, List, length, Result}
use Rattle.base.specs.Answer.{Answer}
use Rattle.model.specs.Pins.{Call}
use Rattle.model.specs.Table.{words, word_at}
use Rattle.format.specs.JobBytes as format
use Rattle.format.specs.JobBytes.{job_in}
use Rattle.pinning.specs.PinSet.{PinSet, lines}
use Rattle.pinning.specs.Check.{Ready}
use Rattle.pinning.specs.Calls.{Handed, call}
use Rattle.pinset.specs.Answers.{set_of}
use Rattle.planning.specs.See as planning
use Rattle.planning.specs.See.{unit_of, renewed, see_call}
use Rattle.header.specs.declared.refusal.Refusal.{Refusal}
use Rattle.header.specs.Answers.{answer_by}
use Rattle.see.specs.declared.Seen.{Seen}

abbrev pub answered : Result ℕ Refusal → Answer ℕ
answered = answer_by (λ w. w)

-- the answer, the set and the list that was lent
unfoldable pub seen : Seen → List ℕ → planning.Seen
seen r table = record { answer = answered r.answer; set = set_of r.set; table = table }

-- What the private functions say and ask.

-- a set of the job, one of its units, and a table that is long enough
pub record Renews (b : List ℕ) (h : format.Header) (s : PinSet) (u : ℕ) (table : List ℕ) : Type 0 where
  pub ready : Ready b h s
  pub unit : u ≤ h.units
  pub room : words (job_in b) ≤ length table

-- the table brought up to date, and its word
pub record Renewed (b : List ℕ) (s : PinSet) (u : ℕ) (old : List ℕ) (word : ℕ) (new : List ℕ) : Type 0 where
  pub table_is : new ≡ renewed (job_in b) (lines (length (job_in b).units) s.pins) u old
  pub word_is : word ≡ word_at (job_in b) new 0 (job_in b).start

-- what is handed on came of a pin or a lift of this unit
pub record Made (b : List ℕ) (s : PinSet) (u : ℕ) (h : Handed) : Type 0 where
  pub made : Call
  pub unit : unit_of made ≡ u
  pub is : h ≡ call b s made

-- and for each such call r is what that call sees
abbrev pub SeesFor : List ℕ → PinSet → ℕ → Handed → List ℕ → planning.Seen → Type 0
SeesFor b s u h table r = (k : Call) → unit_of k ≡ u → h ≡ call b s k → r ≡ see_call b s k table
