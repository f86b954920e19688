-- What the structs and answers of this crate mean in the terms of `calling`, case by case, and what the calls that were made leave.
use Rattle.std.specs.Prelude.{ℕ, ◌≡◌, List, Result}
use Rattle.base.specs.Answer.{Answer}
use Rattle.base.specs.Lent.{Ended, over}
use Rattle.model.specs.Pins.{PinTotals}
use Rattle.format.specs.JobBytes.{opening}
use Rattle.pinset.specs.declared.PinSet as code_set
use Rattle.pinset.specs.Answers.{set_of}
use Rattle.calling.specs.Sessions.{made, numbers}
use Rattle.header.specs.declared.refusal.Refusal.{Refusal}
use Rattle.header.specs.Answers.{answer_by}
use Rattle.calls.specs.declared.PinTotals as code

-- the answer of calls alone: the totals of the set that they leave, and the list that was lent
unfoldable pub totals_are : code.PinTotals → PinTotals
totals_are t = record { count = t.count; size = t.size; distortion = t.distortion }

abbrev pub called_answer : Result code.PinTotals Refusal → Answer PinTotals
called_answer = answer_by totals_are

unfoldable pub called : Result code.PinTotals Refusal → List ℕ → Ended PinTotals
called x answers = record { answer = called_answer x; list = answers }

-- the calls' numbers are written over the first of the answers, and the set is the last that was handed back
pub record Made (b calls old : List ℕ) (s : code_set.PinSet) (new : List ℕ) : Type 0 where
  pub set_is : set_of s ≡ (made opening b calls).set
  pub written : new ≡ over (numbers b calls) old
