-- What opening a job, a pin and a lift answer, and the set that they hand back (document 01, "Pins" and "Where each refusal is checked").
use Rattle.std.specs.Prelude.{ℕ, ◌+◌, ◌-◌, not, List, [], ◌∷◌, ◌++◌, leb, ltb, eqb, length, get_or, set}
use Rattle.std.proofs.Math.Option.{Option, none, some}
use Rattle.base.specs.Answer.{Answer, refused, gives}
use Rattle.base.specs.Refusals.{Test, test, guarded}
use Rattle.model.specs.Job.{Coding, Job, job_coding}
use Rattle.model.specs.Pins.{Call, pin, lift, Click, plain, sees, outside}
use Rattle.model.specs.Table.{words}
use Rattle.format.specs.Parser.{Result, on_read}
use Rattle.format.specs.Parser as P
use Rattle.format.specs.JobBytes.{no_header, header_in, Door, opening, parse}
use Rattle.format.specs.Choices.{no_choice}
use Rattle.pinning.specs.PinSet.{PinSet, fresh}
use Rattle.pinning.specs.Check.{checked}

-- how many bytes the job took, and the set; a refusal answers its number alone, and the set beside it is that of no job
pub record Opening : Type 0 where
  pub answer : Answer ℕ
  pub set : PinSet

unfoldable pub opened : Result Job → Opening
opened (P.refused n) = record { answer = refused n; set = fresh no_header }
opened (P.took j k) = record { answer = gives k; set = fresh (header_in j) }

-- by either door
unfoldable pub open_call : Door → List ℕ → Opening
open_call d b = opened (parse d b)

-- the number that refuses a call, or none, and the set that is handed back
pub record Handed : Type 0 where
  pub refused : Option ℕ
  pub set : PinSet

-- a refused call hands back the set as it came
unfoldable pub refuse : PinSet → ℕ → Handed
refuse s n = record { refused = some n; set = s }

unfoldable pub take_in : PinSet → Handed
take_in s = record { refused = none; set = s }

-- the unit in place i pinned at the choice x, which codes it so; all three totals follow
unfoldable pub with_pin : PinSet → ℕ → ℕ → Coding → PinSet
with_pin s i x c = record {
  header = s.header;
  pins = set s.pins i x;
  totals = record {
    count = s.totals.count + 1;
    size = s.totals.size + c.size;
    distortion = s.totals.distortion + c.distortion;
  };
}

unfoldable pub without_pin : PinSet → ℕ → Coding → PinSet
without_pin s i c = record {
  header = s.header;
  pins = set s.pins i no_choice;
  totals = record {
    count = s.totals.count - 1;
    size = s.totals.size - c.size;
    distortion = s.totals.distortion - c.distortion;
  };
}

-- the number in the place of unit u
abbrev pub pin_of : PinSet → ℕ → ℕ
pin_of s u = get_or s.pins (u - 1) 0

-- what a call is tested for, of a job that the set matches: 7, then 8 and 9 for a pin, 10 for a lift
unfoldable pub call_tests : Job → PinSet → Call → List Test
call_tests j s (pin u x) = test 7 (not (outside (length j.units) u)) ∷ test 8 (ltb x j.choices) ∷ test 9 (eqb (pin_of s u) no_choice) ∷ []
call_tests j s (lift u) = test 7 (not (outside (length j.units) u)) ∷ test 10 (not (eqb (pin_of s u) no_choice)) ∷ []

-- the set that a call leaves
unfoldable pub called : Job → PinSet → Call → PinSet
called j s (pin u x) = with_pin s (u - 1) x (job_coding j (u - 1) x)
called j s (lift u) = without_pin s (u - 1) (job_coding j (u - 1) (pin_of s u))

unfoldable pub call_in : Job → PinSet → Call → Handed
call_in j s k = guarded (refuse s) (call_tests j s k) (take_in (called j s k))

-- a pin or a lift with the bytes of a job that opens and a set: 1 to 5 and 17, then 6, then its own refusals
unfoldable pub call : List ℕ → PinSet → Call → Handed
call b s k = on_read (refuse s) (checked opening b s) (λ j. call_in j s k)

-- a click, which is a call by itself or one that sees (document 02, E9): where it sees, its own tests are followed by that of the table, 11
unfoldable pub call_of : Click → Call
call_of (plain k) = k
call_of (sees k n) = k

unfoldable pub click_tests : Job → PinSet → Click → List Test
click_tests j s (plain k) = call_tests j s k
click_tests j s (sees k n) = call_tests j s k ++ (test 11 (leb (words j) n) ∷ [])

unfoldable pub click_in : Job → PinSet → Click → Handed
click_in j s k = guarded (refuse s) (click_tests j s k) (take_in (called j s (call_of k)))

unfoldable pub click : List ℕ → PinSet → Click → Handed
click b s k = on_read (refuse s) (checked opening b s) (λ j. click_in j s k)

-- a list of calls with the bytes of one job, each given the set that the last handed back: their answers, and the last set
pub record CallsMade : Type 0 where
  pub answers : List (Option ℕ)
  pub set : PinSet

unfoldable pub after : Option ℕ → CallsMade → CallsMade
after o r = record { answers = o ∷ r.answers; set = r.set }

unfoldable pub run : List ℕ → PinSet → List Call → CallsMade
run b s [] = record { answers = []; set = s }
run b s (k ∷ ks) = after (call b s k).refused (run b (call b s k).set ks)

unfoldable pub run_clicks : List ℕ → PinSet → List Click → CallsMade
run_clicks b s [] = record { answers = []; set = s }
run_clicks b s (k ∷ ks) = after (click b s k).refused (run_clicks b (click b s k).set ks)
