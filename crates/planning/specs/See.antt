-- Pin and see, lift and see (document 02, E9): a pin or a lift, the table brought up to date with the new pins, and the word of layer 0 at the starting levels.
use Rattle.std.specs.Prelude.{ℕ, ◌+◌, ◌-◌, List, [], ◌∷◌, ◌++◌, length, take, drop}
use Rattle.base.specs.Answer.{Answer, refused, gives}
use Rattle.base.specs.Refusals.{guarded}
use Rattle.model.specs.Job.{Job}
use Rattle.model.specs.Pins.{PinMap, Call, pin, lift, Click, sees}
use Rattle.model.specs.Best.{unlimited}
use Rattle.model.specs.Table.{word_at}
use Rattle.format.specs.Parser.{on_read}
use Rattle.format.specs.JobBytes.{opening}
use Rattle.pinning.specs.PinSet.{PinSet, lines}
use Rattle.pinning.specs.Check.{checked}
use Rattle.pinning.specs.Calls.{called, click_tests}
use Rattle.planning.specs.Rule.{refilled}

-- the answer, the set that is handed back, and the list that was lent for the table
pub record Seen : Type 0 where
  pub answer : Answer ℕ
  pub set : PinSet
  pub table : List ℕ

-- a refusal hands back the set as it came and leaves every word
unfoldable pub keep : PinSet → List ℕ → ℕ → Seen
keep s table n = record { answer = refused n; set = s; table = table }

unfoldable pub unit_of : Call → ℕ
unit_of (pin u x) = u
unit_of (lift u) = u

-- the layers of intervals 0 to u + d - 1 made anew with these pins, each from the next: the last of them from what stands in layer u + d, whatever that is
unfoldable pub renewed : Job → PinMap → ℕ → List ℕ → List ℕ
renewed j m u table = refilled ◌+◌ j (unlimited m) 0 (u + j.delay) table

-- the set with the call made, and what unit u's new line makes of the table
unfoldable pub seen : Job → PinSet → ℕ → List ℕ → Seen
seen j s u table = record {
  answer = gives (word_at j (renewed j (lines (length j.units) s.pins) u table) 0 j.start);
  set = s;
  table = renewed j (lines (length j.units) s.pins) u table;
}

-- the call's own refusals, then 11
unfoldable pub see_in : Job → PinSet → Call → List ℕ → Seen
see_in j s k table = guarded (keep s table) (click_tests j s (sees k (length table))) (seen j (called j s k) (unit_of k) table)

-- the job, 1 to 5 and 17, the set, 6, then these
unfoldable pub see_call : List ℕ → PinSet → Call → List ℕ → Seen
see_call b s k table = on_read (keep s table) (checked opening b s) (λ j. see_in j s k table)

-- A sitting: calls that see in turn, each given the set and the table that the last one left. One may be lent the table without its last words, which keep what they hold.
pub record Sight : Type 0 where
  pub call : Call
  pub held_back : ℕ

-- how many words of a table it is lent
unfoldable pub lent : Sight → List ℕ → ℕ
lent v table = length table - v.held_back

pub record Sat : Type 0 where
  pub set : PinSet
  pub table : List ℕ

-- the set and the table after one of them
unfoldable pub sat : Seen → List ℕ → Sat
sat r rest = record { set = r.set; table = r.table ++ rest }

unfoldable pub sight : List ℕ → Sat → Sight → Sat
sight b r v = sat (see_call b r.set v.call (take (lent v r.table) r.table)) (drop (lent v r.table) r.table)

unfoldable pub sit : List ℕ → Sat → List Sight → Sat
sit b r [] = r
sit b r (v ∷ vs) = sit b (sight b r v) vs

-- the same as clicks, for a table of so many words
unfoldable pub clicks_of : ℕ → List Sight → List Click
clicks_of size [] = []
clicks_of size (v ∷ vs) = sees v.call (size - v.held_back) ∷ clicks_of size vs
