-- What the answers of this crate mean in the terms of `calling`.
use Rattle.std.specs.Prelude.{ℕ, List, Result}
use Rattle.interval.specs.declared.Totals.{Totals}
use Rattle.header.specs.declared.refusal.Refusal.{Refusal}
use Rattle.planner.specs.Answers.{planned}
use Rattle.calling.specs.Sessions.{Session}

-- the answer of a session with planning, and the lists that were lent
unfoldable pub session_is : Result Totals Refusal → List ℕ → List ℕ → List ℕ → Session
session_is x answers table entries = record { answers = answers; planned = planned x table entries }
