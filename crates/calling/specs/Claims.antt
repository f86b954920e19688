-- What is claimed of command records, of calls as numbers and of sessions of calls: each claim is a type, which a theorem of proofs/ inhabits.
use Rattle.std.specs.Prelude.{ℕ, ◌+◌, ◌*◌, ◌/◌, ◌%◌, ◌<◌, ◌≤◌, ◌≡◌, ◌⊎◌, List, [], ◌∷◌, ◌++◌, map, length, get_or, take, drop, if◌then◌else◌}
use Rattle.std.proofs.Math.Option.{Option, none, some}
use Rattle.base.specs.Answer.{refused, gives}
use Rattle.base.specs.Refusals.{condition}
use Rattle.base.specs.Lent.{over}
use Rattle.base.specs.Lent as lent
use Rattle.model.specs.Job.{Job, intervals}
use Rattle.model.specs.Pins as book
use Rattle.model.specs.Pins.{Call, no_pins, pins_after, pin_totals}
use Rattle.model.specs.Best.{late, early, total, even}
use Rattle.model.specs.Table.{words}
use Rattle.format.specs.Fields.{Bytes}
use Rattle.format.specs.Limits.{each_kept}
use Rattle.format.specs.Parser as P
use Rattle.format.specs.Parser.{Looks}
use Rattle.format.specs.JobBytes.{parse, header_in, opening, archive, drain_limits}
use Rattle.format.specs.Claims.{u16_at, Due, HeadOrder, BodyOrder, InLimits, Drains}
use Rattle.pinning.specs.PinSet.{PinSet}
use Rattle.pinning.specs.Calls as pinning
use Rattle.pinning.specs.Calls.{Handed, open_call, call, run}
use Rattle.replaying.specs.Entries.{plan_of}
use Rattle.replaying.specs.Claims.{InShape, DemandTwo}
use Rattle.planning.specs.Calls.{plan_call}
use Rattle.planning.specs.Calls as plan
use Rattle.planning.specs.Claims.{PlanClaim, Keeping}
use Rattle.calling.specs.Commands.{command, command_bytes, commands_call, calls_of}
use Rattle.calling.specs.Sessions.{answer_number, aim_named, order_named, calls_call, Session, refuse, session_call, replay_session, input_call}

-- Command records.

-- the numbers of a call are u16
abbrev pub InTwoBytes : Call → Type 0
InTwoBytes (book.pin u c) = (u < 65536) × (c < 65536)
InTwoBytes (book.lift u) = u < 65536

-- in which order a command record is looked at, and what is read: kind 6 with a body of 4 bytes is a pin, kind 7 with one of 2 a lift; no value is refused
pub record CommandOrder (b : List ℕ) : Type 0 where
  pub head : HeadOrder command (Due 6 4 b ⊎ Due 7 2 b) b
  pub pins : BodyOrder command 6 4 2 (λ l. book.pin (u16_at l 4) (u16_at l 6)) (λ k. Unit {0}) b
  pub lifts : BodyOrder command 7 2 2 (λ l. book.lift (u16_at l 4)) (λ k. Unit {0}) b

-- what is taken as a call begins with the record of that call
pub record CommandTaken (b : List ℕ) (k : Call) (n : ℕ) : Type 0 where
  pub fits : InTwoBytes k
  pub size : n ≤ length b
  pub same : take n b ≡ command_bytes k

-- bytes that begin with the command records of these calls, and what is left behind them
pub data Records : List ℕ → List Call → List ℕ → Type 0 where
  no_more : {rest : List ℕ} → Records rest [] rest
  one_more : {rest left : List ℕ} {k : Call} {used : ℕ} {ks : List Call} → command rest ≡ P.took k used → Records (drop used rest) ks left → Records rest (k ∷ ks) left

-- where commands end, by what is left and the set that is held: at the end of the bytes, at bytes that are no command record, or at a call that is refused
pub data Ending (b : List ℕ) (s : PinSet) (left : List ℕ) : Option ℕ → Type 0 where
  none_left : length left ≡ 0 → Ending b s left none
  not_read : {n : ℕ} → (length left ≡ 0 → ⊥) → command left ≡ P.refused n → Ending b s left (some n)
  not_taken : {n used : ℕ} {k : Call} → command left ≡ P.took k used → (call b s k).refused ≡ some n → Ending b s left (some n)

-- commands from a set on: those before the end are calls in turn, all taken, and their set is handed back with the number that ends them, or none
pub record CommandsClaim (b : List ℕ) (s : PinSet) (rest : List ℕ) (r : Handed) : Type 0 where
  pub calls : List Call
  pub left : List ℕ
  pub records : Records rest calls left
  pub all_taken : (run b s calls).answers ≡ map (λ c. none) calls
  pub held : (run b s calls).set ≡ r.set
  pub ending : Ending b r.set left r.refused

-- the job, then the commands behind it
pub record CommandsOrder (b : List ℕ) : Type 0 where
  pub job_first : (n : ℕ) → parse opening b ≡ P.refused n → commands_call b ≡ pinning.refuse (open_call opening b).set n
  pub then_commands : (j : Job) (k : ℕ) → parse opening b ≡ P.took j k → CommandsClaim b (open_call opening b).set (drop k b) (commands_call b)

-- Calls as numbers, three a call: the kind, the unit and the choice.

-- the kind of each whole call is 6 or 7
abbrev pub AllKinds : List ℕ → Type 0
AllKinds l = (i : ℕ) → 3 * i + 2 < length l → (get_or l (3 * i) 0 ≡ 6) ⊎ (get_or l (3 * i) 0 ≡ 7)

-- no call is cut
abbrev pub Whole : List ℕ → Type 0
Whole l = length l % 3 ≡ 0

pub record NumbersClaim (l : List ℕ) : Type 0 where
  pub count : length (calls_of l) ≡ length l / 3
  pub pins : (i : ℕ) → 3 * i + 2 < length l → get_or l (3 * i) 0 ≡ 6 → (k : Call) → get_or (calls_of l) i k ≡ book.pin (get_or l (3 * i + 1) 0) (get_or l (3 * i + 2) 0)
  pub lifts : (i : ℕ) → 3 * i + 2 < length l → get_or l (3 * i) 0 ≡ 7 → (k : Call) → get_or (calls_of l) i k ≡ book.lift (get_or l (3 * i + 1) 0)

-- Aim and order as numbers: each names one of two.
abbrev pub Either : ℕ → Type 0
Either n = (n ≡ 0) ⊎ (n ≡ 1)

pub record NamedClaim : Type 0 where
  pub total_is : aim_named 0 ≡ total
  pub even_is : aim_named 1 ≡ even
  pub early_is : order_named 0 ≡ early
  pub late_is : order_named 1 ≡ late

-- Sessions of calls. What the book of document 01 answers them, as numbers, and the lines that it has after them.
abbrev pub book_numbers : Job → List ℕ → List ℕ
book_numbers j calls = map answer_number (book.answers j.choices (no_pins (length j.units)) (calls_of calls))

abbrev pub book_pins : Job → List ℕ → book.PinMap
book_pins j calls = pins_after j.choices (no_pins (length j.units)) (calls_of calls)

-- the pins of a replay after calls: the book's lines; none where a bucket never drains, since then 17 refuses each call (document 02, E8)
unfoldable pub archive_pins : Job → List ℕ → book.PinMap
archive_pins j calls = if each_kept (drain_limits opening (header_in j).buckets) then book_pins j calls else no_pins (length j.units)

-- in words
pub record ArchivePins (j : Job) (calls : List ℕ) : Type 0 where
  pub drained : InLimits j → Drains opening j → archive_pins j calls ≡ book_pins j calls
  pub idle : InLimits j → (Drains opening j → ⊥) → archive_pins j calls ≡ no_pins (length j.units)

-- a session with planning, from lists that are long enough: with a plan, each call's number is written, as the book answers it, and the rest of the list is as before; with 13 the list is as it came
pub record SessionClaim (j : Job) (calls : List ℕ) (aim order : ℕ) (answers table entries : List ℕ) (r : Session) : Type 0 where
  pub answered : (r.planned.answer ≡ refused 13 → ⊥) → r.answers ≡ over (book_numbers j calls) answers
  pub none_kept : r.planned.answer ≡ refused 13 → r.answers ≡ answers
  pub planning : PlanClaim j (book_pins j calls) (aim_named aim) (order_named order) 0 j.start table entries r.planned

-- a refusal leaves all three lists as they came, 13 the table aside
pub record SessionKeeping (answers table entries : List ℕ) (r : Session) : Type 0 where
  pub lists : Keeping table entries r.planned
  pub answers_kept : (n : ℕ) → r.planned.answer ≡ refused n → r.answers ≡ answers

-- what the program plans, from lists that are long enough; no command is refused, so that nothing is left behind them
pub record InputClaim (b : List ℕ) (j : Job) (k : ℕ) (table entries : List ℕ) : Type 0 where
  pub commands : CommandsClaim b (open_call opening b).set (drop k b) (commands_call b)
  pub planning : PlanClaim j (pins_after j.choices (no_pins (length j.units)) commands.calls) total early 0 j.start table entries (input_call b table entries)

-- in which order the program looks at its input
pub record InputOrder (b table entries : List ℕ) : Type 0 where
  pub size_first : 32768 < length b → input_call b table entries ≡ plan.refuse table entries 15
  pub then_commands : (n : ℕ) → length b ≤ 32768 → (commands_call b).refused ≡ some n → input_call b table entries ≡ plan.refuse table entries n
  pub then_plan : length b ≤ 32768 → (commands_call b).refused ≡ none → input_call b table entries ≡ plan_call b (commands_call b).set total early table entries

-- The claims.

-- the record of every pin and every lift is read back as that call, whatever stands behind it, and nothing else is taken
abbrev pub CommandReadsBack : Type 0
CommandReadsBack = (k : Call) → InTwoBytes k → (rest : List ℕ) → command (command_bytes k ++ rest) ≡ P.took k (length (command_bytes k))

abbrev pub CommandWritesBack : Type 0
CommandWritesBack = (b : List ℕ) → Bytes b → (k : Call) (n : ℕ) → command b ≡ P.took k n → CommandTaken b k n

abbrev pub CommandRecords : Type 0
CommandRecords = (b : List ℕ) → CommandOrder b

-- demand 1 of commands, taken and refused
abbrev pub Commands : Type 0
Commands = (b : List ℕ) → CommandsOrder b

-- what calls as numbers are read as
abbrev pub CallNumbers : Type 0
CallNumbers = (l : List ℕ) → NumbersClaim l

abbrev pub Named : Type 0
Named = NamedClaim

-- the calls alone: the job, 1 to 5 and 17, then the calls, 2 or 1, then room for their numbers; the answer has the totals of the book's lines
abbrev pub CallSessions : Type 0
CallSessions = (b calls answers : List ℕ) → Looks (calls_call b calls answers) (lent.refuse answers) (parse opening b) (λ j. condition 2 (AllKinds calls) ∷ condition 1 (Whole calls) ∷ condition 12 (length calls / 3 ≤ length answers) ∷ []) (λ j. calls_call b calls answers ≡ record { answer = gives (pin_totals j (book_pins j calls)); list = over (book_numbers j calls) answers })

-- demands 1 and 3 of a session with planning; no call is made before all of this is looked at
abbrev pub Sessions : Type 0
Sessions = (b calls : List ℕ) (aim order : ℕ) (answers table entries : List ℕ) → Looks (session_call b calls aim order answers table entries) (refuse answers table entries) (parse opening b) (λ j. condition 2 (Either aim) ∷ condition 2 (Either order) ∷ condition 2 (AllKinds calls) ∷ condition 1 (Whole calls) ∷ condition 11 (words j ≤ length table) ∷ condition 12 (length calls / 3 ≤ length answers) ∷ condition 12 (3 * intervals j ≤ length entries) ∷ []) (λ j. SessionClaim j calls aim order answers table entries (session_call b calls aim order answers table entries))

abbrev pub SessionKeeps : Type 0
SessionKeeps = (b calls : List ℕ) (aim order : ℕ) (answers table entries : List ℕ) → SessionKeeping answers table entries (session_call b calls aim order answers table entries)

abbrev pub ReplayPins : Type 0
ReplayPins = (j : Job) (calls : List ℕ) → ArchivePins j calls

-- demands 1 and 2 of a replay after calls; the set that the calls leave is never refused. Where a bucket never drains no call is taken, and the replay is with no pins
abbrev pub ReplaySessions : Type 0
ReplaySessions = (b calls entries levels : List ℕ) → Looks (replay_session b calls entries levels) (lent.refuse levels) (parse archive b) (λ j. condition 2 (AllKinds calls) ∷ condition 1 (Whole calls) ∷ condition 14 (InShape j entries) ∷ condition 12 ((1 + length j.line.buckets) * intervals j ≤ length levels) ∷ []) (λ j. DemandTwo j (archive_pins j calls) (plan_of j entries) levels (replay_session b calls entries levels))

abbrev pub ReplaySessionKeeps : Type 0
ReplaySessionKeeps = (b calls entries levels : List ℕ) → lent.Keeping levels (replay_session b calls entries levels)

-- what the program reads
abbrev pub Inputs : Type 0
Inputs = (b : List ℕ) (j : Job) (k : ℕ) (table entries : List ℕ) → parse opening b ≡ P.took j k → length b ≤ 32768 → (commands_call b).refused ≡ none → words j ≤ length table → 3 * intervals j ≤ length entries → InputClaim b j k table entries

-- document 02, E8: a job that the archive takes and that has a bucket which never drains is refused by 17, by the commands, the program, the calls alone and planning after calls, whatever stands behind it
pub record NeverClaim (b : List ℕ) : Type 0 where
  pub commands : (commands_call b).refused ≡ some 17
  pub program : (table entries : List ℕ) → length b ≤ 32768 → input_call b table entries ≡ plan.refuse table entries 17
  pub calls_alone : (calls answers : List ℕ) → calls_call b calls answers ≡ lent.refuse answers 17
  pub session : (calls : List ℕ) (aim order : ℕ) (answers table entries : List ℕ) → session_call b calls aim order answers table entries ≡ refuse answers table entries 17

abbrev pub Never : Type 0
Never = (b : List ℕ) (j : Job) (n : ℕ) → parse archive b ≡ P.took j n → (Drains opening j → ⊥) → NeverClaim b

abbrev pub InputRefusals : Type 0
InputRefusals = (b table entries : List ℕ) → InputOrder b table entries × Keeping table entries (input_call b table entries)
