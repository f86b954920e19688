-- Commands behind a job, and what the program plans: `Commands`, `Inputs` and `InputRefusals`.
use Prim.Native.Nat.{ℕ, zero, suc, ◌<◌, ◌≤◌}
use mathlib.Core.Path.{◌≡◌, refl, sym, ◌∙◌}
use mathlib.Core.Option.{Option, none, some}
use mathlib.Core.List.{List, [], ◌∷◌}
use native.Mathlib.Omega.{arith}
use lib.Dec.{eqb}
use lib.ListN.{length, drop, length-drop}
use borrow.Author.Tests.{le-leb, lt-leb, eqb-true, eqb-false}
use Rattle.base.specs.Refusals.{unless}
use Rattle.base.proofs.Refusals.{unless_some, unless_none, guarded_here, guarded_last}
use Rattle.model.specs.Best.{early, total}
use Rattle.model.specs.Pins.{Call}
use Rattle.base.proofs.Tests.{branch}
use Rattle.format.specs.Parser as P
use Rattle.format.specs.Parser.{took, done, on_took}
use Rattle.format.specs.Records.{record_either}
use Rattle.format.specs.JobBytes.{header_in}
use Rattle.format.proofs.Parsing.{bound, done_is}
use Rattle.format.proofs.Either.{either_size}
use Rattle.pinning.specs.PinSet.{PinSet, fresh}
use Rattle.pinning.specs.Calls.{Handed, refuse, take_in, opened, open_call, call, after, run}
use Rattle.pinning.proofs.Refusals.{refusing}
use Rattle.planning.specs.Calls.{plan_call}
use Rattle.planning.specs.Calls as plan
use Rattle.calling.specs.Commands.{pin_form, lift_form, call_of, command, follow, commands_call}
use Rattle.calling.specs.Sessions.{input_size, input_call}
use Rattle.planning.specs.Claims.{Keeping}
use Rattle.calling.specs.Claims.{no_more, one_more, Ending, none_left, not_read, not_taken, CommandsClaim, Commands, Inputs, InputRefusals}
use Rattle.planning.proofs.DemandThree.{calls_three}
use Rattle.planning.proofs.Refusals.{keeps, refuse_keeps, guarded_keeps}

-- a command that is read takes some of the bytes
pub command_sized : (b : List ℕ) (k : Call) (u : ℕ) → command b ≡ took k u → (0 < u) × (u ≤ length b)
unfolding command done
command_sized b k u e =
    let h = bound (record_either pin_form lift_form) _ b k u e in
    let z = done_is (call_of h.value) (drop h.size b) k h.more h.second in
    let r = either_size pin_form lift_form b h.value h.size h.first in
    (omega (arith, h.sizes, z.1), omega (arith, h.sizes, z.1))

-- commands that end before the first of them
stops : (b : List ℕ) (s : PinSet) (rest : List ℕ) (r : Handed) → r.set ≡ s → Ending b r.set rest r.refused → CommandsClaim b s rest r
unfolding run
stops b s rest r e q = record { calls = []; left = rest; records = no_more; all_taken = refl; held = sym e; ending = q }

-- one command, then those that follow it
module _ (b : List ℕ) (s : PinSet) (rest : List ℕ) (n : ℕ) where
  goes_on : (k : Call) (u : ℕ) → command rest ≡ P.took k u → (r : Handed) → CommandsClaim b (call b s k).set (drop u rest) r → (call b s k).refused ≡ none → CommandsClaim b s rest r
  unfolding run after
  goes_on k u e r t q = record {
    calls = k ∷ t.calls;
    left = t.left;
    records = one_more e t.records;
    all_taken = rw (q, t.all_taken);
    held = t.held;
    ending = t.ending;
  }

  stopped : (k : Call) (u m : ℕ) → command rest ≡ P.took k u → (call b s k).refused ≡ some m → CommandsClaim b s rest (refuse (call b s k).set m)
  unfolding refuse
  stopped k u m e q =
      let same = refusing b s k m q in
      stops b s rest (refuse (call b s k).set m) same (not_taken e (rw same q))

  module _ (ih : (z : PinSet) (more : List ℕ) → length more ≤ n → CommandsClaim b z more (follow n b z more)) (h : length rest ≤ suc n) (some_left : length rest ≡ 0 → ⊥) where
    call_leads : (k : Call) (u : ℕ) → command rest ≡ P.took k u → (o : Option ℕ) → (call b s k).refused ≡ o → CommandsClaim b s rest (unless (refuse (call b s k).set) o (follow n b (call b s k).set (drop u rest)))
    unfolding unless
    call_leads k u e (some m) q = stopped k u m e q
    call_leads k u e none q = goes_on k u e (follow n b (call b s k).set (drop u rest)) (ih (call b s k).set (drop u rest) (omega (arith, length-drop u rest, command_sized rest k u e))) q

    command_leads : (r : P.Result Call) → command rest ≡ r → CommandsClaim b s rest (on_took (refuse s) r (λ k used. unless (refuse (call b s k).set) (call b s k).refused (follow n b (call b s k).set (drop used rest))))
    unfolding on_took refuse
    command_leads (P.refused m) e = stops b s rest (refuse s m) refl (not_read some_left e)
    command_leads (P.took k u) e = call_leads k u e (call b s k).refused refl

followed : (n : ℕ) (b : List ℕ) (s : PinSet) (rest : List ℕ) → length rest ≤ n → CommandsClaim b s rest (follow n b s rest)
unfolding follow take_in
followed zero b s rest h = stops b s rest (take_in s) refl (none_left (omega arith))
followed (suc n) b s rest h =
    branch (CommandsClaim b s rest) (eqb (length rest) 0) (λ e. stops b s rest (take_in s) refl (none_left (eqb-true (length rest) 0 e)))
    (λ e. command_leads b s rest n (λ z more l. followed n b z more l) h (eqb-false (length rest) 0 e) (command rest) refl)

pub commands : Commands
unfolding commands_call on_took open_call opened
commands b = record {
  job_first = λ n e. rw e;
  then_commands = λ j k e. rw e (followed (length b) b (fresh (header_in j)) (drop k b) (omega (arith, length-drop k b)));
}

-- what the program plans is planning with the set that the commands leave
module _ (b table entries : List ℕ) where
  input_refused : (n : ℕ) → length b ≤ input_size → (commands_call b).refused ≡ some n → input_call b table entries ≡ plan.refuse table entries n
  unfolding input_call
  input_refused n h q = guarded_last (plan.refuse table entries) _ _ (le-leb (length b) input_size h) ∙ unless_some (plan.refuse table entries) (commands_call b).refused n _ q

  input_plans : length b ≤ input_size → (commands_call b).refused ≡ none → input_call b table entries ≡ plan_call b (commands_call b).set total early table entries
  unfolding input_call
  input_plans h q = guarded_last (plan.refuse table entries) _ _ (le-leb (length b) input_size h) ∙ unless_none (plan.refuse table entries) (commands_call b).refused _ q

  input_long : input_size < length b → input_call b table entries ≡ plan.refuse table entries 15
  unfolding input_call
  input_long h = guarded_here (plan.refuse table entries) _ _ _ (lt-leb (length b) input_size h)

  set_keeps : (o : Option ℕ) (s : PinSet) → Keeping table entries (unless (plan.refuse table entries) o (plan_call b s total early table entries))
  unfolding unless
  set_keeps (some n) s = refuse_keeps table entries n
  set_keeps none s = keeps b s total early table entries

  input_keeps : Keeping table entries (input_call b table entries)
  unfolding input_call
  input_keeps = guarded_keeps table entries _ _ (set_keeps (commands_call b).refused (commands_call b).set)

pub inputs : Inputs
inputs b j k table entries parsed h q room space =
    let c = (commands b).then_commands j k parsed in
    record {
      commands = c;
      planning = rw (input_plans b table entries h q, ← c.held) ((calls_three b j k parsed c.calls).planning total early table entries room space);
    }

pub input_refusals : InputRefusals
input_refusals b table entries = (
  record {
    size_first = input_long b table entries;
    then_commands = input_refused b table entries;
    then_plan = input_plans b table entries;
  },
  input_keeps b table entries,
)
