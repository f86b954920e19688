-- Commands in turn: one that is carried out, those that are left after it, and the last.
use Prim.Native.Nat.{ℕ, zero, suc, ◌+◌, ◌-◌, ◌<◌, ◌≤◌}
use mathlib.Core.Path.{◌≡◌, refl, sym, ◌∙◌, ap}
use mathlib.Core.Option.{none, some}
use mathlib.Core.List.{List, []}
use native.Mathlib.Omega.{arith}
use borrow.Author.Tests.{ne_eqb}
use lib.ListN.{length, take, drop, length-drop, drop_of_length-le}
use lib.Seq.{drop-drop}
use Rattle.base.specs.Refusals.{unless}
use Rattle.model.specs.Pins.{Call}
use Rattle.format.specs.Parser as P
use Rattle.format.specs.Parser.{on_took}
use Rattle.format.proofs.Limits.{not_some}
use Rattle.job.proofs.Records.{rest_of}
use Rattle.pinning.specs.PinSet.{PinSet}
use Rattle.pinning.specs.Calls.{Handed, refuse, take_in, call}
use Rattle.pinset.specs.declared.PinSet as code_set
use Rattle.pins.specs.declared.Handed as pins
use Rattle.std.specs.Prelude.{Result, Err}
use Rattle.header.specs.declared.refusal.Refusal.{Refusal}
use Rattle.header.specs.Refusals.{number}
use Rattle.pinset.specs.Answers.{set_of}
use Rattle.pins.specs.Answers.{handed}
use Rattle.calling.proofs.Commands.{command_sized}
use Rattle.calling.specs.Commands.{command, follow}
use Rattle.commands.specs.declared.Command.{Command}
use Rattle.commands.specs.Answers.{command_is, Step, step_is, on_command, carries_out}

-- one command, as the code reads it from all that is left
module _ (b : List ℕ) (s : code_set.PinSet) (at : ℕ) (x : Result Command Refusal) (e : command_is x ≡ command (take (length b - at) (drop at b))) where
  here : command (drop at b) ≡ command_is x
  here = ap command (sym (rest_of at b)) ∙ sym e

  pub carry_refused : (n : Refusal) → command_is x ≡ P.refused (number n) → step_is (record { answer = Err n; set = s; next = at }) ≡ carries_out b (set_of s) at
  unfolding step_is carries_out on_command
  carry_refused n q = rw (here, q)

  module _ (k : Call) (u : ℕ) (q : command_is x ≡ P.took k u) where
    pub carry_took : (h : pins.Handed) → handed h ≡ call b (set_of s) k → step_is (record { answer = h.answer; set = h.set; next = at + u }) ≡ carries_out b (set_of s) at
    unfolding step_is carries_out on_command handed
    carry_took h p = rw (here, q, ← p)

-- one command, and what is left after it
module _ (b : List ℕ) (s : PinSet) (at : ℕ) where
  unfoldable left : ℕ → Call → ℕ → Handed
  left n k u = unless (refuse (call b s k).set) (call b s k).refused (follow n b (call b s k).set (drop u (drop at b)))

  one : (n : ℕ) → at < length b → follow (suc n) b s (drop at b) ≡ on_took (refuse s) (command (drop at b)) (left n)
  unfolding follow left
  one n h = rw (ne_eqb (length (drop at b)) 0 (λ e. omega (arith, e, length-drop at b)))

  stopped : (n m : ℕ) (r : P.Result Call) → (on_command b s at r).refused ≡ some m → on_took (refuse s) r (left n) ≡ refuse (on_command b s at r).set m
  unfolding on_command on_took left unless
  stopped n m (P.refused i) e = let q : i ≡ m = cc in rw q
  stopped n m (P.took k u) e = rw e

  passed : (n : ℕ) (r : P.Result Call) → (on_command b s at r).refused ≡ none → on_took (refuse s) r (left n) ≡ follow n b (on_command b s at r).set (drop (on_command b s at r).next b)
  unfolding on_command on_took left unless
  passed n (P.refused i) e = not_some e
  passed n (P.took k u) e = rw (e, drop-drop)

  further : (r : P.Result Call) → command (drop at b) ≡ r → at ≤ length b → (on_command b s at r).refused ≡ none → (at < (on_command b s at r).next) × ((on_command b s at r).next ≤ length b)
  unfolding on_command
  further (P.refused i) q h e = not_some e
  further (P.took k u) q h e =
      let z = command_sized (drop at b) k u q in
      (omega arith, omega (arith, length-drop at b))

module _ (b : List ℕ) (fresh : PinSet) (from : ℕ) where
  -- the commands before `at` are taken, and those from there on decide
  pub record Going (s : PinSet) (at : ℕ) : Type 0 where
    pub fuel : ℕ
    pub enough : length b ≤ at + fuel
    pub within : at ≤ length b
    pub is : follow (length b) b fresh (drop from b) ≡ follow fuel b s (drop at b)

  pub going_start : from ≤ length b → Going fresh from
  going_start h = record { fuel = length b; enough = omega arith; within = h; is = refl }

  module _ (s : PinSet) (at : ℕ) (g : Going s at) where
    module _ (h : at < length b) (t : Step) (e : t ≡ carries_out b s at) where
      pub going_further : t.refused ≡ none → (at < t.next) × (t.next ≤ length b)
      unfolding carries_out
      going_further q = rw e (further b s at (command (drop at b)) refl g.within (rw e at q))

      pub going_on : t.refused ≡ none → Going t.set t.next
      unfolding carries_out
      going_on q = go g.fuel g.enough g.is
        where
          go : (n : ℕ) → length b ≤ at + n → follow (length b) b fresh (drop from b) ≡ follow n b s (drop at b) → Going t.set t.next
          go zero p i = absurd (omega arith)
          go (suc n) p i = record {
            fuel = n;
            enough = omega (arith, going_further q);
            within = (going_further q).1;
            is = i ∙ one b s at n h ∙ rw e (passed b s at n (command (drop at b)) (rw e at q));
          }

      pub going_stop : (m : ℕ) → t.refused ≡ some m → refuse t.set m ≡ follow (length b) b fresh (drop from b)
      unfolding carries_out
      going_stop m q = go g.fuel g.enough g.is
        where
          go : (n : ℕ) → length b ≤ at + n → follow (length b) b fresh (drop from b) ≡ follow n b s (drop at b) → refuse t.set m ≡ follow (length b) b fresh (drop from b)
          go zero p i = absurd (omega arith)
          go (suc n) p i = sym (i ∙ one b s at n h ∙ rw e (stopped b s at n m (command (drop at b)) (rw e at q)))

    pub going_end : length b ≤ at → take_in s ≡ follow (length b) b fresh (drop from b)
    unfolding follow
    going_end h = go g.fuel (g.is ∙ ap (follow g.fuel b s) (drop_of_length-le b {i = at} h))
      where
        go : (n : ℕ) → follow (length b) b fresh (drop from b) ≡ follow n b s [] → take_in s ≡ follow (length b) b fresh (drop from b)
        go zero i = sym i
        go (suc n) i = sym i
