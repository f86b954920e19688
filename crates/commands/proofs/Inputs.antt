-- The job before the commands and the planning after them, from what opening and the commands answered.
use Prim.Native.Nat.{ℕ, ◌<◌, ◌≤◌}
use mathlib.Core.Path.{◌≡◌, sym, ◌∙◌, ap}
use mathlib.Core.List.{List}
use borrow.Author.Tests.{lt-leb, le-leb}
use lib.ListN.{length, drop}
use Rattle.base.specs.Refusals.{unless}
use Rattle.base.proofs.Refusals.{guarded_here, guarded_last, unless_some, unless_none}
use Rattle.format.specs.Parser.{on_took}
use Rattle.format.specs.JobBytes.{opening, parse}
use Rattle.format.proofs.Places.{read_within}
use Rattle.pinning.specs.Calls.{open_call, refuse}
use Rattle.pins.specs.declared.Opened.{Opened}
use Rattle.std.specs.Prelude.{Ok, Err}
use Rattle.header.specs.declared.refusal.Refusal.{Refusal}
use Rattle.header.specs.Refusals.{number}
use Rattle.header.specs.Answers.{answer_by, verdict}
use Rattle.pins.specs.declared.Handed as pins
use Rattle.pinset.specs.Answers.{set_of}
use Rattle.pins.specs.Answers as told
use Rattle.pins.specs.Answers.{handed}
use Rattle.pins.proofs.Opens.{Open, is_open, not_open, answer_is, state_is}
use Rattle.model.specs.Best.{early, total}
use Rattle.planning.specs.Calls.{Planned, plan_call}
use Rattle.planning.specs.Calls as plan
use Rattle.calling.specs.Commands.{follow, commands_call}
use Rattle.calling.specs.Sessions.{input_size, input_call}

-- x is the answer of opening
module _ (b : List ℕ) (x : Opened) (e : told.opening x ≡ open_call opening b) where
  pub no_job : (n : Refusal) → x.answer ≡ Err n → handed (record { answer = Err n; set = x.set }) ≡ commands_call b
  unfolding handed commands_call on_took refuse
  no_job n q =
      let r = not_open (parse opening b) (number n) (answer_is opening b x e ∙ ap (answer_by (λ k. k)) q) in
      rw (state_is opening b x e ∙ r.1, r.0)

  module _ (k : ℕ) (q : x.answer ≡ Ok k) where
    open_at : Open (parse opening b) k
    open_at = is_open (parse opening b) k (answer_is opening b x e ∙ ap (answer_by (λ k. k)) q)

    pub job_within : k ≤ length b
    job_within = read_within opening b open_at.job k open_at.is

    pub then_commands : follow (length b) b (set_of x.set) (drop k b) ≡ commands_call b
    unfolding commands_call on_took
    then_commands = rw (state_is opening b x e ∙ open_at.fresh_is, open_at.is)

module _ (b table entries : List ℕ) where
  abbrev work : Planned
  work = unless (plan.refuse table entries) (commands_call b).refused (plan_call b (commands_call b).set total early table entries)

  pub input_long : input_size < length b → plan.refuse table entries 15 ≡ input_call b table entries
  unfolding input_call
  input_long h = sym (guarded_here (plan.refuse table entries) _ _ work (lt-leb (length b) input_size h))

  -- x is what the commands came to
  module _ (h : length b ≤ input_size) (x : pins.Handed) (e : handed x ≡ commands_call b) where
    short : input_call b table entries ≡ unless (plan.refuse table entries) (verdict x.answer) (plan_call b (set_of x.set) total early table entries)
    unfolding input_call handed
    short = guarded_last (plan.refuse table entries) _ work (le-leb (length b) input_size h) ∙ rw (← e)

    pub input_refused : (n : Refusal) → x.answer ≡ Err n → plan.refuse table entries (number n) ≡ input_call b table entries
    input_refused n q = sym (short ∙ unless_some (plan.refuse table entries) _ (number n) _ (ap verdict q))

    pub input_planned : x.answer ≡ Ok tt → plan_call b (set_of x.set) total early table entries ≡ input_call b table entries
    input_planned q = sym (short ∙ unless_none (plan.refuse table entries) _ _ (ap verdict q))
