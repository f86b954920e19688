-- What opening a set, a pin and a lift answer and leave, from what the calls within them answered.
use Prim.Native.Nat.{ℕ, ◌<◌, ◌≤◌}
use mathlib.Core.Path.{◌≡◌, sym, ◌∙◌, ap}
use mathlib.Core.Option.{none}
use mathlib.Core.List.{List}
use lib.ListN.{length}
use borrow.Author.Tests.{lt-leb, le-leb}
use Rattle.base.specs.Lent.{over}
use Rattle.base.proofs.Refusals.{guarded_here, guarded_last}
use Rattle.model.specs.Pins.{Call}
use Rattle.format.specs.Parser.{on_took}
use Rattle.format.specs.JobBytes.{Door, parse}
use Rattle.pinning.specs.PinSet.{PinSet}
use Rattle.pinning.specs.Calls.{Handed, open_call, call}
use Rattle.pinning.specs.Numbers.{set_numbers, set_in}
use Rattle.pins.specs.declared.Opened.{Opened}
use Rattle.std.specs.Prelude.{Ok, Err}
use Rattle.header.specs.declared.refusal.Refusal.{Refusal}
use Rattle.header.specs.Refusals.{number}
use Rattle.header.specs.Answers.{answer_by}
use Rattle.pinset.specs.Answers.{set_of}
use Rattle.pins.specs.Answers.{opening}
use Rattle.pins.proofs.Opens.{Open, is_open, not_open, answer_is, state_is}
use Rattle.exporting.specs.Exports.{Filled, filled}
use Rattle.exporting.specs.Sets.{set_export, after_call, call_export}
use Rattle.exporting.proofs.SetRooms.{taken_long}

-- opening
module _ (d : Door) (job set : List ℕ) (r : Opened) (i : opening r ≡ open_call d job) where
  pub open_refused : (n : Refusal) → r.answer ≡ Err n → filled (number n) set ≡ set_export d job set
  unfolding set_export on_took
  open_refused n e = rw (not_open _ (number n) (answer_is d job r i ∙ ap (answer_by (λ k. k)) e)).0

  module _ (k : ℕ) (e : r.answer ≡ Ok k) where
    here : Open (parse d job) k
    here = is_open (parse d job) k (answer_is d job r i ∙ ap (answer_by (λ k. k)) e)

    pub open_12 : length set < 528 → filled 12 set ≡ set_export d job set
    unfolding set_export on_took
    open_12 l = rw here.is (sym (guarded_here (λ n. filled n set) _ _ _ (lt-leb 528 (length set) l)))

    pub open_took : 528 ≤ length set → (new : List ℕ) → new ≡ over (set_numbers (set_of r.set)) set → filled 0 new ≡ set_export d job set
    unfolding set_export on_took
    open_took l new w = rw (here.is, w, state_is d job r i ∙ here.fresh_is) (sym (guarded_last (λ n. filled n set) _ _ (le-leb 528 (length set) l)))

-- a call that the numbers' set was given
module _ (b l : List ℕ) (k : Call) (s : PinSet) (e : s ≡ set_in l) (h : Handed) (q : h ≡ call b s k) where
  pub room_noted : h.refused ≡ none → 528 ≤ length l
  room_noted z = taken_long b l k (rw (← e, ← q) z)

  pub noted : (r : Filled) → r ≡ after_call h.refused h l → r ≡ call_export b l k
  unfolding call_export
  noted r z = z ∙ rw (q, e)
