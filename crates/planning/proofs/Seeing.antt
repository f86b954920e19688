-- Calls that see (document 02, E9): their refusals and what they write, of any table: `SeeCalls`; what a refusal leaves: `SeeKeeps`; what they do to the set: `SeeClicks`; how a next layer's words are read: `WordsRead`; and that the layers behind a unit do not depend on its pin.
use Prim.Native.Nat.{ℕ, zero, suc, ◌+◌, ◌-◌, ◌*◌, ◌≤◌}
use mathlib.Core.Path.{◌≡◌, refl, sym, ◌∙◌, ap}
use mathlib.Core.Option.{Option, none, some}
use mathlib.Core.List.{List, [], ◌∷◌, ◌++◌}
use native.Mathlib.Nat.{mul-le-mul_right}
use native.Mathlib.Omega.{arith}
use lib.ListN.{length, get_or}
use lib.Seq.{get_or-set_other}
use borrow.Author.Tests.{le-leb, lt-leb}
use Rattle.base.specs.Answer.{refused}
use Rattle.base.proofs.Answers.{not_refused}
use Rattle.base.specs.Refusals.{refusal, unless, guarded, Condition, condition}
use Rattle.base.proofs.Refusals.{AllHold}
use Rattle.trellis.specs.Table.{charge}
use Rattle.trellis.specs.Trellis.{Combines}
use Rattle.model.specs.Job.{Job, intervals}
use Rattle.model.specs.Pins.{PinMap, Call, pin, lift, pin_at, mapped_pin, sees}
use Rattle.model.specs.Best.{unlimited, width}
use Rattle.model.specs.Table.{bound, layer_words, words, Bounded}
use Rattle.format.specs.Parser.{Result, took, on_read}
use Rattle.format.specs.Parser as P
use Rattle.format.specs.JobBytes.{opening}
use Rattle.format.specs.Choices.{no_choice, choice_of}
use Rattle.pinning.specs.PinSet.{PinSet}
use Rattle.pinning.specs.Check.{checked}
use Rattle.pinning.specs.Calls.{Handed, refuse, take_in, with_pin, without_pin, called, call_of, click_tests, click_in, click}
use Rattle.pinning.specs.Claims.{CallAsks}
use Rattle.pinning.proofs.Agree.{looks_checked}
use Rattle.pinning.proofs.Lines.{lines_set}
use Rattle.pinning.proofs.Refusals.{sees_decides}
use Rattle.planning.specs.Rule.{layer_from, allowed_in}
use Rattle.planning.specs.Passes.{charged}
use Rattle.planning.specs.Words.{layer}
use Rattle.planning.specs.See.{Seen, keep, unit_of, renewed, seen, see_in, see_call}
use Rattle.planning.specs.Seeing.{pins_of, SeeClaim, refused_by, SeeCalls, SeeClicks, SeeKeeps, WordsRead}
use Rattle.planning.proofs.Offers.{layer_from_cong}
use Rattle.planning.proofs.Layers.{layer_last, layer_step}
use Rattle.planning.proofs.Refilling.{refilled_length, refilled_later, refilled_rule}

-- what every call asks first: a unit of the job
pub asks_unit : (j : Job) (s : PinSet) (k : Call) (cs : List Condition) → AllHold (CallAsks j s k ++ cs) → (1 ≤ unit_of k) × (unit_of k ≤ length j.units) × AllHold cs
unfolding unit_of
asks_unit j s (pin u x) cs h = (h.0.0, h.0.1, h.1.1.1)
asks_unit j s (lift u) cs h = (h.0.0, h.0.1, h.1.1)

-- a call that is taken, over any table that is long enough
module _ (j : Job) (s : PinSet) (k : Call) (table : List ℕ) (few : unit_of k ≤ length j.units) (room : words j ≤ length table) where
  space : (0 + (unit_of k + j.delay)) * layer_words j.line ≤ length table
  unfolding words intervals
  space = omega (arith, room, mul-le-mul_right {m = 0 + (unit_of k + j.delay)} {n = intervals j + 1} (layer_words j.line) (omega arith))

  pub see_claim : SeeClaim j s k table (seen j (called j s k) (unit_of k) table)
  unfolding seen renewed
  see_claim =
      let m = unlimited (pins_of j (called j s k)) in
      let n = unit_of k + j.delay in
      record {
        set_is = refl;
        rule = λ t l. refilled_rule ◌+◌ j m n 0 table space t (omega arith) (omega arith);
        later = refilled_later ◌+◌ j m n 0 table space n (omega arith);
        size = refilled_length ◌+◌ j m n 0 table space;
        word = refl;
      }

pub see_calls : SeeCalls
unfolding see_call see_in
see_calls b s k table =
    looks_checked (keep s table) opening b s (λ j. click_tests j s (sees k (length table))) (λ j. CallAsks j s k ++ (condition 11 (words j ≤ length table) ∷ [])) (λ j. seen j (called j s k) (unit_of k) table) (λ j r. SeeClaim j s k table r)
    (λ j n e m. (
      sees_decides j s k (length table),
      λ h. let a = asks_unit j s k _ h in see_claim j s k table a.1 a.2.0,
    ))

-- the set and the refusal are the click's
module _ (s : PinSet) (k : Call) (table : List ℕ) where
  abbrev Alike : Seen → Handed → Type 0
  Alike r h = (r.set ≡ h.set) × (refused_by r.answer ≡ h.refused)

  alike_unless : (j : Job) (o : Option ℕ) → Alike (unless (keep s table) o (seen j (called j s k) (unit_of k) table)) (unless (refuse s) o (take_in (called j s k)))
  unfolding unless keep refuse seen take_in refused_by
  alike_unless j none = (refl, refl)
  alike_unless j (some n) = (refl, refl)

  alike_read : (r : Result Job) → Alike (on_read (keep s table) r (λ j. see_in j s k table)) (on_read (refuse s) r (λ j. click_in j s (sees k (length table))))
  unfolding on_read see_in click_in guarded call_of
  alike_read (P.refused n) = unfold keep refuse refused_by in (refl, refl)
  alike_read (took j n) = alike_unless j (refusal (click_tests j s (sees k (length table))))

pub see_clicks : SeeClicks
unfolding see_call click
see_clicks b s k table = alike_read s k table (checked opening b s)

-- a refusal keeps set and table
module _ (s : PinSet) (k : Call) (table : List ℕ) where
  abbrev Kept : Seen → Type 0
  Kept r = (r.set ≡ s) × (r.table ≡ table)

  unless_keeps : (j : Job) (o : Option ℕ) (n : ℕ) → (unless (keep s table) o (seen j (called j s k) (unit_of k) table)).answer ≡ refused n → Kept (unless (keep s table) o (seen j (called j s k) (unit_of k) table))
  unfolding unless keep seen
  unless_keeps j none n e = absurd (not_refused e)
  unless_keeps j (some x) n e = (refl, refl)

  read_keeps : (r : Result Job) (n : ℕ) → (on_read (keep s table) r (λ j. see_in j s k table)).answer ≡ refused n → Kept (on_read (keep s table) r (λ j. see_in j s k table))
  unfolding on_read see_in guarded
  read_keeps (P.refused m) n e = unfold keep in (refl, refl)
  read_keeps (took j m) n e = unless_keeps j (refusal (click_tests j s (sees k (length table)))) n e

pub see_keeps : SeeKeeps
unfolding see_call
see_keeps b s k table n e = read_keeps s k table (checked opening b s) n e

pub words_read : WordsRead
unfolding charged charge
words_read distortion word small = record {
  over = λ h. rw (lt-leb word bound h);
  up_to = λ h. rw (le-leb word bound h);
}

-- pins that agree from a place on: the layers behind it are the same
module _ (◌⊕◌ : ℕ → ℕ → ℕ) (combines : Combines ◌⊕◌) (j : Job) (m r : PinMap) (bounded : Bounded j) (u : ℕ) (agree : (i : ℕ) → u ≤ i → get_or m i none ≡ get_or r i none) where
  same_pin : (t : ℕ) → u + j.delay ≤ t → pin_at j m (suc t) ≡ pin_at j r (suc t)
  unfolding pin_at mapped_pin
  same_pin t h = rw (lt-leb (suc t) j.delay (omega arith), agree (suc t - j.delay - 1) (omega arith))

  same_allowed : (t : ℕ) → u + j.delay ≤ t → (x : ℕ) → allowed_in j (unlimited m) (suc t) x ≡ allowed_in j (unlimited r) (suc t) x
  unfolding allowed_in
  same_allowed t h x = rw (same_pin t h)

  pub same_layer : (n t : ℕ) → t + n ≡ intervals j → u + j.delay ≤ t → layer ◌⊕◌ j (unlimited m) t ≡ layer ◌⊕◌ j (unlimited r) t
  same_layer zero t e h = let q : t ≡ intervals j = omega arith in rw q (layer_last ◌⊕◌ j (unlimited m) ∙ sym (layer_last ◌⊕◌ j (unlimited r)))
  same_layer (suc n) t e h =
      layer_step ◌⊕◌ j (unlimited m) combines bounded t (omega arith)
      ∙ layer_from_cong ◌⊕◌ j.line (width j (suc t)) (allowed_in j (unlimited m) (suc t)) (allowed_in j (unlimited r) (suc t)) (layer ◌⊕◌ j (unlimited m) (suc t)) (λ x l. same_allowed t h x)
      ∙ ap (layer_from ◌⊕◌ j.line (width j (suc t)) (allowed_in j (unlimited r) (suc t))) (same_layer n (suc t) (omega arith) (omega arith))
      ∙ sym (layer_step ◌⊕◌ j (unlimited r) combines bounded t (omega arith))

-- a call changes the line of its unit alone
pub other_lines : (j : Job) (s : PinSet) (k : Call) → 1 ≤ unit_of k → unit_of k ≤ length j.units → (i : ℕ) → unit_of k ≤ i → get_or (pins_of j s) i none ≡ get_or (pins_of j (called j s k)) i none
unfolding called with_pin without_pin unit_of
other_lines j s (pin u x) l h i q = sym (ap (λ (m : PinMap). get_or m i none) (lines_set (length j.units) s.pins (u - 1) x (omega arith)) ∙ get_or-set_other (pins_of j s) (u - 1) i (choice_of x) none (λ e. omega arith))
other_lines j s (lift u) l h i q = sym (ap (λ (m : PinMap). get_or m i none) (lines_set (length j.units) s.pins (u - 1) no_choice (omega arith)) ∙ get_or-set_other (pins_of j s) (u - 1) i (choice_of no_choice) none (λ e. omega arith))
