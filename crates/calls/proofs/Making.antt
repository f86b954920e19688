-- Calls in turn: what is made and what is left.
use Prim.Native.Nat.{ℕ, suc, ◌+◌, ◌-◌, ◌/◌, ◌<◌}
use mathlib.Core.Path.{◌≡◌, refl, sym, ◌∙◌, ap}
use mathlib.Core.Option.{Option}
use mathlib.Core.List.{List, [], ◌∷◌, ◌++◌, map, append_assoc, append-nil, map-append}
use native.Mathlib.Numerals.{add-one}
use native.Mathlib.Omega.{arith}
use lib.ListN.{length, get_or, drop, set, length-append, length-set, length-map}
use lib.Seq.{drop-cons, set_at}
use Rattle.model.specs.Pins.{Call}
use Rattle.format.specs.JobBytes.{Door, opening}
use Rattle.pinning.specs.PinSet.{PinSet}
use Rattle.pinning.specs.Calls.{Handed, call, open_call, CallsMade, after, run}
use Rattle.pinset.specs.declared.PinSet as code_set
use Rattle.pinset.specs.Answers.{set_of}
use Rattle.base.specs.Lent.{over}
use Rattle.calling.specs.Commands.{call_at, calls_from, calls_of}
use Rattle.calling.specs.Sessions.{made, answer_number, numbers}
use Rattle.calls.specs.Answers.{Made}

-- calls behind answers that are written
unfoldable pub behind : List (Option ℕ) → CallsMade → CallsMade
behind os r = record { answers = os ++ r.answers; set = r.set }

-- one number written behind what is written
one_set : (w l : List ℕ) (p x : ℕ) → length w ≡ p → p < length l → set (w ++ drop p l) p x ≡ (w ++ (x ∷ [])) ++ drop (suc p) l
one_set w l p x e h =
    ap (λ (t : List ℕ). set (w ++ t) p x) (drop-cons l p 0 h)
    ∙ set_at w (get_or l p 0) (drop (suc p) l) x p e
    ∙ sym (append_assoc w (x ∷ []) (drop (suc p) l))

-- the calls from place i on
module _ (calls : List ℕ) where
  abbrev left : ℕ → List Call
  left i = calls_from calls i (length calls / 3 - i)

  left_more : (i : ℕ) → i < length calls / 3 → left i ≡ call_at calls i ∷ left (suc i)
  unfolding calls_from
  left_more i h = let e : length calls / 3 - i ≡ suc (length calls / 3 - suc i) = omega arith in rw e

-- i calls are made from a set on, with the set s after them and the answers done
module _ (b calls : List ℕ) (from : PinSet) where
  pub record Ran (i : ℕ) (s : PinSet) (done : List (Option ℕ)) : Type 0 where
    pub count : length done ≡ i
    pub rest : run b from (calls_of calls) ≡ behind done (run b s (left calls i))

  pub ran_start : Ran 0 from []
  unfolding behind calls_of
  ran_start =
      let n : length calls / 3 - 0 ≡ length calls / 3 = omega arith in
      record { count = refl; rest = rw n }

  -- one call more, taken or refused
  pub ran_on : (i : ℕ) (s : PinSet) (done : List (Option ℕ)) → Ran i s done → i < length calls / 3 → (r : Handed) → r ≡ call b s (call_at calls i) → Ran (i + 1) r.set (done ++ (r.refused ∷ []))
  unfolding run after behind
  ran_on i s done g h r e =
      rw (add-one i) (record {
        count = length-append done (r.refused ∷ []) ∙ omega (arith, g.count);
        rest = g.rest ∙ rw (left_more calls i h, ← e) (ap (λ (os : List (Option ℕ)). record { answers = os; set = (run b r.set (left calls (suc i))).set }) (sym (append_assoc done (r.refused ∷ []) (run b r.set (left calls (suc i))).answers)));
      })

  -- all calls are made, and the set that they were made from is a door's
  module _ (d : Door) (is : from ≡ (open_call d b).set) where
    pub ran_end : (i : ℕ) (s : PinSet) (done : List (Option ℕ)) → Ran i s done → i ≡ length calls / 3 → made d b calls ≡ record { answers = done; set = s }
    unfolding made run behind calls_from
    ran_end i s done g q = let n : length calls / 3 - i ≡ 0 = omega arith in rw (← is) (rw append-nil at (rw n at g.rest))

-- and their numbers are written
module _ (b calls answers₀ : List ℕ) (from : PinSet) where
  pub record Going (i : ℕ) (s : PinSet) (answers : List ℕ) : Type 0 where
    pub done : List (Option ℕ)
    pub ran : Ran b calls from i s done
    pub list : answers ≡ map answer_number done ++ drop i answers₀
    pub size : length answers ≡ length answers₀

  pub going_start : Going 0 from answers₀
  going_start = record { done = []; ran = ran_start b calls from; list = refl; size = refl }

  pub going_on : (i : ℕ) (s : PinSet) (answers : List ℕ) (g : Going i s answers) → i < length answers₀ → (r : Handed) → Ran b calls from (i + 1) r.set (g.done ++ (r.refused ∷ [])) → (x : ℕ) → x ≡ answer_number r.refused → Going (i + 1) r.set (set answers i x)
  going_on i s answers g room r n x q = record {
    done = g.done ++ (r.refused ∷ []);
    ran = n;
    list = rw (add-one i, g.list, map-append answer_number g.done (r.refused ∷ []), q) (one_set (map answer_number g.done) answers₀ i (answer_number r.refused) (length-map g.done answer_number ∙ g.ran.count) room);
    size = simp length-set g.size;
  }

  pub going_end : from ≡ (open_call opening b).set → (i : ℕ) (s : code_set.PinSet) (answers : List ℕ) → Going i (set_of s) answers → i ≡ length calls / 3 → Made b calls answers₀ s answers
  unfolding over numbers
  going_end is i s answers g q =
      let e = ran_end b calls from opening is i (set_of s) g.done g.ran q in
      record {
        set_is = sym (ap (λ (r : CallsMade). r.set) e);
        written = rw (e, length-map g.done answer_number, g.ran.count) g.list;
      }
