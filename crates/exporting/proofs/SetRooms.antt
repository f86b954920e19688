-- Where a call with a set as numbers is taken, the list that holds the set is long enough for it; and what a call that sees exports, whether it was refused or not.
use Prim.Native.Nat.{ℕ, ◌<◌, ◌≤◌}
use mathlib.Core.Path.{◌≡◌, refl, sym, ◌∙◌, ap}
use mathlib.Core.Option.{Option, none, some}
use mathlib.Core.List.{List}
use lib.ListN.{length}
use borrow.Author.Tests.{lt-leb, le-leb}
use Rattle.base.specs.Answer.{Answer, refused, gives}
use Rattle.base.specs.Refusals.{refusal, unless, first}
use Rattle.base.proofs.Refusals.{not_none, refusal_here, refusal_last, unless_some, unless_none}
use Rattle.model.specs.Job.{Job}
use Rattle.model.specs.Pins.{Call, sees}
use Rattle.format.specs.Parser as P
use Rattle.format.specs.Parser.{Result, took, on_read}
use Rattle.format.specs.JobBytes.{opening}
use Rattle.pinning.specs.Check.{checked}
use Rattle.pinning.specs.Calls.{Handed, refuse, call_in, call, click_in, click}
use Rattle.pinning.specs.Numbers.{set_in}
use Rattle.pinning.proofs.Agree.{checked_parsed}
use Rattle.pinning.proofs.Numbers.{sets_taken}
use Rattle.planning.specs.See as sight
use Rattle.planning.specs.See.{see_call}
use Rattle.planning.specs.Seeing.{refused_by}
use Rattle.planning.proofs.Seeing.{see_clicks, see_keeps}
use Rattle.exporting.specs.Exports.{room_for}
use Rattle.exporting.specs.Sets.{Seen, seen, after_see, see_export}

-- a call that was taken, whatever it did for the job
module _ (b l : List ℕ) (f : Job → Handed) where
  read_long : (on_read (refuse (set_in l)) (checked opening b (set_in l)) f).refused ≡ none → 528 ≤ length l
  unfolding on_read refuse
  read_long e = go (checked opening b (set_in l)) refl e
    where
      go : (r : Result Job) → checked opening b (set_in l) ≡ r → (on_read (refuse (set_in l)) r f).refused ≡ none → 528 ≤ length l
      go (P.refused n) c q = absurd (not_none q)
      go (took j n) c q = ((sets_taken opening b j n (checked_parsed opening b (set_in l) j n c) l).taken c).2

pub taken_long : (b l : List ℕ) (k : Call) → (call b (set_in l) k).refused ≡ none → 528 ≤ length l
unfolding call
taken_long b l k e = read_long b l (λ j. call_in j (set_in l) k) e

pub seen_long : (b l : List ℕ) (k : Call) (table : List ℕ) (w : ℕ) → (see_call b (set_in l) k table).answer ≡ gives w → 528 ≤ length l
unfolding click
seen_long b l k table w e = read_long b l (λ j. click_in j (set_in l) (sees k (length table))) (sym (see_clicks b (set_in l) k table).1 ∙ ap refused_by e ∙ unfold refused_by in refl)

-- with room for the value, what is exported is what was seen
module _ (b l : List ℕ) (k : Call) (table values : List ℕ) where
  abbrev r : sight.Seen
  r = see_call b (set_in l) k table

  abbrev o : Option ℕ
  o = (click b (set_in l) (sees k (length table))).refused

  pub see_shown : 1 ≤ length values → see_export b l k table values ≡ after_see r.answer r l values
  unfolding see_export
  see_shown h = go r.answer refl (see_clicks b (set_in l) k table).1
    where
      go : (a : Answer ℕ) → r.answer ≡ a → refused_by r.answer ≡ o → unless (λ n. seen n l table values) (first o (refusal (room_for 1 values))) (after_see r.answer r l values) ≡ after_see r.answer r l values
      go (refused n) e q = unless_some (λ n. seen n l table values) _ n _ (unless_some some o n _ (sym q ∙ ap refused_by e ∙ unfold refused_by in refl)) ∙ sym (kept n e)
        where
          kept : (n : ℕ) → r.answer ≡ refused n → after_see r.answer r l values ≡ seen n l table values
          kept n e = unfold after_see in rw (e, (see_keeps b (set_in l) k table n e).1) refl
      go (gives w) e q = unless_none (λ n. seen n l table values) _ _ (unless_none some o _ (sym q ∙ ap refused_by e ∙ unfold refused_by in refl) ∙ refusal_last _ (le-leb 1 (length values) h))

  -- without it, the call's refusal or 12
  pub see_before : length values < 1 → (n : ℕ) → o ≡ some n → seen n l table values ≡ see_export b l k table values
  unfolding see_export
  see_before h n e = sym (unless_some (λ n. seen n l table values) _ n _ (unless_some some o n _ e))

  pub see_12 : length values < 1 → o ≡ none → seen 12 l table values ≡ see_export b l k table values
  unfolding see_export
  see_12 h e = sym (unless_some (λ n. seen n l table values) _ 12 _ (unless_none some o _ e ∙ refusal_here _ _ (lt-leb 1 (length values) h)))
