-- What `?` hands on: the very error.
use Rattle.std.specs.Prelude.{Ok, Err, Result, IsErr, IsErrAnd}
use mathlib.Core.Path.{◌≡◌, ap, ◌∙◌}
use mathlib.Core.Option.{Option, some}
use Prim.Native.Nat.{ℕ}
use Rattle.header.specs.declared.refusal.Refusal.{Refusal}
use Rattle.header.specs.Refusals.{number}
use Rattle.header.specs.Answers.{verdict}

-- a call that is taken or refused
abbrev pub Verdict : Type 0
Verdict = Result (Unit {0}) Refusal

pub handed : {A E : Type 0} (r : Result A E) (e : E) → IsErr r × IsErrAnd r (λ f. f ≡ e) → r ≡ Err e
handed (Ok a) e h = absurd h.1
handed (Err f) e h = ap Err h.1

pub handed_on : {A : Type 0} (r : Result A Refusal) (e : Refusal) {o : Option ℕ} → IsErr r × IsErrAnd r (λ f. f ≡ e) → some (number e) ≡ o → verdict r ≡ o
handed_on r e h p = ap verdict (handed r e h) ∙ p

-- the same of any reading of what is answered
pub handed_as : {A B : Type 0} (f : Result A Refusal → B) (r : Result A Refusal) (e : Refusal) {o : B} → IsErr r × IsErrAnd r (λ x. x ≡ e) → f (Err e) ≡ o → f r ≡ o
handed_as f r e h p = ap f (handed r e h) ∙ p
