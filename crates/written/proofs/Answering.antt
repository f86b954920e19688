-- What making a job answers and leaves, whichever way it is made: from what refuses it and what it answered.
use Prim.Native.Nat.{ℕ, ◌<◌, ◌≤◌}
use mathlib.Core.Path.{◌≡◌, sym, ◌∙◌}
use mathlib.Core.Bool.{true, false}
use mathlib.Core.Option.{Option, none, some}
use mathlib.Core.List.{List, [], ◌∷◌}
use lib.ListN.{length}
use Rattle.base.specs.Refusals.{refusal, unless, first}
use Rattle.base.specs.Lent.{Ended, put}
use Rattle.base.proofs.Refusals.{guarded_here, guarded_last}
use Rattle.std.specs.Prelude.{Result}
use Rattle.header.specs.declared.refusal.Refusal.{Refusal}
use Rattle.writer.specs.Answers.{wrote_answer, wrote}
use Rattle.exporting.specs.Exports.{number_of, header_fields, room_for, written, after_write, job_export}
use Rattle.exporting.proofs.Rooms.{before, few, behind}

module _ (fields job values : List ℕ) (looked : Option ℕ) (made : Ended ℕ) where
  pub made_3 : header_fields (length fields) ≡ false → written 3 job values ≡ job_export fields looked made job values
  unfolding job_export
  made_3 f = sym (guarded_here (λ n. written n job values) _ _ _ f)

  module _ (is_header : header_fields (length fields) ≡ true) where
    behind_fields : job_export fields looked made job values ≡ unless (λ n. written n job values) (first looked (refusal (room_for 1 values))) (after_write made values)
    unfolding job_export
    behind_fields = guarded_last (λ n. written n job values) _ _ is_header

    pub made_before : (n : ℕ) → some n ≡ looked → written n job values ≡ job_export fields looked made job values
    made_before n e = before (λ n. written n job values) looked 1 values _ n e ∙ sym behind_fields

    module _ (e : none ≡ looked) where
      pub made_12 : length values < 1 → written 12 job values ≡ job_export fields looked made job values
      made_12 l = few (λ n. written n job values) looked 1 values _ e l ∙ sym behind_fields

      pub made_told : 1 ≤ length values → (x : Result ℕ Refusal) (new : List ℕ) → wrote x new ≡ made → (n : ℕ) (list : List ℕ) → n ≡ number_of (wrote_answer x) → list ≡ put (wrote_answer x) (λ taken. taken ∷ []) values → written n new list ≡ job_export fields looked made job values
      unfolding after_write wrote
      made_told room x new i n list q w = sym (behind_fields ∙ behind (λ n. written n job values) looked 1 values _ e room ∙ rw (← i, q, w))
