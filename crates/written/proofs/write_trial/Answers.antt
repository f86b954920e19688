-- `written::write_trial` meets its contract.
use Rattle.std.specs.Prelude.{Result, Ok, Err}
use Rattle.header.specs.Refusals.{code}
use Rattle.header.specs.declared.refusal.Refusal.{Refusal}
use Rattle.header.proofs.Told.{handed_as}
use Rattle.base.specs.Lent.{put}
use Rattle.base.proofs.Lent.{stored}
use Rattle.exporting.specs.Exports.{number_of, written}
use Rattle.written.proofs.Headers.{fields_two}
use Rattle.written.proofs.Answering.{made_3, made_before, made_12, made_told}
use Rattle.trials.specs.Calls.{trial_refusal, trial_call}
use Rattle.format.specs.JobBytes.{Header, header_of}
use lib.ListN.{length}
use mathlib.Core.List.{[], ◌∷◌}
use mathlib.Core.Path.{refl, sym, ap, ◌∙◌}
use Rattle.written.proofs.write_trial.Goals as goal

pub returns-then-not-fields_fit : goal.returns-then-not-fields_fit
returns-then-not-fields_fit c = made_3 _ _ _ _ _ (sym c.fields_fit.ensures ∙ c.if-not-fields_fit.true)

pub header_of-header-requires : goal.header_of-header-requires
header_of-header-requires c = fields_two _ (sym c.fields_fit.ensures ∙ c.if-not-fields_fit.false)

pub returns-in_err-trial_refusal : goal.returns-in_err-trial_refusal
returns-in_err-trial_refusal c =
    let a = c.args in
    handed_as (λ (r : Result (Unit {0}) Refusal). written (code r) a.job.now a.values.now) _ _ c.from_residual.ensures
    (made_before _ _ _ _ (trial_call (header_of a.fields.now) a.state a.job.now) (sym c.fields_fit.ensures ∙ c.if-not-fields_fit.false) _ (c.in_err-trial_refusal.ensures ∙ ap (λ (k : Header). trial_refusal k (length a.job.now)) c.header_of-header.ensures))

pub returns-then-values-lt-WRITE_VALUES : goal.returns-then-values-lt-WRITE_VALUES
returns-then-values-lt-WRITE_VALUES c =
    let a = c.args in
    made_12 _ _ _ _ (trial_call (header_of a.fields.now) a.state a.job.now) (sym c.fields_fit.ensures ∙ c.if-not-fields_fit.false) (c.in_ok-trial_refusal.ensures ∙ ap (λ (k : Header). trial_refusal k (length a.job.now)) c.header_of-header.ensures) c.if-values-lt-WRITE_VALUES.true

pub returns-in_err-taken : goal.returns-in_err-taken
unfolding number_of put
returns-in_err-taken c =
    let a = c.args in
    handed_as (λ (r : Result (Unit {0}) Refusal). written (code r) c.write_trial.new.out a.values.now) _ _ c.from_residual-in_err-taken.ensures
    (made_told _ _ _ _ _ (sym c.fields_fit.ensures ∙ c.if-not-fields_fit.false) (c.in_ok-trial_refusal.ensures ∙ ap (λ (k : Header). trial_refusal k (length a.job.now)) c.header_of-header.ensures) c.if-values-lt-WRITE_VALUES.false (Err c.in_err-taken.field-0.0) _ (c.in_err-taken.ensures ∙ ap (λ (k : Header). trial_call k a.state a.job.now) c.header_of-header.ensures) _ _ refl refl)

pub returns : goal.returns
unfolding number_of put
returns c =
    let a = c.args in
    made_told _ _ _ _ _ (sym c.fields_fit.ensures ∙ c.if-not-fields_fit.false) (c.in_ok-trial_refusal.ensures ∙ ap (λ (k : Header). trial_refusal k (length a.job.now)) c.header_of-header.ensures) c.if-values-lt-WRITE_VALUES.false (Ok c.in_ok-taken.taken) _ (c.in_ok-taken.ensures ∙ ap (λ (k : Header). trial_call k a.state a.job.now) c.header_of-header.ensures) _ _ refl (stored (_ ∷ []) a.values.now c.if-values-lt-WRITE_VALUES.false)
