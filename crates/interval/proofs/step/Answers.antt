-- `interval::step` meets its contract: decoder, buckets in turn and pin, from what each answered.
use mathlib.Core.Path.{◌≡◌, sym, ◌∙◌, ap}
use Rattle.model.specs.Step.{Drained}
use Rattle.header.proofs.Told.{handed}
use Rattle.parts.specs.Answers.{violation, decoded, drained}
use Rattle.interval.specs.Answers.{levels_of, outcome_is}
use Rattle.interval.proofs.Steps.{outcome_decoder, outcome_bucket, outcome_second, outcome_pin, outcome_reaches}
use Rattle.std.proofs.Common.{rules}
use Rattle.std.specs.Option.{option_map}
use Rattle.interval.proofs.step.Goals as goal

pub returns-in_err-decoder : goal.returns-in_err-decoder
unfolding outcome_is decoded
returns-in_err-decoder c = ap outcome_is (handed _ _ c.from_residual.ensures) ∙ outcome_decoder _ _ _ _ _ _ _ _ c.in_err-decoder.ensures

pub returns-then-buffers-first : goal.returns-then-buffers-first
unfolding outcome_is decoded drained violation
returns-then-buffers-first c = outcome_bucket _ _ _ _ _ _ _ _ _ c.in_ok-decoder.ensures _ (ap (λ (x : Drained). x.level) c.bucket_step-first.ensures) c.second_step-second.ensures c.if-buffers-first.true

pub returns-then-second_over : goal.returns-then-second_over
unfolding outcome_is decoded drained violation
returns-then-second_over c = outcome_second _ _ _ _ _ _ _ _ _ c.in_ok-decoder.ensures _ (ap (λ (x : Drained). x.level) c.bucket_step-first.ensures) c.second_step-second.ensures c.if-buffers-first.false (sym c.if-second_over.ensures)

pub returns-then-not-pin_holds : goal.returns-then-not-pin_holds
unfolding outcome_is decoded drained violation
returns-then-not-pin_holds c = outcome_pin _ _ _ _ _ _ _ _ _ c.in_ok-decoder.ensures _ (ap (λ (x : Drained). x.level) c.bucket_step-first.ensures) c.second_step-second.ensures c.if-buffers-first.false (sym c.if-second_over.ensures) (sym c.if-not-pin_holds.ensures)

pub returns : goal.returns
unfolding outcome_is levels_of decoded drained
returns c =
    let k : c.map.result ≡ option_map (λ d. d.level) c.second_step-second.result = search rules in
    outcome_reaches c.args.buffers c.args.before _ _ _ _ _ _ _ c.in_ok-decoder.ensures _ (ap (λ (x : Drained). x.level) c.bucket_step-first.ensures) c.second_step-second.ensures c.if-buffers-first.false (sym c.if-second_over.ensures) (sym c.if-not-pin_holds.ensures) k
