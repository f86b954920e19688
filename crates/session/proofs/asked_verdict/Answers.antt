-- `session::asked_verdict` meets its contract.
use Rattle.header.proofs.Told.{handed_on}
use Rattle.base.specs.Refusals.{refusal}
use Rattle.base.proofs.Refusals.{refusal_join, unless_some, unless_none}
use Rattle.calling.specs.Sessions.{named_tests, asked_tests}
use mathlib.Core.Path.{sym, ◌∙◌}
use mathlib.Core.Option.{some}
use Rattle.session.proofs.asked_verdict.Goals as goal

pub returns-in_err-named_verdict : goal.returns-in_err-named_verdict
unfolding asked_tests
returns-in_err-named_verdict c = handed_on _ _ c.from_residual.ensures (sym (refusal_join (named_tests c.args.aim c.args.order) _ ∙ unless_some some (refusal (named_tests c.args.aim c.args.order)) _ _ (sym c.in_err-named_verdict.ensures)))

pub returns : goal.returns
unfolding asked_tests
returns c =
    c.calls_verdict.ensures ∙ sym (refusal_join (named_tests c.args.aim c.args.order) _ ∙ unless_none some (refusal (named_tests c.args.aim c.args.order)) _ (sym c.in_ok-named_verdict.ensures))
