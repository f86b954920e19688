-- `draft::lists_verdict` meets its contract.
use Rattle.format.proofs.Limits.{all_kept}
use Rattle.header.specs.Answers.{door_of}
use Rattle.header.proofs.Told.{handed_on}
use Rattle.writing.proofs.Order.{at_header, at_drains, at_lengths, at_rates, at_codings}
use mathlib.Core.Path.{sym, ◌∙◌}
use native.Mathlib.Omega.{arith}
use Rattle.draft.proofs.lists_verdict.Goals as goal

pub returns-in_err-verdict : goal.returns-in_err-verdict
returns-in_err-verdict c = handed_on _ _ c.from_residual.ensures (sym (at_header _ _ _ _ _ (sym c.in_err-verdict.ensures)))

pub returns-in_err-drains_verdict : goal.returns-in_err-drains_verdict
unfolding door_of
returns-in_err-drains_verdict c = handed_on _ _ c.from_residual-in_err-drains_verdict.ensures (sym (at_drains _ _ _ _ _ (all_kept _ (sym c.in_ok-verdict.ensures)) (sym c.in_err-drains_verdict.ensures)))

pub returns-in_err-lengths_verdict : goal.returns-in_err-lengths_verdict
unfolding door_of
returns-in_err-lengths_verdict c =
    handed_on _ _ c.from_residual-in_err-lengths_verdict.ensures
    (sym (at_lengths _ _ _ _ _ (all_kept _ (sym c.in_ok-verdict.ensures)) (all_kept _ (sym c.in_ok-drains_verdict.ensures)) (sym c.in_err-lengths_verdict.ensures)))

pub returns-in_err-rates_verdict : goal.returns-in_err-rates_verdict
unfolding door_of
returns-in_err-rates_verdict c =
    handed_on _ _ c.from_residual-in_err-rates_verdict.ensures
    (sym (at_rates _ _ _ _ _ (all_kept _ (sym c.in_ok-verdict.ensures)) (all_kept _ (sym c.in_ok-drains_verdict.ensures)) (all_kept _ (sym c.in_ok-lengths_verdict.ensures)) (sym c.in_err-rates_verdict.ensures)))

pub codings_verdict-requires : goal.codings_verdict-requires
codings_verdict-requires c = omega (arith, all_kept _ (sym c.in_ok-lengths_verdict.ensures))

pub returns : goal.returns
unfolding door_of
returns c =
    c.codings_verdict.ensures ∙ sym (at_codings _ _ _ _ (all_kept _ (sym c.in_ok-verdict.ensures)) (all_kept _ (sym c.in_ok-drains_verdict.ensures)) (all_kept _ (sym c.in_ok-lengths_verdict.ensures)) (all_kept _ (sym c.in_ok-rates_verdict.ensures)))
