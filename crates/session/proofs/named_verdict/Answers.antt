-- `session::named_verdict` meets its contract.
use Rattle.base.proofs.Refusals.{refusal_past, refusal_here, refusal_last}
use borrow.Author.Tests.{lt-leb, le-leb}
use native.Mathlib.Omega.{arith}
use mathlib.Core.Path.{sym, ◌∙◌}
use Rattle.session.proofs.named_verdict.Goals as goal

pub returns-then-aim-gt-EVEN : goal.returns-then-aim-gt-EVEN
returns-then-aim-gt-EVEN c = sym (refusal_here _ _ (lt-leb c.args.aim 1 c.if-aim-gt-EVEN.true))

pub returns-then-order-gt-LATE : goal.returns-then-order-gt-LATE
returns-then-order-gt-LATE c =
    sym (refusal_past _ _ (le-leb c.args.aim 1 (omega (arith, c.if-aim-gt-EVEN.false))) ∙ refusal_here _ _ (lt-leb c.args.order 1 c.if-order-gt-LATE.true))

pub returns : goal.returns
returns c =
    sym (refusal_past _ _ (le-leb c.args.aim 1 (omega (arith, c.if-aim-gt-EVEN.false))) ∙ refusal_last _ (le-leb c.args.order 1 (omega (arith, c.if-order-gt-LATE.false))))
