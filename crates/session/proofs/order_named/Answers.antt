-- `session::order_named` meets its contract.
use Rattle.calling.specs.Sessions.{order_named}
use Rattle.best.specs.Answers.{order_is}
use borrow.Author.Tests.{eq-eqb, ne_eqb}
use Rattle.session.proofs.order_named.Goals as goal

pub returns-then-order-eq-LATE : goal.returns-then-order-eq-LATE
unfolding order_is order_named
returns-then-order-eq-LATE c = rw (eq-eqb c.args.order 1 c.if-order-eq-LATE.true)

pub returns : goal.returns
unfolding order_is order_named
returns c = rw (ne_eqb c.args.order 1 c.if-order-eq-LATE.false)
