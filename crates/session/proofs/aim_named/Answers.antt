-- `session::aim_named` meets its contract.
use Rattle.calling.specs.Sessions.{aim_named}
use Rattle.planner.specs.Answers.{aim_is}
use borrow.Author.Tests.{eq-eqb, ne_eqb}
use Rattle.session.proofs.aim_named.Goals as goal

pub returns-then-aim-eq-EVEN : goal.returns-then-aim-eq-EVEN
unfolding aim_is aim_named
returns-then-aim-eq-EVEN c = rw (eq-eqb c.args.aim 1 c.if-aim-eq-EVEN.true)

pub returns : goal.returns
unfolding aim_is aim_named
returns c = rw (ne_eqb c.args.aim 1 c.if-aim-eq-EVEN.false)
