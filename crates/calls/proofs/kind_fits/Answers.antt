-- `calls::kind_fits` meets its contract: one kind, or the other.
use borrow.Author.Tests.{eq-eqb, ne_eqb}
use Rattle.calling.specs.Commands.{kind_fits}
use Rattle.calls.proofs.kind_fits.Goals as goal

pub returns-then-kind-eq-PIN : goal.returns-then-kind-eq-PIN
unfolding kind_fits
returns-then-kind-eq-PIN c = rw (eq-eqb c.args.kind 6 c.if-kind-eq-PIN.true)

pub returns-else-kind-eq-PIN : goal.returns-else-kind-eq-PIN
unfolding kind_fits
returns-else-kind-eq-PIN c = rw (ne_eqb c.args.kind 6 c.if-kind-eq-PIN.false)
