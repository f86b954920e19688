-- `decoder::closed_word` meets its contract.
use borrow.Author.Tests.{lt-ltb, le-ltb}
use Rattle.decoder.specs.Near.{far, closed}
use Rattle.decoder.proofs.closed_word.Goals as goal

pub returns-then-number-lt-FAR : goal.returns-then-number-lt-FAR
unfolding closed
returns-then-number-lt-FAR c = rw (lt-ltb _ far c.if-number-lt-FAR.true)

pub returns-else-number-lt-FAR : goal.returns-else-number-lt-FAR
unfolding closed
returns-else-number-lt-FAR c = rw (le-ltb _ far c.if-number-lt-FAR.false)
