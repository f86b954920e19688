-- `playlist::end_for` meets its contract.
use borrow.Author.Tests.{le-leb, lt-leb}
use Rattle.playlist.specs.Answers.{end_for}
use Rattle.playlist.proofs.end_for.Goals as goal

pub returns-then-totals-standing : goal.returns-then-totals-standing
unfolding end_for
returns-then-totals-standing c = rw (lt-leb _ _ c.if-totals-standing.true)

pub returns : goal.returns
unfolding end_for
returns c = rw (le-leb _ _ c.if-totals-standing.false)
