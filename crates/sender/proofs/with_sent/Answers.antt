-- `sender::with_sent` meets its contract.
use Rattle.sender.proofs.Column.{column_over, column_moved}
use Rattle.sender.proofs.with_sent.Goals as goal

pub returns-then-drain-sent : goal.returns-then-drain-sent
returns-then-drain-sent c = column_over _ _ _ _ _ c.if-drain-sent.true

pub returns : goal.returns
returns c = column_moved _ _ _ _ _ _ c.if-drain-sent.false c.with_levels.ensures
