-- `sender::sent_column` meets its contract.
use lib.ListN.{length, get_or}
use Rattle.block.specs.Blocks.{LeastOf}
use Rattle.sender.specs.Rates.{column_read}
use Rattle.sender.proofs.sent_column.Given as goal

abbrev pub invariant-loop-rate : goal.invariant-loop-rate
invariant-loop-rate l = LeastOf (length l.words) l.rate-index (λ i y. column_read l.drain l.words i (get_or l.rate-items y 0)) l.block
