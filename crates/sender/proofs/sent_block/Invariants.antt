-- `sender::sent_block` meets its contract.
use Rattle.block.specs.Blocks.{LeastOf}
use Rattle.sender.specs.Rates.{rate_read}
use lib.ListN.{get_or}
use Rattle.sender.proofs.sent_block.Given as goal

abbrev pub invariant-loop-rate : goal.invariant-loop-rate
invariant-loop-rate l = LeastOf l.width l.rate-index (λ i y. rate_read l.fn.line.outer l.fn.line.inner l.rows l.rest l.level i (get_or l.rate-items y 0)) l.block
