-- `sender::sent_block` meets its contract.
use Rattle.block.proofs.Blocks.{least_more}
use Rattle.sender.specs.Rates.{rate_read}
use Rattle.sender.proofs.Blocks.{least_none, least_taken}
use native.Mathlib.Omega.{arith}
use Rattle.sender.proofs.sent_block.Goals as goal

pub loop-rate-init : goal.loop-rate-init
loop-rate-init c = least_none _ _ _ _ c.requires.0 c.clear_words.ensures

pub loop-rate-preserved : goal.loop-rate-preserved
loop-rate-preserved c =
    least_more _ c.loop-rate.rate-index _ c.loop-rate.block _ c.loop-rate.invariant c.with_rate.ensures

pub returns : goal.returns
returns c =
    least_taken _ c.args.line.count c.loop-rate.rate-index (λ i y. rate_read c.args.line.outer c.args.line.inner c.args.rows c.args.rest.now c.args.level i y) c.args.line.rates _ (omega (arith, c.requires.1.rates, c.requires.1.size)) (omega arith) c.loop-rate.invariant
