-- `reader::put_rates` meets its contract: the rates before are written, whichever turn the loop is at.
use native.Mathlib.Omega.{arith}
use lib.ListN.{length-set}
use Rattle.format.proofs.Opened.{rates_are}
use Rattle.header.specs.Answers.{plain}
use Rattle.reader.proofs.Codings.{rate_read, copied_next, copied_whole}
use Rattle.reader.proofs.put_rates.Goals as goal

pub loop-rate-preserved : goal.loop-rate-preserved
unfolding plain
loop-rate-preserved c =
    let o = c.requires.0 in (
      copied_next _ _ c.loop-rate.rate c.loop-rate.rates c.loop-rate.invariant.0 _ (omega (arith, c.requires.1)) (omega (arith, rates_are _ _ o)) (rate_read _ _ o c.loop-rate.rate _ (omega arith) c.rate_at.ensures),
      omega arith,
      simp length-set c.loop-rate.invariant.2,
    )

pub returns : goal.returns
unfolding plain
returns c =
    copied_whole _ _ c.loop-rate.rate c.loop-rate.rates c.loop-rate.invariant.0 (omega (arith, rates_are _ _ c.requires.0))
