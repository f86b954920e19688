-- `table::prices_of` meets its contract.
use Rattle.decoder.proofs.Choices.{prices_none}
use Rattle.table.proofs.Candidates.{price_more}
use Prim.Native.Nat.{◌-◌}
use native.Mathlib.Omega.{arith}
use Rattle.table.proofs.prices_of.Goals as goal

pub loop-choice-init : goal.loop-choice-init
loop-choice-init c = (omega arith, prices_none _ _ c.no_prices-prices.ensures)

pub loop-choice-preserved : goal.loop-choice-preserved
loop-choice-preserved c =
    (omega arith, price_more _ _ _ c.loop-choice.choice c.loop-choice.prices _ _ c.loop-choice.invariant.1 c.candidate_at-x.ensures c.with_choice.ensures)
