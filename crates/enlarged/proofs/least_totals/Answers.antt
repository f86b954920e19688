-- `enlarged::least_totals` meets its contract.
use native.Mathlib.Omega.{arith}
use Rattle.enlarged.proofs.Answering.{list_told}
use Rattle.enlarged.proofs.least_totals.Goals as goal

pub returns : goal.returns
returns c = grind (arith, list_told _ _ _ c.set_in-own.ensures _ _ _ _ _ c.least_totals.ensures)
