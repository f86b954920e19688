-- `pinset::sum_lines` meets its contract: the sums are those of the units before the place, and small, whichever turn the loop is at.
use Rattle.pinning.proofs.Loops.{lines_more}
use native.Mathlib.Omega.{arith}
use borrow.Author.Rules.{rules}
use Rattle.pinset.specs.Answers.{tallied}
use Rattle.model.specs.Pins.{totals_to}
use Rattle.pinset.proofs.sum_lines.Goals as goal

pub loop-place-init : goal.loop-place-init
unfolding tallied totals_to
loop-place-init c = search rules

pub loop-place-preserved : goal.loop-place-preserved
loop-place-preserved c =
    let r = c.with_line-sum.ensures in
    (omega arith, lines_more _ _ _ c.loop-place.place _ _ (omega arith) (search rules) c.loop-place.invariant.1 r.is, omega arith, omega arith, omega arith)
