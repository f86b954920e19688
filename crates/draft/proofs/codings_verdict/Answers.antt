-- `draft::codings_verdict` meets its contract: the codings that are left to check decide, whichever block the loop is at.
use mathlib.Core.Path.{refl, sym, ◌∙◌}
use native.Mathlib.Omega.{arith}
use Rattle.format.proofs.Left.{codings_left, codings_end}
use Rattle.writing.proofs.Lists.{codings_count}
use Rattle.draft.proofs.codings_verdict.Goals as goal

pub loop-at-init : goal.loop-at-init
loop-at-init c = (omega arith, refl)

pub returns-then-not-block_fits : goal.returns-then-not-block_fits
returns-then-not-block_fits c = sym (c.loop-at.invariant.1 ∙ c.if-not-block_fits.ensures)

pub loop-at-preserved : goal.loop-at-preserved
loop-at-preserved c = (omega (arith, c.min.ensures, c.loop-at.invariant.0), c.loop-at.invariant.1 ∙ c.if-not-block_fits.ensures)

pub returns : goal.returns
unfolding codings_left
returns c =
    let n = codings_count c.args.sizes.now c.args.distortions.now c.requires in
    sym (c.loop-at.invariant.1 ∙ codings_end _ c.loop-at.at (omega arith))
