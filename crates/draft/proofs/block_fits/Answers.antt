-- `draft::block_fits` meets its contract: the codings that are left decide, where those before them fit.
use mathlib.Core.Path.{◌≡◌, refl}
use native.Mathlib.Omega.{arith}
use Rattle.format.proofs.Left.{codings_left}
use Rattle.writing.proofs.Lists.{codings_count, coding_in}
use Rattle.draft.proofs.Codings.{tested_more}
use Rattle.draft.proofs.block_fits.Goals as goal

pub loop-x-init : goal.loop-x-init
unfolding codings_left
loop-x-init c = refl

pub loop-x-preserved : goal.loop-x-preserved
loop-x-preserved c =
    let n = codings_count c.args.sizes.now c.args.distortions.now c.requires.0 in
    tested_more _ _ c.loop-x.x (omega arith) _ _ (coding_in _ _ _ (omega arith) c.requires.0) _ _ c.coding_fits-fit.ensures c.loop-x.invariant

pub returns : goal.returns
unfolding codings_left
returns c =
    let e : c.loop-x.x ≡ c.args.to = omega arith in
    rw e at c.loop-x.invariant
