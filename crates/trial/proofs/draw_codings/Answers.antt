-- `trial::draw_codings` meets its contract: so many sizes and distortions are drawn, and the state has come as far.
use Rattle.trial.proofs.Drawing.{two_more, size_next, distortion_next}
use Rattle.trials.specs.Draws.{after}
use Rattle.base.specs.Lists.{build}
use Rattle.base.proofs.Builds.{build_more}
use Rattle.std.proofs.Common.{refl, arith, length-set}
use Rattle.trial.proofs.draw_codings.Goals as goal

pub loop-x-init : goal.loop-x-init
loop-x-init c = (omega arith, unfold after in refl, unfold build in refl, unfold build in refl, refl, refl)

pub loop-x-preserved : goal.loop-x-preserved
loop-x-preserved c = (
  omega arith,
  two_more c.args.state c.loop-x.x c.loop-x.drawn _ _ c.loop-x.invariant.1 c.next_state-first.ensures c.next_state-second.ensures,
  rw c.loop-x.invariant.2 (build_more _ c.args.sizes.now c.loop-x.x _ (omega arith) (size_next c.args.state c.loop-x.x c.loop-x.drawn _ _ c.loop-x.invariant.1 c.next_state-first.ensures c.next_state-second.ensures _ c.upper_half.ensures)),
  rw c.loop-x.invariant.3 (build_more _ c.args.distortions.now c.loop-x.x _ (omega (arith, c.requires)) (distortion_next c.args.state c.loop-x.x c.loop-x.drawn _ _ c.loop-x.invariant.1 c.next_state-first.ensures c.next_state-second.ensures _ c.upper_half-in-loop-x.ensures)),
  simp length-set c.loop-x.invariant.4,
  simp length-set c.loop-x.invariant.5,
)
