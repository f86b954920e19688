-- `trial::draw_rates` meets its contract: so many rates are drawn, and the state has come as far.
use Rattle.trial.proofs.Drawing.{low_drawn, low_most, one_more, rate_next, low_next}
use Rattle.trials.specs.Draws.{after}
use Rattle.base.specs.Lists.{build}
use Rattle.base.proofs.Builds.{build_more}
use Rattle.std.proofs.Common.{refl, arith, length-set}
use Rattle.trial.proofs.draw_rates.Goals as goal

pub loop-rate-init : goal.loop-rate-init
loop-rate-init c = (omega arith, unfold after in refl, unfold low_drawn in refl, unfold build in refl, refl)

pub overflow_add-risen : goal.overflow_add-risen
overflow_add-risen c = record { fits = omega (arith, low_most c.args.state c.loop-rate.rate-index, c.loop-rate.invariant.2, c.requires) }

pub overflow_add-low : goal.overflow_add-low
overflow_add-low c = record { fits = omega (arith, low_most c.args.state c.loop-rate.rate-index, c.loop-rate.invariant.2, c.requires) }

pub loop-rate-preserved : goal.loop-rate-preserved
loop-rate-preserved c =
    let rate = rate_next c.args.state c.loop-rate.rate-index c.loop-rate.drawn _ c.loop-rate.invariant.1 c.next_state-drawn.ensures c.loop-rate.low _ c.loop-rate.invariant.2 c.upper_half.ensures in (
      omega arith,
      one_more c.args.state c.loop-rate.rate-index c.loop-rate.drawn _ c.loop-rate.invariant.1 c.next_state-drawn.ensures,
      low_next c.args.state c.loop-rate.rate-index _ rate,
      rw c.loop-rate.invariant.3 (build_more _ c.args.rates.now c.loop-rate.rate-index _ (omega arith) rate),
      simp length-set c.loop-rate.invariant.4,
    )
