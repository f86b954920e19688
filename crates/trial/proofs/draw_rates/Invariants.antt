-- `trial::draw_rates` meets its contract: so many rates are drawn, and the state has come as far.
use Rattle.trial.proofs.Drawing.{low_drawn}
use Rattle.trials.specs.Draws.{after, rate_drawn}
use Rattle.base.specs.Lists.{build}
use Rattle.std.proofs.Common.{◌≡◌, ◌≤◌, ◌++◌, length, drop}
use Rattle.trial.proofs.draw_rates.Given as goal

abbrev pub invariant-loop-rate : goal.invariant-loop-rate
invariant-loop-rate l = (l.rate-index ≤ length l.initial.rates) × (l.drawn ≡ after l.rate-index l.state) × (l.low ≡ low_drawn l.state l.rate-index) × (l.rates ≡ build l.rate-index (rate_drawn l.state) ++ drop l.rate-index l.initial.rates) × (length l.rates ≡ length l.initial.rates)
