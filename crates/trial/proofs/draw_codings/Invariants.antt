-- `trial::draw_codings` meets its contract: so many sizes and distortions are drawn, and the state has come as far.
use Rattle.trials.specs.Draws.{after, size_drawn, distortion_drawn}
use Rattle.base.specs.Lists.{build}
use Rattle.std.proofs.Common.{◌≡◌, ◌*◌, ◌≤◌, ◌++◌, length, drop}
use Rattle.trial.proofs.draw_codings.Given as goal

abbrev pub invariant-loop-x : goal.invariant-loop-x
invariant-loop-x l = (l.x ≤ length l.initial.sizes) × (l.drawn ≡ after (2 * l.x) l.state) × (l.sizes ≡ build l.x (size_drawn l.state) ++ drop l.x l.initial.sizes) × (l.distortions ≡ build l.x (distortion_drawn l.state) ++ drop l.x l.initial.distortions) × (length l.sizes ≡ length l.initial.sizes) × (length l.distortions ≡ length l.initial.distortions)
