-- `trial::put_drawn_units` meets its contract: what is left to write decides, whichever turn the loop is at.
use Rattle.trials.specs.Draws.{after, size_drawn, distortion_drawn}
use Rattle.base.specs.Lists.{build}
use Rattle.records.proofs.Records.{units_left}
use Rattle.writing.specs.Lists.{codings_from}
use Rattle.std.proofs.Common.{◌≡◌, ◌+◌, ◌-◌, ◌*◌, ◌≤◌, length}
use Rattle.trial.proofs.put_drawn_units.Given as goal

abbrev pub invariant-loop : goal.invariant-loop
invariant-loop l = (l.counter ≤ l.end) × (l.drawn ≡ after (2 * (l.counter * l.choices)) l.state) × (l.place ≡ l.at + l.counter * l.size) × (length l.out ≡ length l.initial.out) × (units_left l.choices (codings_from (build (l.end * l.choices) (size_drawn l.state)) (build (l.end * l.choices) (distortion_drawn l.state))) l.out l.place (l.counter * l.choices) (l.end - l.counter) ≡ units_left l.choices (codings_from (build (l.end * l.choices) (size_drawn l.state)) (build (l.end * l.choices) (distortion_drawn l.state))) l.initial.out l.at 0 (l.end - 0))
