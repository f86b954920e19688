-- `interval::Totals::none` meets its contract.
use Rattle.interval.specs.Answers.{totals_of, no_totals, line_of}
use Rattle.interval.proofs.Steps.{zeros_one}
use Rattle.std.proofs.Common.{rules}
use Rattle.std.specs.Option.{option_map}
use mathlib.Core.Path.{◌≡◌}
use Rattle.interval.proofs.Totals.none.Goals as goal

pub returns : goal.returns
unfolding totals_of no_totals line_of
returns c =
    let k : c.map.result ≡ option_map (λ p. 0) c.args.buffers.second = search rules in
    rw k (zeros_one c.args.buffers.first c.args.buffers.second)
