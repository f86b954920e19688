-- `interval::Levels::start` meets its contract.
use Rattle.header.specs.Answers.{policed_of, plain}
use Rattle.interval.specs.Answers.{levels_of, start_of}
use Rattle.interval.proofs.Steps.{read_each}
use Rattle.std.proofs.Common.{rules}
use Rattle.std.specs.Option.{option_map}
use Rattle.format.specs.JobBytes as header
use mathlib.Core.Path.{refl, ◌≡◌}
use Rattle.interval.proofs.Levels.start.Goals as goal

pub returns : goal.returns
unfolding levels_of start_of plain policed_of
returns c =
    let k : c.map.result ≡ option_map (λ b. b.fill) c.args.header.second = search rules in
    rw (k, read_each (λ (b : header.Policed). b.fill) (λ b. b.fill) c.args.header.first c.args.header.second (λ b. refl)) refl
