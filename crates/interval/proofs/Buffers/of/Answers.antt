-- `interval::Buffers::of` meets its contract.
use mathlib.Core.Path.{refl, ◌≡◌}
use Rattle.header.specs.Answers.{policed_of, plain}
use Rattle.format.specs.JobBytes.{bucket_of}
use Rattle.interval.specs.Answers.{line_of, bucket_is}
use Rattle.interval.proofs.Steps.{read_each}
use Rattle.std.proofs.Common.{rules}
use Rattle.std.specs.Option.{option_map}
use Rattle.interval.proofs.Buffers.of.Goals as goal

pub returns : goal.returns
unfolding plain policed_of line_of bucket_of
returns c =
    let k : option_map bucket_is c.map.result ≡ option_map (λ b. bucket_of (policed_of b)) c.args.header.second = search rules in
    record { decoder = refl; buckets = rw (c.of.ensures, k) (read_each bucket_of (λ b. bucket_of (policed_of b)) c.args.header.first c.args.header.second (λ b. refl)) }
