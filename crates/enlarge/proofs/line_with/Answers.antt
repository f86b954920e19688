-- `enlarge::line_with` meets its contract: the first bucket has the size, and all else is the line's.
use native.Mathlib.Omega.{arith}
use Rattle.interval.specs.Answers.{line_of}
use Rattle.line.specs.Answers.{line_is}
use Rattle.enlarging.specs.Larger.{with_bucket, with_size}
use Rattle.enlarge.proofs.line_with.Goals as goal

pub returns : goal.returns
unfolding line_is line_of with_size with_bucket
returns c =
    let f = c.requires.0 in
    record {
      is = grind arith;
      fits = record {
        buffers = record { decoder = f.buffers.decoder; bucket = c.requires.1; drain = f.buffers.drain; second = λ b e. grind (arith, f.buffers.second) };
        rates = f.rates;
        rate = f.rate;
        size = f.size;
      };
    }
