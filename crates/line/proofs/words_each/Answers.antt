-- `line::words_each` meets its contract.
use native.Mathlib.Omega.{arith}
use Prim.Native.Nat.{◌+◌}
use Rattle.line.proofs.Sizes.{three_small, each_size}
use Rattle.line.proofs.words_each.Goals as goal

pub overflow_mul-row : goal.overflow_mul-row
overflow_mul-row c = record { fits = omega (arith, (three_small (c.args.buffers.decoder + 1) (c.args.buffers.first.size + 1) c.second_levels.result (omega arith) (omega arith) c.second_levels.ensures.1).0) }

pub overflow_mul-result : goal.overflow_mul-result
overflow_mul-result c = record { fits = omega (arith, (three_small (c.args.buffers.decoder + 1) (c.args.buffers.first.size + 1) c.second_levels.result (omega arith) (omega arith) c.second_levels.ensures.1).1) }

pub returns : goal.returns
returns c = rw c.second_levels.ensures.0 (each_size c.args.buffers)
