-- `line::word_place` meets its contract.
use native.Mathlib.Omega.{arith}
use Prim.Native.Nat.{◌+◌, ◌≤◌}
use Rattle.line.proofs.Sizes.{product_fits, sum_fits, place_fits, three_small, place_is}
use Rattle.line.proofs.word_place.Goals as goal

pub overflow_mul-row : goal.overflow_mul-row
overflow_mul-row c = product_fits _ _ (omega arith) c.second_levels-each.ensures.1

pub overflow_mul-result : goal.overflow_mul-result
overflow_mul-result c = record { fits = omega (arith, (three_small c.args.at.decoder (c.args.line.buffers.first.size + 1) c.second_levels-each.result (omega arith) (omega arith) c.second_levels-each.ensures.1).1) }

pub overflow_mul-result-2 : goal.overflow_mul-result-2
overflow_mul-result-2 c = product_fits _ _ (omega arith) c.second_levels-each.ensures.1

pub overflow_add-result : goal.overflow_add-result
overflow_add-result c =
    let s = c.second_levels-each in
    let each : s.result ≤ 65536 = omega (arith, s.ensures) in
    sum_fits _ _ _ (three_small c.args.at.decoder (c.args.line.buffers.first.size + 1) s.result (omega arith) (omega arith) each).1 (omega arith) each

pub overflow_add-result-2 : goal.overflow_add-result-2
overflow_add-result-2 c =
    let s = c.second_levels-each in
    let each : s.result ≤ 65536 = omega (arith, s.ensures) in
    place_fits _ _ _ _ (three_small c.args.at.decoder (c.args.line.buffers.first.size + 1) s.result (omega arith) (omega arith) each).1 (omega arith) each (omega (arith, c.second_place.ensures))

pub returns : goal.returns
returns c = rw (c.second_levels-each.ensures.0, c.second_place.ensures.0) (place_is c.args.line c.args.at)
