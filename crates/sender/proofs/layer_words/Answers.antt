-- `sender::layer_words` meets its contract.
use Prim.Native.Nat.{◌+◌}
use native.Mathlib.Omega.{arith}
use Rattle.sender.proofs.Sizes.{product_fits, square_fits, row_size, layer_size}
use Rattle.sender.proofs.layer_words.Goals as goal

pub overflow_mul-result : goal.overflow_mul-result
overflow_mul-result c = let l = c.args.line in
    record { fits = omega (arith, c.row_words.ensures, row_size l, product_fits (l.decoder + 1) c.row_words.result (omega arith) (omega (arith, c.row_words.ensures, row_size l, square_fits (l.outer.size + 1) (l.inner.size + 1) (omega arith) (omega arith)))) }

pub returns : goal.returns
returns c = rw c.row_words.ensures (layer_size c.args.line)
