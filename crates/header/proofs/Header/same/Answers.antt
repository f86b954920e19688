-- `header::Header::same` meets its contract: the derived comparison and the definition compare the same fields.
use native.Mathlib.Omega.{arith}
use Rattle.header.proofs.Fields.{all_same}
use Rattle.header.proofs.Header.same.Goals as goal

-- asks of each field that it has the other's value, whatever gave it: a comparison with a header put together from equal parts meets the contract too
pub returns : goal.returns
returns c = grind (arith, all_same c.args.self c.args.other)
