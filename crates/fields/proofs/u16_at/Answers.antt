-- `fields::u16_at` meets its contract: two bytes at a place are a number.
use native.Mathlib.Omega.{arith}
use borrow.Author.Rules.{rules}
use Rattle.format.proofs.Fields.{two_at}
use Rattle.fields.proofs.u16_at.Goals as goal

pub returns : goal.returns
returns c = omega (arith, c.from_le_bytes.ensures, two_at c.args.s.now c.args.at (search rules))
