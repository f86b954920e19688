-- `fields::u32_at` meets its contract: four bytes at a place are a number.
use Prim.Native.Nat.{◌+◌}
use mathlib.Core.Path.{◌≡◌, ap}
use native.Mathlib.Omega.{arith}
use lib.ListN.{get_or}
use borrow.Author.Rules.{rules}
use Rattle.format.proofs.Fields.{u32_there}
use Rattle.fields.proofs.u32_at.Goals as goal

pub returns : goal.returns
returns c =
    let a = c.args in
    let e : a.at + 2 + 1 ≡ a.at + 3 = omega arith in
    omega (arith, c.from_le_bytes.ensures, u32_there a.s.now a.at (search rules), ap (λ i. get_or a.s.now i 0) e)
