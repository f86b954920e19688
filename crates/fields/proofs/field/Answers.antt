-- `fields::field` meets its contract, by where the bytes end.
use Prim.Native.Nat.{◌+◌, ◌-◌}
use mathlib.Core.Path.{◌≡◌, sym, ap, ◌∙◌}
use native.Mathlib.Omega.{arith}
use Rattle.format.specs.Fields.{number}
use Rattle.format.proofs.Places.{field_there}
use Rattle.fields.proofs.Setting.{zeros_past}
use Rattle.fields.proofs.field.Goals as goal
use Rattle.fields.proofs.field.Goals.{else-s-via-then-s+else-at-s, else-s-via-else-s}

pub returns-then-at-s : goal.returns-then-at-s
returns-then-at-s g c =
    let w : c.args.at + g.row.N - c.args.at ≡ g.row.N = omega arith in
    ap number c.copy_from_slice.ensures.after ∙ rw w (sym (field_there _ _ _ (omega (arith, c.if-s.true, c.if-at-s.true))))

pub returns-else-s : goal.returns-else-s
returns-else-s g c = elim c.else-s.branch [
  | else-s-via-then-s+else-at-s w ↦ zeros_past _ _ _ (omega (arith, w.if-s.true, w.if-at-s.false))
  | else-s-via-else-s w ↦ zeros_past _ _ _ (omega (arith, w.if-s.false))
]
