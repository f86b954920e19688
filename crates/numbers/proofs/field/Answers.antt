-- `numbers::field` meets its contract.
use native.Mathlib.Omega.{arith}
use Rattle.numbers.proofs.Telling.{field_there, field_small}
use Rattle.numbers.proofs.field.Goals as goal

pub bounds-list-place : goal.bounds-list-place
bounds-list-place c = field_there _ _ c.requires

pub overflow_cast-result : goal.overflow_cast-result
overflow_cast-result c = omega (arith, field_small _ _ c.requires)
