-- `written::second_of` meets its contract: the three fields behind the nine, or none.
use native.Mathlib.Omega.{arith}
use Rattle.header.specs.Answers.{policed_of}
use Rattle.written.proofs.Headers.{twelve, three_read, none_behind}
use Rattle.written.proofs.second_of.Goals as goal

pub bounds-fields-9 : goal.bounds-fields-9
bounds-fields-9 c = omega (arith, twelve _ _ c.if-not-two.false c.requires)

pub bounds-fields-10 : goal.bounds-fields-10
bounds-fields-10 c = omega (arith, twelve _ _ c.if-not-two.false c.requires)

pub bounds-fields-11 : goal.bounds-fields-11
bounds-fields-11 c = omega (arith, twelve _ _ c.if-not-two.false c.requires)

pub returns-then-not-two : goal.returns-then-not-two
returns-then-not-two c = none_behind c.args.fields.now _ c.if-not-two.true c.requires

pub returns : goal.returns
unfolding policed_of
returns c = three_read c.args.fields.now (twelve _ _ c.if-not-two.false c.requires)
