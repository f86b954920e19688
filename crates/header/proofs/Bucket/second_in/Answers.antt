-- `header::Bucket::second_in` meets its contract: none, or the three fields behind the nine.
use native.Mathlib.Omega.{arith}
use Rattle.header.specs.Answers.{policed_of}
use Rattle.header.proofs.Fields.{no_second, second_made, two_room}
use Rattle.header.proofs.Bucket.second_in.Goals as goal

pub returns-then-not-two : goal.returns-then-not-two
returns-then-not-two c = no_second c.args.body.now _ c.if-not-two.true

pub u16_at-requires : goal.u16_at-requires
u16_at-requires c = omega (arith, two_room _ _ c.if-not-two.false c.requires)

pub u16_at-requires-2 : goal.u16_at-requires-2
u16_at-requires-2 c = omega (arith, two_room _ _ c.if-not-two.false c.requires)

pub u16_at-requires-3 : goal.u16_at-requires-3
u16_at-requires-3 c = omega (arith, two_room _ _ c.if-not-two.false c.requires)

pub returns : goal.returns
unfolding policed_of
returns c = second_made c.args.body.now _ c.if-not-two.false c.u16_at.ensures c.u16_at-2.ensures c.u16_at-3.ensures
