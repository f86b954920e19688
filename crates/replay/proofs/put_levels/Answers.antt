-- `replay::put_levels` meets its contract: the levels are stored one after another, two of them or three.
use Rattle.replay.proofs.Levels.{second_fits, third_fits, two_stored, three_stored}
use Rattle.replay.proofs.put_levels.Goals as goal

pub bounds-levels-next : goal.bounds-levels-next
bounds-levels-next c = second_fits c.args.levels.now _ _ c.args.l c.requires.0 c.requires.1 _

pub bounds-levels-last : goal.bounds-levels-last
bounds-levels-last c = third_fits c.args.levels.now _ _ c.args.l c.requires.0 c.requires.1 _ c.in-Some.is _ _

pub returns-in-Some : goal.returns-in-Some
returns-in-Some c = three_stored c.args.levels.now _ _ c.args.l c.requires.0 c.requires.1 _ c.in-Some.is

pub returns-in_default : goal.returns-in_default
returns-in_default c = two_stored c.args.levels.now _ _ c.args.l c.requires.0 c.requires.1 c.in_default.is
