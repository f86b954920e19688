-- `replay::replay_checked` meets its contract: 14 for a plan out of shape, 12 for a list too short, else what `play` does.
use Rattle.replay.proofs.Answering.{replay_14, replay_12, replay_played}
use Rattle.course.proofs.Entries.{shaped_plan}
use Rattle.replay.proofs.Levels.{few_levels, room_for_all}
use Rattle.replay.specs.Answers.{ended}
use Rattle.pinset.specs.Answers.{set_of}
use Rattle.header.specs.Answers.{plain}
use mathlib.Core.Path.{sym, ◌∙◌}
use native.Mathlib.Omega.{arith}
use Rattle.replay.proofs.replay_checked.Goals as goal

pub returns-then-not-shaped : goal.returns-then-not-shaped
unfolding ended
returns-then-not-shaped c = replay_14 _ _ _ c.requires _ _ (sym c.shaped.ensures ∙ c.if-not-shaped.true)

pub overflow_mul-each : goal.overflow_mul-each
unfolding plain
overflow_mul-each c =
    record { fits = omega (arith, few_levels _ _ c.requires.opens _ _ c.levels_each-each.ensures c.intervals.ensures) }

pub returns-then-levels-each : goal.returns-then-levels-each
unfolding plain ended
returns-then-levels-each c =
    replay_12 _ _ _ c.requires _ _ (sym c.shaped.ensures ∙ c.if-not-shaped.false) _ _ c.levels_each-each.ensures c.intervals.ensures c.if-levels-each.true

pub play-requires : goal.play-requires
unfolding plain set_of
play-requires c =
    let r = c.requires in
    record {
      plan = shaped_plan _ _ r.opens _ (sym c.shaped.ensures ∙ c.if-not-shaped.false);
      pins_size = r.size;
      room = room_for_all _ _ _ _ _ c.levels_each-each.ensures c.intervals.ensures c.if-levels-each.false;
    }

pub returns : goal.returns
unfolding plain set_of
returns c =
    c.play.ensures ∙ replay_played _ _ _ c.requires _ _ (sym c.shaped.ensures ∙ c.if-not-shaped.false) _ _ c.levels_each-each.ensures c.intervals.ensures c.if-levels-each.false
