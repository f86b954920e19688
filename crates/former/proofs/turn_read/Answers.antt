-- `former::turn_read` meets its contract: 14 for what was no plan, 12 for a list too short, else the entries.
use Rattle.former.proofs.Turning.{turn_14, turn_12, turn_done, long_enough}
use Rattle.former.specs.Answers.{turned}
use Rattle.header.specs.Answers.{plain}
use mathlib.Core.Path.{sym, ◌∙◌}
use native.Mathlib.Omega.{arith}
use Rattle.former.proofs.turn_read.Goals as goal

pub returns-then-not-shaped : goal.returns-then-not-shaped
unfolding turned
returns-then-not-shaped c = turn_14 _ _ c.requires _ _ (sym c.shaped.ensures ∙ c.if-not-shaped.true)

pub returns-then-entries-intervals : goal.returns-then-entries-intervals
unfolding plain turned
returns-then-entries-intervals c =
    turn_12 _ _ c.requires _ _ (sym c.shaped.ensures ∙ c.if-not-shaped.false) (omega (arith, c.intervals.ensures, c.if-entries-intervals.true))

pub put_entries-requires : goal.put_entries-requires
unfolding plain
put_entries-requires c =
    (long_enough _ _ (sym c.shaped.ensures ∙ c.if-not-shaped.false), omega (arith, c.intervals.ensures, c.if-entries-intervals.false))

pub returns : goal.returns
unfolding plain turned
returns c =
    turn_done _ _ c.requires _ _ (sym c.shaped.ensures ∙ c.if-not-shaped.false) _ (omega (arith, c.intervals.ensures, c.if-entries-intervals.false)) c.put_entries.ensures
