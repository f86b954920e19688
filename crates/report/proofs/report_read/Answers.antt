-- `report::report_read` meets its contract: 14 for a plan out of shape, 12 for a list too short, else the sums.
use Rattle.report.proofs.Answering.{report_14, report_12, report_done}
use Rattle.report.specs.Answers.{reported}
use Rattle.course.proofs.Entries.{shaped_plan}
use Rattle.header.specs.Answers.{plain}
use mathlib.Core.Path.{sym, ◌∙◌}
use native.Mathlib.Omega.{arith}
use Rattle.report.proofs.report_read.Goals as goal

pub returns-then-not-shaped : goal.returns-then-not-shaped
unfolding reported
returns-then-not-shaped c = report_14 _ _ c.requires _ _ (sym c.shaped.ensures ∙ c.if-not-shaped.true)

pub returns-then-sums-header : goal.returns-then-sums-header
unfolding plain reported
returns-then-sums-header c = report_12 _ _ c.requires _ _ (sym c.shaped.ensures ∙ c.if-not-shaped.false) (omega arith)

pub put_sums-requires : goal.put_sums-requires
unfolding plain
put_sums-requires c = record {
  plan = shaped_plan _ _ c.requires _ (sym c.shaped.ensures ∙ c.if-not-shaped.false);
  room = omega arith;
}

pub returns : goal.returns
unfolding plain reported
returns c =
    report_done _ _ c.requires _ _ (sym c.shaped.ensures ∙ c.if-not-shaped.false) _ (omega arith) c.put_sums.ensures
