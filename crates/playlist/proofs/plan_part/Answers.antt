-- `playlist::plan_part` meets its contract.
use Rattle.header.proofs.Told.{handed_as}
use mathlib.Core.Path.{sym, ◌∙◌}
use native.Mathlib.Omega.{arith}
use Rattle.header.specs.Answers.{door_of}
use Rattle.job.proofs.Answers.{answer_took, answer_refused}
use Rattle.playlist.specs.Answers.{turned}
use Rattle.playlist.proofs.Parts.{part_unread, part_left, part_others, opened, part_opened}
use Rattle.playlist.proofs.plan_part.Goals as goal

pub returns-in_err-header : goal.returns-in_err-header
unfolding door_of
returns-in_err-header c =
    handed_as (λ x. turned x c.args.standing c.args.table.now c.args.entries.now c.args.totals.now) _ _ c.from_residual.ensures (part_unread _ c.args.standing _ _ _ _ (answer_refused _ _ c.in_err-header.ensures))

pub returns-then-taken-job : goal.returns-then-taken-job
unfolding door_of
returns-then-taken-job c =
    part_left _ c.args.standing _ _ _ _ _ (answer_took _ _ c.in_ok-header.ensures) c.if-taken-job.true

pub returns-then-not-alike : goal.returns-then-not-alike
unfolding door_of
returns-then-not-alike c =
    part_others _ c.args.standing _ _ _ _ _ (answer_took _ _ c.in_ok-header.ensures) c.if-taken-job.false (sym c.alike.ensures ∙ c.if-not-alike.true)

pub plan_opened-requires : goal.plan_opened-requires
unfolding door_of
plan_opened-requires c =
    (opened _ c.args.standing c.args.table.now c.args.entries.now c.args.totals.now _ _ (answer_took _ _ c.in_ok-header.ensures) c.if-taken-job.false (sym c.alike.ensures ∙ c.if-not-alike.false), c.requires)

pub returns : goal.returns
unfolding door_of
returns c =
    grind (arith, c.plan_opened.ensures ∙ part_opened _ c.args.standing _ _ _ _ _ (answer_took _ _ c.in_ok-header.ensures) c.if-taken-job.false (sym c.alike.ensures ∙ c.if-not-alike.false))
