-- `played::set_refusal` meets its contract.
use Rattle.header.proofs.Told.{handed_on}
use mathlib.Core.Path.{sym, ◌∙◌}
use native.Mathlib.Omega.{arith}
use Rattle.header.specs.Answers.{plain, verdict, door_of}
use Rattle.pinset.specs.Answers.{set_of}
use Rattle.job.proofs.Answers.{answer_took, answer_refused}
use Rattle.replay.proofs.Levels.{few_levels}
use Rattle.played.proofs.Answering.{not_read, opens, by_plan, by_levels, not_refused}
use Rattle.played.proofs.set_refusal.Goals as goal

pub returns-then-not-shaped : goal.returns-then-not-shaped
unfolding door_of set_of
returns-then-not-shaped c = let check = c.check in
    by_plan _ _ _ _ _ _ (answer_took _ _ c.in_ok-header.ensures.answer) check.ensures.sized (sym c.shaped.ensures ∙ c.if-not-shaped.true)

pub overflow_mul-levels_each : goal.overflow_mul-levels_each
unfolding plain door_of set_of
overflow_mul-levels_each c = let check = c.check in
    let o = opens _ _ c.args.entries.now c.args.levels _ _ (answer_took _ _ c.in_ok-header.ensures.answer) check.ensures.sized in
    record { fits = omega (arith, few_levels _ _ o c.levels_each.result c.intervals.result c.levels_each.ensures c.intervals.ensures) }

pub returns-then-levels-levels_each : goal.returns-then-levels-levels_each
unfolding plain door_of set_of
returns-then-levels-levels_each c = let check = c.check in
    by_levels _ _ _ _ _ _ (answer_took _ _ c.in_ok-header.ensures.answer) check.ensures.sized (sym c.shaped.ensures ∙ c.if-not-shaped.false) _ _ c.levels_each.ensures c.intervals.ensures c.if-levels-levels_each.true

pub returns-in_err-header : goal.returns-in_err-header
unfolding door_of set_of
returns-in_err-header c = handed_on _ _ c.from_residual.ensures (let check = c.check in
    not_read _ _ _ _ _ (answer_refused _ _ c.in_err-header.ensures.answer))

pub returns : goal.returns
unfolding plain door_of set_of
returns c = let check = c.check in
    not_refused _ _ _ _ _ _ (answer_took _ _ c.in_ok-header.ensures.answer) check.ensures.sized (sym c.shaped.ensures ∙ c.if-not-shaped.false) _ _ c.levels_each.ensures c.intervals.ensures c.if-levels-levels_each.false
