-- `session::replay_refusal` meets its contract.
use Rattle.header.proofs.Told.{handed_on}
use Rattle.replay.proofs.Levels.{few_levels}
use mathlib.Core.Path.{sym, ◌∙◌}
use native.Mathlib.Omega.{arith}
use Rattle.header.specs.Answers.{plain, door_of}
use Rattle.job.proofs.Answers.{answer_took, answer_refused}
use Rattle.format.proofs.Opened.{opens_by}
use Rattle.session.proofs.Answering.{replay_not_read, replay_not_due, replay_14, replay_12, replay_fits}
use Rattle.session.proofs.replay_refusal.Goals as goal

pub returns-in_err-calls_verdict : goal.returns-in_err-calls_verdict
unfolding door_of
returns-in_err-calls_verdict c = handed_on _ _ c.from_residual-in_err-calls_verdict.ensures (let read = c.read in
    let d = answer_took _ _ c.in_ok-header.ensures in
    let o = opens_by _ _ _ d.job _ d.is d.header_is in
    replay_not_due _ _ _ _ _ o _ c.in_err-calls_verdict.ensures)

pub returns-then-not-shaped : goal.returns-then-not-shaped
unfolding door_of
returns-then-not-shaped c = let read = c.read in
    let d = answer_took _ _ c.in_ok-header.ensures in
    let o = opens_by _ _ _ d.job _ d.is d.header_is in
    replay_14 _ _ _ _ _ o c.in_ok-calls_verdict.ensures (sym c.shaped.ensures ∙ c.if-not-shaped.true)

pub overflow_mul-levels_each : goal.overflow_mul-levels_each
unfolding plain door_of
overflow_mul-levels_each c = let read = c.read in
    let d = answer_took _ _ c.in_ok-header.ensures in
    let o = opens_by _ _ _ d.job _ d.is d.header_is in
    record { fits = omega (arith, few_levels _ _ o c.levels_each.result c.intervals.result c.levels_each.ensures c.intervals.ensures) }

pub returns-then-levels-levels_each : goal.returns-then-levels-levels_each
unfolding plain door_of
returns-then-levels-levels_each c = let read = c.read in
    let d = answer_took _ _ c.in_ok-header.ensures in
    let o = opens_by _ _ _ d.job _ d.is d.header_is in
    replay_12 _ _ _ _ _ o c.in_ok-calls_verdict.ensures (sym c.shaped.ensures ∙ c.if-not-shaped.false) _ _ c.levels_each.ensures c.intervals.ensures c.if-levels-levels_each.true

pub returns-in_err-header : goal.returns-in_err-header
unfolding door_of
returns-in_err-header c = handed_on _ _ c.from_residual.ensures (let read = c.read in
    replay_not_read _ _ _ _ _ (answer_refused _ _ c.in_err-header.ensures))

pub returns : goal.returns
unfolding plain door_of
returns c = let read = c.read in
    let d = answer_took _ _ c.in_ok-header.ensures in
    let o = opens_by _ _ _ d.job _ d.is d.header_is in
    replay_fits _ _ _ _ _ o c.in_ok-calls_verdict.ensures (sym c.shaped.ensures ∙ c.if-not-shaped.false) _ _ c.levels_each.ensures c.intervals.ensures c.if-levels-levels_each.false
